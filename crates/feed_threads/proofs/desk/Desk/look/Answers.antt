use denote.Param.Send.{sendable}
use Rattle.std.proofs.Crossing.{crosses}
use Rattle.version_store.proofs.Crossing.{Store-send}
use Rattle.feed_threads.proofs.SeatLemmas.{looks_kept}
use Rattle.feed_threads.proofs.desk.Desk.look.Goals as goal

pub pin-requires-send-B : goal.pin-requires-send-B
pin-requires-send-B g c κs within = search (Store-send, sendable, crosses) depth 40

pub returns-clause-looks : goal.returns-clause-looks
returns-clause-looks g c = looks_kept _ _ c.pin.ensures.same c.pin.ensures.seen c.number-number.ensures.used c.pin.ensures.own
