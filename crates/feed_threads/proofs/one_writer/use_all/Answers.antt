use denote.Param.Send.{sendable}
use Rattle.std.proofs.Crossing.{crosses}
use Rattle.version_store.proofs.Crossing.{Store-send}
use Rattle.feed_threads.proofs.one_writer.use_all.Goals as goal

pub split-other-requires-send-B : goal.split-other-requires-send-B
split-other-requires-send-B c κs = search (Store-send, sendable, crosses) depth 40

pub join-requires-send-B : goal.join-requires-send-B
join-requires-send-B c κs = search (Store-send, sendable, crosses) depth 40
