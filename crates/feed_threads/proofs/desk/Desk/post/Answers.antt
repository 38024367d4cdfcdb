use denote.Param.Send.{sendable}
use Rattle.std.proofs.Crossing.{crosses}
use Rattle.version_store.proofs.Crossing.{Store-send}
use Rattle.feed_threads.proofs.desk.Desk.post.Goals as goal

pub apply-requires-send-B : goal.apply-requires-send-B
apply-requires-send-B g c κs within = search (Store-send, sendable, crosses) depth 40
