use denote.Param.Send.{sendable}
use Rattle.std.proofs.Crossing.{crosses}
use Rattle.version_store.proofs.Crossing.{Snapshot-send, Snapshot-sync}
use Rattle.feed_threads.proofs.reader_job.Bench.outcome.Goals as goal

pub pin-requires-send-S : goal.pin-requires-send-S
pin-requires-send-S g c κs = search (Snapshot-send, sendable, crosses) depth 40

pub pin-requires-sync-S : goal.pin-requires-sync-S
pin-requires-sync-S g c κs = search (Snapshot-sync, sendable, crosses) depth 40
