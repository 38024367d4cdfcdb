use denote.Param.Send.{sendable}
use Rattle.std.proofs.Crossing.{crosses}
use Rattle.version_store.proofs.Crossing.{Snapshot-send, Snapshot-sync}
use Rattle.feed_threads.proofs.one_job.run_job.Goals as goal

pub close-requires-send-S : goal.close-requires-send-S
close-requires-send-S g c κs within = search (Snapshot-send, sendable, crosses) depth 40

pub close-requires-sync-S : goal.close-requires-sync-S
close-requires-sync-S g c κs within = search (Snapshot-sync, sendable, crosses) depth 40
