use Rattle.std.proofs.Common.{length}
use Rattle.feed_threads.proofs.all_jobs.+fn-run_batch-join+arg2+run_batch.Given as goal

abbrev pub decreases-join+arg2 : goal.decreases-join+arg2
decreases-join+arg2 g l = length l.others.jobs.items

abbrev pub decreases-run_batch : goal.decreases-run_batch
decreases-run_batch g l = length l.batch.jobs.items
