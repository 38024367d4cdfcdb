use Rattle.std.proofs.Common.{length}
use Rattle.feed_threads.proofs.reader_jobs.+fn-run_readers-join+arg2+run_readers.Given as goal

abbrev pub decreases-join+arg2 : goal.decreases-join+arg2
decreases-join+arg2 g l = length l.others.jobs.items

abbrev pub decreases-run_readers : goal.decreases-run_readers
decreases-run_readers g l = length l.batch.jobs.items
