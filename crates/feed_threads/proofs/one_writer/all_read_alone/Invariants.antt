use Rattle.std.proofs.Common.{All, take}
use Rattle.feed_threads.specs.Reads.{ReadsAlone}
use Rattle.feed_threads.proofs.one_writer.all_read_alone.Given as goal

-- the jobs so far read alone
abbrev pub invariant-loop-job : goal.invariant-loop-job
invariant-loop-job g l = All ReadsAlone (take l.job-index l.jobs)
