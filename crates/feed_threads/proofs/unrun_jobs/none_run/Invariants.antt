use Rattle.std.proofs.Common.{◌≡◌, ◌≤◌, ◌+◌, length}
use Rattle.std.specs.Prelude.{vec_capacity}
use Rattle.feed_threads.proofs.BesideLemmas.{NotRunSoFar}
use Rattle.feed_threads.proofs.unrun_jobs.none_run.Given as goal

-- the jobs so far aren't run, and those that are left find their room
abbrev pub invariant-loop-job : goal.invariant-loop-job
invariant-loop-job g l = record {
  done : NotRunSoFar l.fn.jobs.items l.job-iterator.rest.items l.dones.items;
  room : length l.dones.items + length l.job-iterator.rest.items ≤ vec_capacity l.dones;
  kept : vec_capacity l.dones ≡ vec_capacity l.fn.room;
}
