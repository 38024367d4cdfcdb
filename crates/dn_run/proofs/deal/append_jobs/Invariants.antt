use Rattle.std.proofs.Common.{◌≡◌, ◌≤◌, ◌+◌, ◌++◌, length, map}
use Rattle.std.specs.Prelude.{vec_capacity}
use Rattle.dn_run.specs.Deal.{readers_of, unread_back}
use Rattle.dn_run.proofs.deal.append_jobs.Given as goal

-- the sources so far have their room, and those of the jobs that are left find theirs
abbrev pub invariant-loop-job : goal.invariant-loop-job
invariant-loop-job g l = record {
  put : l.backs.items ++ map unread_back (readers_of l.job-iterator.rest.items) ≡ l.fn.backs.items ++ map unread_back (readers_of l.fn.jobs.items);
  room : length l.backs.items + length (readers_of l.job-iterator.rest.items) ≤ vec_capacity l.backs;
  same : vec_capacity l.backs ≡ vec_capacity l.fn.backs;
}
