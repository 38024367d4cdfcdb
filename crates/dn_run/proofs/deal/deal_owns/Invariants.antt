use Rattle.std.proofs.Common.{◌≡◌, ◌≤◌, ◌+◌, ◌++◌, length}
use Rattle.std.specs.Prelude.{vec_capacity}
use Rattle.dn_run.specs.Deal.{own_tasks, readers_of}
use Rattle.dn_run.proofs.deal.deal_owns.Given as goal

-- the jobs so far and those of the readers that are left are all, and every reader is in a job or left
abbrev pub invariant-loop-alloc : goal.invariant-loop-alloc
invariant-loop-alloc g l = record {
  jobs : l.dealt.jobs.items ++ own_tasks (length l.dealt.jobs.items + 1) l.dealt.left.items ≡ l.fn.dealt.jobs.items ++ own_tasks (length l.fn.dealt.jobs.items + 1) l.fn.dealt.left.items;
  readers : readers_of l.dealt.jobs.items ++ l.dealt.left.items ≡ readers_of l.fn.dealt.jobs.items ++ l.fn.dealt.left.items;
  few : length l.dealt.jobs.items + length l.dealt.left.items ≤ 64;
  room : length l.dealt.jobs.items + length l.dealt.left.items ≤ vec_capacity l.dealt.jobs;
}

abbrev pub decreases-loop-alloc : goal.decreases-loop-alloc
decreases-loop-alloc g l = length l.dealt.left.items
