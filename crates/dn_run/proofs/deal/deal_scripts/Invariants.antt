use Rattle.std.proofs.Common.{◌≡◌, ◌≤◌, ◌+◌, ◌++◌, length}
use Rattle.std.specs.Prelude.{vec_capacity}
use Rattle.std.specs.List.Sorted.{IsPermutation}
use Rattle.dn_run.specs.Deal.{left_over, readers_of, script_tasks}
use Rattle.dn_run.specs.Jobs.{scripts_of}
use Rattle.dn_run.proofs.deal.deal_scripts.Given as goal

-- the jobs so far and those of the scripts that are left are all, and every reader is in a job or left
abbrev pub invariant-loop-script : goal.invariant-loop-script
invariant-loop-script g l = record {
  jobs : l.dealt.jobs.items ++ script_tasks (length l.dealt.jobs.items + 1) (scripts_of l.script-iterator.rest.items) l.dealt.left.items ≡ script_tasks 1 (scripts_of l.fn.scripts.items) l.fn.dealt.left.items;
  left : left_over (scripts_of l.script-iterator.rest.items) l.dealt.left.items ≡ left_over (scripts_of l.fn.scripts.items) l.fn.dealt.left.items;
  moves : IsPermutation l.fn.dealt.left.items (readers_of l.dealt.jobs.items ++ l.dealt.left.items);
  few : length l.dealt.jobs.items + length l.script-iterator.rest.items ≤ 64;
  room : length l.dealt.jobs.items + length l.script-iterator.rest.items ≤ vec_capacity l.dealt.jobs;
  same : vec_capacity l.dealt.jobs ≡ vec_capacity l.fn.dealt.jobs;
}
