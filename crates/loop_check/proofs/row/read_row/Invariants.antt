use Rattle.std.proofs.Common.{◌≡◌, ◌+◌}
use Rattle.loop_check.proofs.row.read_row.Given as goal

-- a step for each router so far
abbrev pub invariant-loop-router : goal.invariant-loop-router
invariant-loop-router g l = l.steps ≡ l.initial.steps + l._router
