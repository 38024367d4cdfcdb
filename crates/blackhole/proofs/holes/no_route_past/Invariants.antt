use Rattle.std.proofs.Common.{◌≡◌, ℕ, ◌+◌, ◌-◌, ◌<◌, ◌≤◌, length, slice_index_or}
use Rattle.base.specs.declared.target.Target.{Target}
use Rattle.base.specs.declared.target.Target.TheVariants.{NoRoute}
use Rattle.blackhole.proofs.holes.no_route_past.Given as goal

-- the rows so far have no route, and each took a look
abbrev pub invariant-rows : goal.invariant-rows
invariant-rows g l = record {
  from : l.k ≤ l.past;
  inside : l.past ≤ length l.targets;
  none : (j : ℕ) (d : Target) → l.k ≤ j → j < l.past → slice_index_or l.targets j d ≡ NoRoute;
  cost : l.steps + l.k ≡ l.initial.steps + l.past;
}

abbrev pub decreases-rows : goal.decreases-rows
decreases-rows g l = length l.targets - l.past
