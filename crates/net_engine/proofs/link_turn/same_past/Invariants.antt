use Rattle.std.proofs.Common.{◌≡◌, ℕ, ◌-◌, ◌<◌, ◌≤◌, length, get_or}
use Rattle.base.specs.declared.target.Target.{Target}
use Rattle.net_engine.proofs.link_turn.same_past.Given as goal

-- the rows so far are those of one target
abbrev pub invariant-rows : goal.invariant-rows
invariant-rows l = record {
  from : l.k < l.past;
  inside : l.past ≤ length l.targets;
  same : (j : ℕ) (d : Target) → l.k ≤ j → j < l.past → get_or l.targets j d ≡ get_or l.targets l.k d;
}

abbrev pub decreases-rows : goal.decreases-rows
decreases-rows l = length l.targets - l.past
