use Rattle.std.proofs.Common.{◌≡◌, ◌-◌, ◌<◌, ◌≤◌, ℕ, false, length, get_or}
use Rattle.base.specs.Reach.{is_over}
use Rattle.base.specs.declared.target.Target.{Target}
use Rattle.net_engine.proofs.link_turn.next_over.Given as goal

-- none so far is over the link
abbrev pub invariant-targets : goal.invariant-targets
invariant-targets l = record {
  from : l.k ≤ l.place;
  inside : l.place ≤ length l.targets;
  none : (j : ℕ) (d : Target) → l.k ≤ j → j < l.place → is_over l.link (get_or l.targets j d) ≡ false;
}

abbrev pub decreases-targets : goal.decreases-targets
decreases-targets l = length l.targets - l.place
