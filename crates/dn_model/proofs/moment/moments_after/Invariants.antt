use Rattle.std.proofs.Common.{◌-◌, ◌≡◌, ◌≤◌, length}
use Rattle.dn_model.specs.Moment.{AreMomentsOf}
use Rattle.dn_model.proofs.moment.moments_after.Given as goal

-- the routers so far
abbrev pub invariant-loop-next : goal.invariant-loop-next
invariant-loop-next l = (l.next ≤ l.count) × (length l.moments.items ≡ l.next) × AreMomentsOf l.t l.entries l.moments.items

abbrev pub decreases-loop-next : goal.decreases-loop-next
decreases-loop-next l = l.count - l.next
