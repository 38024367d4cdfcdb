use Rattle.std.proofs.Common.{◌≡◌, ◌-◌, ◌≤◌}
use Rattle.version_pages.specs.Shape.{end_before}
use Rattle.version_pages.proofs.tree.on.Given as goal

abbrev pub invariant-on : goal.invariant-on
invariant-on l = (l.k ≤ l.last) × (l.first ≡ end_before l.ends.items l.k) × (l.first ≤ l.i)

abbrev pub decreases-on : goal.decreases-on
decreases-on l = l.last - l.k
