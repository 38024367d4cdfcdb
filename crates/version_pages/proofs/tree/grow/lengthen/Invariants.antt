use Rattle.std.proofs.Common.{◌-◌, ◌≤◌, length}
use Rattle.version_pages.specs.Shape.{AreLonger}
use Rattle.version_pages.proofs.tree.grow.lengthen.Given as goal

abbrev pub invariant-ends : goal.invariant-ends
invariant-ends l = (l.n ≤ length l.ends) × ((l.fn.k ≤ l.n) × AreLonger l.initial.ends l.ends l.fn.k l.n l.fn.count)

abbrev pub decreases-ends : goal.decreases-ends
decreases-ends l = length l.ends - l.n
