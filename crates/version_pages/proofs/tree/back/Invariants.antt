use Rattle.std.proofs.Common.{◌≡◌, ◌≤◌}
use Rattle.version_pages.specs.Shape.{end_before}
use Rattle.version_pages.proofs.tree.back.Given as goal

abbrev pub invariant-back : goal.invariant-back
invariant-back l = (l.k ≤ l.from) × (l.first ≡ end_before l.ends.items l.k)

abbrev pub decreases-back : goal.decreases-back
decreases-back l = l.k
