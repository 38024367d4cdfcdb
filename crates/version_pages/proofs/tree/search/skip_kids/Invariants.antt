use Rattle.std.proofs.Common.{◌-◌, ◌<◌, length, get_or}
use Rattle.version_pages.specs.Keys.{first_key}
use Rattle.version_pages.specs.Shape.{Shape}
use Rattle.version_pages.proofs.tree.search.skip_kids.Given as goal

abbrev pub invariant-fours : goal.invariant-fours
invariant-fours g l = (l.k < length l.kids.items) × ((e : Shape _) → 0 < l.k → first_key g.T.Keyed.key_of (get_or l.kids.items l.k e).items < l.key)

abbrev pub decreases-fours : goal.decreases-fours
decreases-fours g l = length l.kids.items - l.k
