use Rattle.std.proofs.Common.{◌≡◌, ◌+◌, ◌-◌, ◌<◌, ◌≤◌, length, get_or}
use Rattle.version_pages.specs.Keys.{first_key}
use Rattle.version_pages.specs.Shape.{Shape}
use Rattle.version_pages.proofs.tree.search.search_kids.Given as goal

abbrev pub invariant-kids : goal.invariant-kids
invariant-kids g l =
    (l.k ≤ l.last)
    × (l.last + 1 ≡ length l.kids.items)
    × ((e : Shape _) → 0 < l.k → first_key g.T.Keyed.key_of (get_or l.kids.items l.k e).items < l.key)

abbrev pub decreases-kids : goal.decreases-kids
decreases-kids g l = l.last - l.k
