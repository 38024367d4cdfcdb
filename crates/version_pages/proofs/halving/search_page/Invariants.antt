use Rattle.std.proofs.Common.{◌+◌}
use Rattle.version_pages.specs.Search.{IsBetween}
use Rattle.version_pages.proofs.halving.search_page.Given as goal

abbrev pub invariant-halving : goal.invariant-halving
invariant-halving g l = IsBetween g.T.Keyed.key_of l.items l.key l.low (l.low + l.left)

abbrev pub decreases-halving : goal.decreases-halving
decreases-halving g l = l.left
