use Rattle.std.proofs.Common.{◌≡◌, ◌+◌, length, drop}
use Rattle.version_pages.specs.Shape.{joined}
use Rattle.version_pages.proofs.tree.parts.len_of.Given as goal

abbrev pub invariant-loop-kid : goal.invariant-loop-kid
invariant-loop-kid g l = l.len + length (joined (drop l.kid-index l.kids)) ≡ length (joined l.kids)
