use Rattle.std.proofs.Common.{◌≡◌, length, take}
use Rattle.version_pages.specs.Shape.{AreEndsTo, joined}
use Rattle.version_pages.proofs.tree.parts.ends_of.Given as goal

abbrev pub invariant-loop-kid : goal.invariant-loop-kid
invariant-loop-kid g l = AreEndsTo l.ends.items l.kids l.kid-index × (l.end ≡ length (joined (take l.kid-index l.kids)))
