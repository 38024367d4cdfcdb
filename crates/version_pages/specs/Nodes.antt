-- What a node stands for.
use Rattle.std.specs.Prelude.{◌<◌, ◌≤◌, length}
use Rattle.version_pages.specs.Shape.{Shape, page_shape, fork_shape, AreEnds, AreKids}
use Rattle.version_pages.specs.declared.tree.Node.{Node}
use Rattle.version_pages.specs.declared.tree.Node.TheVariants.{Page, Fork}

abbrev pub shape_of : {T : Type 0} → Node T → Shape T
shape_of (Page items) = page_shape items.items
shape_of (Fork kids height ends density) = fork_shape height kids.items

-- a page has 1 to 64 elements
abbrev pub IsKept : {T : Type 0} → Node T → Type 0
IsKept (Page items) = (0 < length items.items) × (length items.items ≤ 64)
IsKept (Fork kids height ends density) = AreKids height kids.items × AreEnds ends.items kids.items
