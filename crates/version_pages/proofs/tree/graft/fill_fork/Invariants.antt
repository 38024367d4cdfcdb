use Rattle.std.proofs.Common.{◌≡◌, ◌++◌, ◌≤◌, ◌-◌, length, take}
use Rattle.version_pages.specs.Shape.{AreEnds, AreKids, joined}
use Rattle.version_pages.proofs.tree.graft.fill_fork.Given as goal

abbrev pub invariant-pages : goal.invariant-pages
invariant-pages g l =
    (l.at ≤ length l.items)
    × ((joined l.kids.items ≡ joined l.initial.kids.items ++ take l.at l.items)
    × (AreKids 1 l.kids.items × AreEnds l.ends.items l.kids.items))

abbrev pub decreases-pages : goal.decreases-pages
decreases-pages g l = length l.items - l.at
