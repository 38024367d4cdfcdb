use Rattle.std.proofs.Common.{◌≡◌, ◌++◌, ◌+◌, ◌-◌, ◌≤◌, length, take, drop}
use Rattle.version_pages.proofs.pages.Pages.insert_inside.Given as goal

abbrev pub invariant-pages : goal.invariant-pages
invariant-pages g l =
    (l.at ≤ length l.items)
    × ((length l.self ≡ length l.initial.self + l.at)
    × (l.self ≡ take l.i l.initial.self ++ take l.at l.items ++ drop l.i l.initial.self))

abbrev pub decreases-pages : goal.decreases-pages
decreases-pages g l = length l.items - l.at
