use Rattle.std.proofs.Common.{◌≡◌, ◌++◌, ◌≤◌, ◌-◌, length, take}
use Rattle.version_pages.proofs.pages.Pages.extend.Given as goal

abbrev pub invariant-pages : goal.invariant-pages
invariant-pages g l = (l.at ≤ length l.items) × (l.self ≡ l.initial.self ++ take l.at l.items)

abbrev pub decreases-pages : goal.decreases-pages
decreases-pages g l = length l.items - l.at
