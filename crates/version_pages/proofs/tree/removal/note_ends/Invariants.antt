use Rattle.std.proofs.Common.{ℕ, length, ◌-◌, ◌≡◌, ◌+◌, ◌<◌, ◌≤◌, get_or, take}
use Rattle.version_pages.specs.Shape.{joined}
use Rattle.version_pages.proofs.tree.removal.note_ends.Given as goal

abbrev pub invariant-kids : goal.invariant-kids
invariant-kids g l =
    (l.n ≤ length l.kids.items)
    × ((length l.ends ≡ length l.kids.items)
    × ((l.end ≡ length (joined (take l.n l.kids.items)))
    × ((k d : ℕ) → k < l.n → get_or l.ends k d ≡ length (joined (take (k + 1) l.kids.items)))))

abbrev pub decreases-kids : goal.decreases-kids
decreases-kids g l = length l.kids.items - l.n
