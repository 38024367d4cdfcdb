use Rattle.std.proofs.Common.{◌≡◌, ◌≤◌, ◌-◌, length, take}
use Rattle.version_store.proofs.history.History.to_list.Given as goal

-- the entries of the first pages
abbrev pub invariant-pages : goal.invariant-pages
invariant-pages l = (length l.list.items ≤ l.count) × (l.list.items ≡ take (length l.list.items) l.self-inside.pages)

abbrev pub decreases-pages : goal.decreases-pages
decreases-pages l = l.count - length l.list.items
