use Rattle.std.proofs.Common.{◌≡◌, ◌≤◌, ◌-◌, length, take, drop}
use Rattle.target_rows.proofs.chunk_rows.chunks_from.Given as goal

abbrev pub invariant-pages : goal.invariant-pages
invariant-pages l = (length l.row.items ≤ l.count) × (l.row.items ≡ take (length l.row.items) (drop l.from l.chunks))

abbrev pub decreases-pages : goal.decreases-pages
decreases-pages l = l.count - length l.row.items
