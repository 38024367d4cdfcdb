use Rattle.std.proofs.Common.{◌≡◌, ◌≤◌, ◌-◌, length, take, drop}
use Rattle.edge_labels.proofs.code_rows.codes_from.Given as goal

abbrev pub invariant-pages : goal.invariant-pages
invariant-pages l = (length l.row.items ≤ l.count) × (l.row.items ≡ take (length l.row.items) (drop l.from l.codes))

abbrev pub decreases-pages : goal.decreases-pages
decreases-pages l = l.count - length l.row.items
