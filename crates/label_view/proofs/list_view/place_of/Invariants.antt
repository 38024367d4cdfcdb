use Rattle.std.proofs.Common.{◌<◌, ◌≤◌, ◌-◌, length, get_or}
use Rattle.base.specs.declared.forwarding_row.ForwardingRow.{ForwardingRow}
use Rattle.label_view.proofs.list_view.place_of.Given as goal

-- there is a row at the place, and it doesn't begin above the address
abbrev pub invariant-search : goal.invariant-search
invariant-search l = record {
  inside : l.place < length l.rows;
  from : (d : ForwardingRow) → (get_or l.rows l.place d).low ≤ l.a;
}

abbrev pub decreases-search : goal.decreases-search
decreases-search l = length l.rows - l.place
