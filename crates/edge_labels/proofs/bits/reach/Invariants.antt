use Rattle.std.proofs.Common.{◌≡◌, ℕ, ◌≤◌, max, length}
use Rattle.edge_labels.specs.Bits.{has_bit}
use Rattle.edge_labels.proofs.bits.reach.Given as goal

abbrev pub invariant-loop-i : goal.invariant-loop-i
invariant-loop-i l = record {
  bits : (a : ℕ) → has_bit l.chunks a ≡ has_bit l.fn.chunks a;
  count : length l.chunks ≡ l.i;
  few : length l.chunks ≤ max (length l.fn.chunks) l.len;
}
