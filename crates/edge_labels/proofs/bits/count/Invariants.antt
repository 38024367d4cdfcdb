use Rattle.std.proofs.Common.{◌≡◌, ◌≤◌, ◌*◌}
use Rattle.edge_labels.specs.Bits.{count_below, has_bit}
use Rattle.edge_labels.proofs.bits.count.Given as goal

abbrev pub invariant-loop-i : goal.invariant-loop-i
invariant-loop-i l = record {
  counted : l.count ≡ count_below (has_bit l.chunks) (512 * l.i);
  few : l.count ≤ 512 * l.i;
}
