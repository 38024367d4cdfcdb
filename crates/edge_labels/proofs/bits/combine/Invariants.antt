use Rattle.std.proofs.Common.{◌≡◌, length}
use Rattle.edge_labels.proofs.BitsLemmas.{AreCombined}
use Rattle.edge_labels.proofs.bits.combine.Given as goal

abbrev pub invariant-loop-i : goal.invariant-loop-i
invariant-loop-i l = record {
  count : length l.chunks ≡ l.i;
  bits : AreCombined l.operation l.first l.second l.chunks l.i;
}
