use Rattle.std.proofs.Common.{◌≡◌, ◌≤◌, ◌*◌}
use Rattle.edge_labels.specs.Bits.{chunk_bit, count_below}
use Rattle.edge_labels.proofs.chunk.Chunk.count.Given as goal

abbrev pub invariant-loop-word : goal.invariant-loop-word
invariant-loop-word l = record {
  counted : l.count ≡ count_below (chunk_bit l.self) (64 * l.word-index);
  few : l.count ≤ 64 * l.word-index;
}
