use Rattle.std.proofs.Common.{arith}
use Rattle.edge_labels.specs.Bits.{chunk_bit}
use Rattle.edge_labels.proofs.BitLemmas.{bit-without}
use Rattle.edge_labels.proofs.chunk.Chunk.without.Goals as goal

pub returns : goal.returns
unfolding chunk_bit
returns c = λ k. bit-without c.args.self.now.words c.args.other.now.words k (omega arith) (omega arith)
