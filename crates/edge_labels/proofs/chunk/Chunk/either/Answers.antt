use Rattle.std.proofs.Common.{arith}
use Rattle.edge_labels.specs.Bits.{chunk_bit}
use Rattle.edge_labels.proofs.BitLemmas.{bit-or}
use Rattle.edge_labels.proofs.chunk.Chunk.either.Goals as goal

pub returns : goal.returns
unfolding chunk_bit
returns c = λ k. bit-or c.args.self.now.words c.args.other.now.words k (omega arith) (omega arith)
