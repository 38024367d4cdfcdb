use Rattle.std.proofs.Common.{arith}
use Rattle.edge_labels.specs.Bits.{chunk_bit}
use Rattle.edge_labels.proofs.BitLemmas.{bit-added}
use Rattle.edge_labels.proofs.chunk.Chunk.add.Goals as goal

pub returns : goal.returns
unfolding chunk_bit
returns c = λ j. bit-added c.args.self.now.words c.args.k j (omega arith)
