use Rattle.std.proofs.Common.{eqb, ap, get_or, ◌/◌, ◌%◌}
use Rattle.std.proofs.lemmas.Nat.Bits.{shr_and_one}
use Rattle.edge_labels.specs.Bits.{chunk_bit}
use Rattle.edge_labels.proofs.chunk.Chunk.has.Goals as goal

pub returns : goal.returns
unfolding chunk_bit
returns c = ap (λ x. eqb x 1) (shr_and_one (get_or c.args.self.now.words (c.args.k / 64) 0) (c.args.k % 64))
