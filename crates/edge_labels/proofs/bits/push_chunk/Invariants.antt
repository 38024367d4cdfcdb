use Rattle.std.proofs.Common.{◌≡◌, ◌++◌}
use Rattle.edge_labels.specs.Atoms.{numbers}
use Rattle.edge_labels.specs.Bits.{numbers_from}
use Rattle.edge_labels.proofs.bits.push_chunk.Given as goal

abbrev pub invariant-loop-k : goal.invariant-loop-k
invariant-loop-k l = numbers l.atoms.items ≡ numbers l.fn.atoms.items ++ numbers_from l.chunk l.base l.k
