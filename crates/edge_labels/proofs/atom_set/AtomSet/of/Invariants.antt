use Rattle.std.proofs.Common.{drop}
use Rattle.edge_labels.specs.Atoms.{has_atom, numbers}
use Rattle.edge_labels.proofs.SetLemmas.{Adds}
use Rattle.edge_labels.proofs.atom_set.AtomSet.of.Given as goal

abbrev pub invariant-loop-atom : goal.invariant-loop-atom
invariant-loop-atom l = Adds l.set (numbers (drop l.atom-index l.atoms)) (has_atom (numbers l.atoms))
