use Rattle.edge_labels.proofs.SetLemmas.{no-members}
use Rattle.edge_labels.proofs.atom_set.AtomSet.empty.Goals as goal

pub returns : goal.returns
returns c = no-members c.new.result c.new.ensures
