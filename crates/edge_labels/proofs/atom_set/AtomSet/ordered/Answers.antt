use Rattle.edge_labels.proofs.SetLemmas.{ascending-now}
use Rattle.edge_labels.proofs.atom_set.AtomSet.ordered.Goals as goal

pub returns-clause-ascending : goal.returns-clause-ascending
returns-clause-ascending c = ascending-now c.self.inside.chunks c.args.self.now c.self.view_is
