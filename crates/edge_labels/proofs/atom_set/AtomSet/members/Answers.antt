use Rattle.edge_labels.proofs.SetLemmas.{ascending-now}
use Rattle.edge_labels.proofs.atom_set.AtomSet.members.Goals as goal

pub returns-in_err-atoms-clause-ascending : goal.returns-in_err-atoms-clause-ascending
returns-in_err-atoms-clause-ascending c = ascending-now c.self.inside.chunks c.args.self.now c.self.view_is

pub returns-clause-ascending : goal.returns-clause-ascending
returns-clause-ascending c = ascending-now c.self.inside.chunks c.args.self.now c.self.view_is
