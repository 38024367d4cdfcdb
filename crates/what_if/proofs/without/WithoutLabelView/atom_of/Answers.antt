use Rattle.what_if.proofs.Lowered.{from-of, to-of}
use Rattle.what_if.proofs.without.WithoutLabelView.atom_of.Goals as goal

pub returns-clause-from : goal.returns-clause-from
returns-clause-from g c = from-of g.V.LabelView.rows c.args.self.now c.self.inside.view.now _ c.atom_of.result c.args.a c.self.view_is c.atom_of.ensures.inside c.atom_of.ensures.from

pub returns-clause-to : goal.returns-clause-to
returns-clause-to g c = to-of g.V.LabelView.rows c.args.self.now c.self.inside.view.now _ c.atom_of.result c.args.a c.self.view_is c.atom_of.ensures.inside c.atom_of.ensures.to
