use Rattle.what_if.proofs.Lowered.{targets-of}
use Rattle.what_if.proofs.without.WithoutLabelView.row.Goals as goal

pub returns : goal.returns
returns g c = targets-of g.V.LabelView.rows c.args.self.now c.self.inside.view.now c.self.inside.links.now c.args.i c.row.new.out c.take_links_down.new.targets c.self.view_is c.requires.place c.row.ensures c.take_links_down.ensures
