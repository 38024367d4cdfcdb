use Rattle.what_if.proofs.Lowered.{target-of}
use Rattle.what_if.proofs.without.WithoutLabelView.target.Goals as goal

pub returns : goal.returns
returns g c = target-of g.V.LabelView.rows c.args.self.now c.self.inside.view.now c.self.inside.links.now c.args.i c.args.r c.target.result c.with_links_down.result c.self.view_is c.requires.place c.target.ensures c.with_links_down.ensures
