use Rattle.what_if.proofs.Lowered.{column-of}
use Rattle.what_if.proofs.without.WithoutLabelView.column.Goals as goal

pub returns-clause-targets : goal.returns-clause-targets
returns-clause-targets g c = column-of g.V.LabelView.rows c.args.self.now c.self.inside.view.now c.self.inside.links.now c.args.i c.column-count.result c.args.r c.column-count.new.out c.take_links_down.new.targets _ c.self.view_is c.column-count.ensures.inside c.column-count.ensures.within c.column-count.ensures.targets c.take_links_down.ensures
