use Rattle.what_if.proofs.Lowered.{low-of, past-of}
use Rattle.what_if.proofs.without.WithoutLabelView.bounds.Goals as goal

pub returns-clause-low : goal.returns-clause-low
returns-clause-low g c = low-of g.V.LabelView.rows c.args.self.now c.self.inside.view.now _ c.args.i c.bounds.result.0 c.self.view_is c.requires c.bounds.ensures.low

pub returns-clause-past : goal.returns-clause-past
returns-clause-past g c = past-of g.V.LabelView.rows c.args.self.now c.self.inside.view.now _ c.args.i c.bounds.result.1 c.self.view_is c.requires c.bounds.ensures.past
