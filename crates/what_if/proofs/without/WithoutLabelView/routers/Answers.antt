use Rattle.what_if.proofs.Lowered.{form-of}
use Rattle.what_if.proofs.without.WithoutLabelView.routers.Goals as goal

pub returns-clause-form : goal.returns-clause-form
returns-clause-form g c = form-of g.V.LabelView.width g.V.LabelView.rows c.args.self.now c.self.inside.view.now _ c.self.view_is c.routers.ensures.form
