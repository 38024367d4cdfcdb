use Rattle.net_engine.proofs.ShownRows.{form-shown}
use Rattle.net_engine.proofs.shown.ShownLabelView.routers.Goals as goal

pub returns-clause-form : goal.returns-clause-form
returns-clause-form c = form-shown c.self.inside.kept c.args.self.now c.self.inside.down c.self.view_is c.routers.ensures.form
