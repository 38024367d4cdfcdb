use Rattle.std.proofs.Common.{◌∙◌}
use Rattle.net_engine.proofs.ShownRows.{count-shown, form-shown}
use Rattle.net_engine.proofs.shown.ShownLabelView.atoms.Goals as goal

pub returns-clause-form : goal.returns-clause-form
returns-clause-form c = form-shown c.self.inside.kept c.args.self.now c.self.inside.down c.self.view_is c.atoms.ensures.form

pub returns-clause-value : goal.returns-clause-value
returns-clause-value c = c.atoms.ensures.value ∙ count-shown c.self.inside.kept c.args.self.now c.self.inside.down c.self.view_is
