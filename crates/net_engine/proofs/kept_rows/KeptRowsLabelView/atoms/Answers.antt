use Rattle.std.proofs.Common.{◌∙◌, subst}
use Rattle.base.specs.Forwarding.{AreForwarding}
use Rattle.net_engine.specs.Shown.{View}
use Rattle.net_engine.proofs.RowsKept.{count-kept}
use Rattle.net_engine.proofs.kept_rows.KeptRowsLabelView.atoms.Goals as goal

pub returns-clause-form : goal.returns-clause-form
returns-clause-form c = subst (λ (v : View). AreForwarding v.routers v.rows) c.self.view_is c.self.invariant.form

pub returns-clause-value : goal.returns-clause-value
returns-clause-value c = c.count.ensures.value ∙ count-kept c.self.inside.routers c.self.inside.atoms c.self.inside.labels c.args.self.now c.self.view_is
