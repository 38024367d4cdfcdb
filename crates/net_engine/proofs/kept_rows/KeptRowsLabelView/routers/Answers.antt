use Rattle.std.proofs.Common.{subst}
use Rattle.base.specs.Forwarding.{AreForwarding}
use Rattle.net_engine.specs.Shown.{View}
use Rattle.net_engine.proofs.kept_rows.KeptRowsLabelView.routers.Goals as goal

pub returns-clause-form : goal.returns-clause-form
returns-clause-form c = subst (λ (v : View). AreForwarding v.routers v.rows) c.self.view_is c.self.invariant.form
