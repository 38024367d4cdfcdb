use Rattle.net_engine.proofs.RowsOfAtoms.{are-forwarding-now}
use Rattle.net_engine.proofs.version.VersionLabelView.atoms.Goals as goal

pub returns-clause-form : goal.returns-clause-form
returns-clause-form c = are-forwarding-now _ _ c.self.view_is c.self.invariant.whole
