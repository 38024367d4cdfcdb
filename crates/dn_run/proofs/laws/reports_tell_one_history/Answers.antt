use Rattle.dn_run.proofs.ReportLemmas.{reports}
use Rattle.dn_run.proofs.laws.reports_tell_one_history.Goals as goal

pub returns : goal.returns
returns c = λ words files calls command status old new is low written. reports words files calls command status old new is low written
