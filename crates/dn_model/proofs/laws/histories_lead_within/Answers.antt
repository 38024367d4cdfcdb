use Rattle.dn_model.proofs.Within.{history-within}
use Rattle.dn_model.proofs.laws.histories_lead_within.Goals as goal

pub returns : goal.returns
returns c = history-within
