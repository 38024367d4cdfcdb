use Rattle.dn_model.proofs.Keys.{best-order}
use Rattle.dn_model.proofs.laws.best_has_no_order.Goals as goal

pub returns : goal.returns
returns c = best-order
