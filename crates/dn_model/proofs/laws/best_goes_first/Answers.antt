use Rattle.dn_model.proofs.Best.{best-is}
use Rattle.dn_model.proofs.laws.best_goes_first.Goals as goal

pub returns : goal.returns
returns c = best-is
