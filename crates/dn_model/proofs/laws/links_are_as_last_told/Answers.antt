use Rattle.dn_model.proofs.LastSays.{down-last}
use Rattle.dn_model.proofs.laws.links_are_as_last_told.Goals as goal

pub returns : goal.returns
returns c = down-last
