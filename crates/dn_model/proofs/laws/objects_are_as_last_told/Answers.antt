use Rattle.dn_model.proofs.LastSays.{object-last}
use Rattle.dn_model.proofs.laws.objects_are_as_last_told.Goals as goal

pub returns : goal.returns
returns c = object-last
