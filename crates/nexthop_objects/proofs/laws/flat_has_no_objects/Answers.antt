use Rattle.nexthop_objects.proofs.FlatNetwork.{flat_has_no_objects}
use Rattle.nexthop_objects.proofs.laws.flat_has_no_objects.Goals as goal

pub returns : goal.returns
returns c = flat_has_no_objects
