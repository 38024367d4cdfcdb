use Rattle.nexthop_objects.proofs.ObjectEntries.{object_moves}
use Rattle.nexthop_objects.proofs.laws.object_moves.Goals as goal

pub returns : goal.returns
returns c = object_moves
