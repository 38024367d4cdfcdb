use Rattle.nexthop_objects.proofs.FlatEnds.{flat_ends, flat_links}
use Rattle.nexthop_objects.proofs.FlatSame.{flat_does_same, flat_is_same}
use Rattle.nexthop_objects.proofs.laws.flat_is_same.Goals as goal

pub returns-clause-targets : goal.returns-clause-targets
returns-clause-targets c = flat_is_same

pub returns-clause-links : goal.returns-clause-links
returns-clause-links c = flat_links

pub returns-clause-does : goal.returns-clause-does
returns-clause-does c = flat_does_same

pub returns-clause-ends : goal.returns-clause-ends
returns-clause-ends c = flat_ends
