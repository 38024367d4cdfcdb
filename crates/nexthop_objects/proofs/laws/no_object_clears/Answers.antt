use Rattle.nexthop_objects.proofs.ObjectEntries.{no_object_clears, no_object_targets}
use Rattle.nexthop_objects.proofs.laws.no_object_clears.Goals as goal

pub returns-clause-tables : goal.returns-clause-tables
returns-clause-tables c = no_object_clears

pub returns-clause-targets : goal.returns-clause-targets
returns-clause-targets c = no_object_targets
