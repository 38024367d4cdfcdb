use Rattle.std.proofs.Common.{length}
use Rattle.engine_trials.proofs.found.+is_of_route.Given as goal

abbrev pub decreases-is_of_route : goal.decreases-is_of_route
decreases-is_of_route l = length l.before.now
