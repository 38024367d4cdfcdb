use Rattle.std.proofs.Common.{length}
use Rattle.answer_equality.proofs.equality.+are_same_routers.Given as goal

abbrev pub decreases-are_same_routers : goal.decreases-are_same_routers
decreases-are_same_routers l = length l.x.now
