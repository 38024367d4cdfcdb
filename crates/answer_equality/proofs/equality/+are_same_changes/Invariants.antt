use Rattle.std.proofs.Common.{length}
use Rattle.answer_equality.proofs.equality.+are_same_changes.Given as goal

abbrev pub decreases-are_same_changes : goal.decreases-are_same_changes
decreases-are_same_changes l = length l.x.now
