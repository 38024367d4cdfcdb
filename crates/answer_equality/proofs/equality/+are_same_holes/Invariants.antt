use Rattle.std.proofs.Common.{length}
use Rattle.answer_equality.proofs.equality.+are_same_holes.Given as goal

abbrev pub decreases-are_same_holes : goal.decreases-are_same_holes
decreases-are_same_holes l = length l.x.now
