use Rattle.std.proofs.Common.{length}
use Rattle.answer_equality.proofs.equality.+are_same_cycles.Given as goal

abbrev pub decreases-are_same_cycles : goal.decreases-are_same_cycles
decreases-are_same_cycles l = length l.x.now
