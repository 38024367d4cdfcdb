use Rattle.std.proofs.Common.{length}
use Rattle.answer_equality.proofs.equality.+are_same_runs.Given as goal

abbrev pub decreases-are_same_runs : goal.decreases-are_same_runs
decreases-are_same_runs l = length l.x.now
