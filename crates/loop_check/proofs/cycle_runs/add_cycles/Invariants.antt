use Rattle.std.proofs.Common.{length}
use Rattle.loop_check.proofs.RowRuns.{AreLeft}
use Rattle.loop_check.proofs.cycle_runs.add_cycles.Given as goal

-- the row is added to the runs of those cycles that aren't left
abbrev pub invariant-adding : goal.invariant-adding
invariant-adding g l = AreLeft (g.V.LabelView.rows l.view) l.i l.left.items l.known.entries

abbrev pub decreases-adding : goal.decreases-adding
decreases-adding g l = length l.left.items
