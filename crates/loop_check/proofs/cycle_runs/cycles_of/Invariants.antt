use Rattle.std.proofs.Common.{◌≤◌, ℕ, List, length}
use Rattle.base.specs.declared.forwarding_row.ForwardingRow.{ForwardingRow}
use Rattle.loop_check.specs.CycleRuns.{AreKnownTo, HaveAllBefore}
use Rattle.loop_check.proofs.AllCycles.{AreAnswered}
use Rattle.loop_check.proofs.cycle_runs.cycles_of.Given as goal

-- each cycle is left, or among those so far
abbrev pub invariant-cycles : goal.invariant-cycles
invariant-cycles l = (rows : List ForwardingRow) (i : ℕ) → length rows ≤ i → AreKnownTo rows i l.fn.known.entries → HaveAllBefore rows i l.fn.known.entries → AreAnswered rows i l.left.entries l.cycles.items

abbrev pub decreases-cycles : goal.decreases-cycles
decreases-cycles l = length l.left.entries
