use Rattle.std.proofs.Common.{◌-◌}
use Rattle.loop_keeper.specs.Edits.{AreAlike}
use Rattle.loop_keeper.specs.Kept.{AreSegments}
use Rattle.loop_keeper.proofs.editing.leave_empty_out.Given as goal

-- each address has the cycles that it had
abbrev pub invariant-places : goal.invariant-places
invariant-places l = AreSegments l.initial.segments → AreAlike l.initial.segments l.segments

abbrev pub decreases-places : goal.decreases-places
decreases-places l = l.past - l.first
