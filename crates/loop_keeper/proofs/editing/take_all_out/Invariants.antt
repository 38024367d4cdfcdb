use Rattle.std.proofs.Common.{take}
use Rattle.loop_keeper.specs.Edits.{AreTakenOut}
use Rattle.loop_keeper.specs.Kept.{AreSegments}
use Rattle.loop_keeper.proofs.editing.take_all_out.Given as goal

-- those so far are out
abbrev pub invariant-loop-change : goal.invariant-loop-change
invariant-loop-change l = AreSegments l.initial.segments → AreTakenOut (take l.change-index l.changes) l.initial.segments l.segments
