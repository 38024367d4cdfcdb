use Rattle.std.proofs.Common.{take}
use Rattle.loop_keeper.specs.Edits.{AreTakenOut}
use Rattle.loop_keeper.specs.Kept.{AreSegments}
use Rattle.loop_keeper.proofs.editing.are_met.Given as goal

-- those so far take nothing out
abbrev pub invariant-loop-change : goal.invariant-loop-change
invariant-loop-change l = AreSegments l.segments → AreTakenOut (take l.change-index l.changes) l.segments l.segments
