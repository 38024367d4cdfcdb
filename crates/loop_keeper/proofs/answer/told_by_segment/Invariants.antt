use Rattle.loop_keeper.specs.Answer.{ArePieces}
use Rattle.loop_keeper.proofs.answer.told_by_segment.Given as goal

-- those so far
abbrev pub invariant-loop-place : goal.invariant-loop-place
invariant-loop-place l = ArePieces l.segments l.place l.pieces.items
