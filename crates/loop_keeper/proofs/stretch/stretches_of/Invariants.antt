use Rattle.loop_keeper.proofs.Stretches.{AreFirst}
use Rattle.loop_keeper.proofs.stretch.stretches_of.Given as goal

-- those of the changes so far
abbrev pub invariant-loop-change : goal.invariant-loop-change
invariant-loop-change g l = AreFirst (g.V.LabelView.width l.view) (g.V.LabelView.rows l.view) l.changes l.change-index l.stretches.items
