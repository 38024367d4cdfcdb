use Rattle.std.proofs.Common.{◌+◌, ◌-◌, ◌≤◌, length}
use Rattle.label_view.specs.Places.{begin_of}
use Rattle.net_engine.specs.LinkTurn.{IsTurnTold}
use Rattle.net_engine.proofs.link_turn.tell_column.Given as goal

-- what is told of the rows so far
abbrev pub invariant-rows : goal.invariant-rows
invariant-rows g l = record {
  inside : l.k ≤ length l.column.targets.now;
  told : IsTurnTold l.turn.before.now l.turn.after.now (g.V.LabelView.rows l.view) l.delta l.column.router.0 (begin_of (g.V.LabelView.rows l.view) (l.column.from + l.k));
}

abbrev pub decreases-rows : goal.decreases-rows
decreases-rows g l = length l.column.targets.now - l.k
