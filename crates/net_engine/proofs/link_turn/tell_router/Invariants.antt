use Rattle.std.proofs.Common.{◌-◌, ◌≤◌, length}
use Rattle.label_view.specs.Places.{begin_of}
use Rattle.net_engine.specs.LinkTurn.{IsTurnTold}
use Rattle.net_engine.proofs.link_turn.tell_router.Given as goal

-- what is told of the rows so far
abbrev pub invariant-pages : goal.invariant-pages
invariant-pages g l = record {
  inside : l.from ≤ length (g.V.LabelView.rows l.view);
  told : IsTurnTold l.turn.before.now l.turn.after.now (g.V.LabelView.rows l.view) l.delta l.router.0 (begin_of (g.V.LabelView.rows l.view) l.from);
}

abbrev pub decreases-pages : goal.decreases-pages
decreases-pages g l = length (g.V.LabelView.rows l.view) - l.from
