use Rattle.net_engine.specs.LinkTurn.{IsTurnTold}
use Rattle.net_engine.proofs.link_turn.turn_changes.Given as goal

-- what is told of the routers so far
abbrev pub invariant-loop-r : goal.invariant-loop-r
invariant-loop-r g l = IsTurnTold l.turn.before.now l.turn.after.now (g.V.LabelView.rows l.view) l.delta l.r 0
