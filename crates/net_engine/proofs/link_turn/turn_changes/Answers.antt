use Rattle.std.proofs.Common.{◌≡◌, arith, subst}
use Rattle.net_engine.specs.LinkTurn.{IsTurnTold}
use Rattle.net_engine.proofs.Turning.{turn-all}
use Rattle.net_engine.proofs.link_turn.turn_changes.Goals as goal

pub returns-clause-changes : goal.returns-clause-changes
returns-clause-changes g c =
    let end : c.loop-r.r ≡ g.V.LabelView.width c.args.view.now = omega (arith, c.loop-r.auto.r-end, c.loop-r-test.false, c.routers-r-end.ensures.value) in
    turn-all (g.V.LabelView.width c.args.view.now) (g.V.LabelView.rows c.args.view.now) c.args.turn.now.before.now c.args.turn.now.after.now c.loop-r.delta c.routers-r-end.ensures.form
    (subst (λ n. IsTurnTold c.args.turn.now.before.now c.args.turn.now.after.now (g.V.LabelView.rows c.args.view.now) c.loop-r.delta n 0) end c.loop-r.invariant)
