use Rattle.std.proofs.Common.{◌∙◌, ◌∷◌, sym}
use Rattle.base.specs.Cycles.{go_round}
use Rattle.base.specs.Walk.{at_address}
use Rattle.dn_model.specs.Network.{does_in}
use Rattle.base.proofs.GoRound.{hop-on, hop-off, hop-back}
use Rattle.dn_model.proofs.plain_cycle.do_go_round.Goals as goal

pub returns-then-not-is_to : goal.returns-then-not-is_to
returns-then-not-is_to c =
    let f = at_address (does_in c.args.net.now) c.args.a in
    hop-off f c.args.first c.loop-router.last c.args.others.now c.loop-router.router-index _ c.target-target.result (go_round f c.args.first (c.args.first ∷ c.args.others.now))
    c.loop-router-test.true (c.target-target.ensures) (sym c.is_to.ensures ∙ c.if-not-is_to.true) c.loop-router.invariant

pub loop-router-preserved : goal.loop-router-preserved
loop-router-preserved c =
    let f = at_address (does_in c.args.net.now) c.args.a in
    hop-on f c.args.first c.loop-router.last c.args.others.now c.loop-router.router-index _ c.target-target.result (go_round f c.args.first (c.args.first ∷ c.args.others.now))
    c.loop-router-test.true (c.target-target.ensures) (sym c.is_to.ensures ∙ c.if-not-is_to.false) c.loop-router.invariant

pub returns : goal.returns
returns c =
    let f = at_address (does_in c.args.net.now) c.args.a in
    c.is_to-2.ensures ∙ hop-back f c.args.first c.loop-router.last c.args.others.now c.loop-router.router-index c.target-target-2.result (go_round f c.args.first (c.args.first ∷ c.args.others.now))
    c.loop-router-test.false c.target-target-2.ensures c.loop-router.invariant
