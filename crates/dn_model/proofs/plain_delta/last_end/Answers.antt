use Rattle.std.proofs.Common.{arith}
use Rattle.dn_model.proofs.Nowhere.{alike-step, target-alike}
use Rattle.dn_model.proofs.plain_delta.last_end.Goals as goal

pub loop-route-preserved : goal.loop-route-preserved
loop-route-preserved c = (
  c.end_below-last.ensures.below,
  (omega arith),
  alike-step c.args.routes.now c.loop-route.route-index c.loop-route.last c.end_below-last.result c.args.past c.route-item.result c.end_below-last.ensures.low c.route-item.is c.loop-route-test.true c.loop-route.invariant.2 c.end_below-last.ensures.alike,
)

pub returns-clause-alike : goal.returns-clause-alike
returns-clause-alike c = λ objects a from to. target-alike objects c.loop-route.last c.args.past a c.args.routes.now (λ k d l. c.loop-route.invariant.2 k d (omega arith)) from to
