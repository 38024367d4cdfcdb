use Rattle.std.proofs.Common.{ap}
use Rattle.std.proofs.lemmas.Bool.{eqb-true, eq-eqb, both_ways}
use Rattle.std.proofs.lemmas.Slice.Eq.{slice_eq-Decides}
use Rattle.base.specs.declared.ids.RouterId.{RouterId}
use Rattle.base.proofs.DeltaParts.{same-router}
use Rattle.loop_check.proofs.cycle_order.are_same_routers.Goals as goal

pub returns-clause-yes : goal.returns-clause-yes
returns-clause-yes c = (slice_eq-Decides (λ (a b : RouterId). (λ h. same-router a b (eqb-true a.0 b.0 h), λ e. eq-eqb a.0 b.0 (ap (λ (r : RouterId). r.0) e))) c.args.x.now c.args.y.now c.eq.result c.eq.ensures).0

pub returns-clause-refused : goal.returns-clause-refused
returns-clause-refused c = λ n e. both_ways c.eq.result n ((slice_eq-Decides (λ (a b : RouterId). (λ h. same-router a b (eqb-true a.0 b.0 h), λ e. eq-eqb a.0 b.0 (ap (λ (r : RouterId). r.0) e))) c.args.x.now c.args.y.now c.eq.result c.eq.ensures).1 e)
