use Rattle.std.proofs.Common.{◌≤◌, refl, subst}
use Rattle.std.specs.List.{Contains}
use Rattle.route_table.specs.declared.metric_way.MetricWay.{MetricWay}
use Rattle.route_table.proofs.rows.first_of.Goals as goal

pub returns-clause-first : goal.returns-clause-first
returns-clause-first c = (
  c.in_ok-first.first,
  subst (λ xs. Contains xs c.in_ok-first.first × ((y : MetricWay) → Contains xs y → c.in_ok-first.first.metric ≤ y.metric)) c.targets.ensures c.in_ok-first.ensures.some,
  refl,
)
