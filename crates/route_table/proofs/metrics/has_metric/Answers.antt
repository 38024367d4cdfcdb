use Rattle.route_table.proofs.Places.{others-gap}
use Rattle.route_table.specs.Targets.{metric_of}
use Rattle.route_table.proofs.metrics.has_metric.Goals as goal

pub returns-clause-same : goal.returns-clause-same
returns-clause-same c = λ h. others-gap metric_of 0 c.args.ways.now c.args.metric c.place_of_metric-place.result c.requires (c.has_at.ensures.gap h)
