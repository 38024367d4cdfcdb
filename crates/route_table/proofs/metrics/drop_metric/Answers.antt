use Rattle.std.proofs.Common.{◌<◌, length, sym, arith}
use Rattle.route_table.proofs.Places.{found-inside, others-gap}
use Rattle.route_table.proofs.Setting.{dropped-ascends, dropped-is}
use Rattle.route_table.specs.Targets.{metric_of}
use Rattle.route_table.proofs.metrics.drop_metric.Goals as goal

pub remove_run-requires : goal.remove_run-requires
remove_run-requires c =
    let l : c.place_of_metric-place.result < length c.args.ways.now = found-inside metric_of c.args.ways.now c.args.metric c.place_of_metric-place.result (c.has_at.ensures.found c.if-has_at.true) in
    record { inside = omega arith }

pub returns-then-has_at-clause-ok : goal.returns-then-has_at-clause-ok
returns-then-has_at-clause-ok c = dropped-is c.remove_run.result c.args.ways.now c.remove_run.new.self c.args.metric c.place_of_metric-place.result c.requires (c.has_at.ensures.found c.if-has_at.true) c.remove_run.ensures.items

pub returns-clause-ok : goal.returns-clause-ok
returns-clause-ok c = sym (others-gap metric_of 0 c.args.ways.now c.args.metric c.place_of_metric-place.result c.requires (c.has_at.ensures.gap c.if-has_at.false))

pub returns-then-has_at-clause-metrics : goal.returns-then-has_at-clause-metrics
returns-then-has_at-clause-metrics c = dropped-ascends c.remove_run.result c.args.ways.now c.remove_run.new.self c.args.metric c.place_of_metric-place.result c.requires (returns-then-has_at-clause-ok c) c.remove_run.ensures.same
