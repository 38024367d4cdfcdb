use Rattle.route_table.specs.Targets.{metric_of}
use Rattle.route_table.proofs.Places.{found-inside, gap-inside}
use Rattle.route_table.proofs.Setting.{put-is, put-ascends, inserted-is, inserted-ascends}
use Rattle.route_table.proofs.metrics.put.Goals as goal

pub put-requires : goal.put-requires
put-requires c = record {
  inside = found-inside metric_of c.args.ways.now c.args.entry.metric c.place_of_metric-place.result (c.has_at.ensures.found c.if-has_at.true);
}

pub insert_at-requires : goal.insert_at-requires
insert_at-requires c = record {
  inside = gap-inside metric_of c.args.ways.now c.args.entry.metric c.place_of_metric-place.result (c.has_at.ensures.gap c.if-has_at.false);
}

pub returns-then-has_at-clause-ok : goal.returns-then-has_at-clause-ok
returns-then-has_at-clause-ok c = put-is c.put.result c.args.ways.now c.put.new.self c.args.entry.metric c.place_of_metric-place.result c.args.entry.way c.requires (c.has_at.ensures.found c.if-has_at.true) c.put.ensures

pub returns-then-has_at-clause-metrics : goal.returns-then-has_at-clause-metrics
returns-then-has_at-clause-metrics c = put-ascends c.put.result c.args.ways.now c.put.new.self c.args.entry.metric c.place_of_metric-place.result c.args.entry.way c.requires (c.has_at.ensures.found c.if-has_at.true) c.put.ensures

pub returns-clause-ok : goal.returns-clause-ok
returns-clause-ok c = inserted-is c.insert_at.result c.args.ways.now c.insert_at.new.self c.args.entry.metric c.place_of_metric-place.result c.args.entry.way c.requires (c.has_at.ensures.gap c.if-has_at.false) c.insert_at.ensures

pub returns-clause-metrics : goal.returns-clause-metrics
returns-clause-metrics c = inserted-ascends c.insert_at.result c.args.ways.now c.insert_at.new.self c.args.entry.metric c.place_of_metric-place.result c.args.entry.way c.requires (c.has_at.ensures.gap c.if-has_at.false) c.insert_at.ensures
