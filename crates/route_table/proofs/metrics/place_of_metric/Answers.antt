use Rattle.std.proofs.Common.{subst}
use Rattle.version_pages.specs.Search.{EndsBelow}
use Rattle.route_table.specs.Ascending.{IsPlace}
use Rattle.route_table.specs.Targets.{metric_of}
use Rattle.route_table.proofs.Places.{place-of}
use Rattle.route_table.proofs.metrics.place_of_metric.Goals as goal

pub returns : goal.returns
returns c =
    let e : EndsBelow metric_of c.args.ways.now c.from.result c.count_below.result = c.count_below.ensures in
    subst (λ k. IsPlace metric_of c.args.ways.now k c.count_below.result) c.from.ensures
    (place-of metric_of 0 c.args.ways.now c.from.result c.count_below.result c.requires e.inside e.before e.after)
