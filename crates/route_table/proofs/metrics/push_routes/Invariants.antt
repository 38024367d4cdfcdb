use Rattle.std.proofs.Common.{◌≡◌, ◌≤◌, ◌-◌, ◌++◌, length, map, take}
use Rattle.route_table.specs.Targets.{route_at}
use Rattle.route_table.proofs.metrics.push_routes.Given as goal

abbrev pub invariant-pages : goal.invariant-pages
invariant-pages l = record {
  inside : l.place ≤ length l.ways;
  routes : l.routes.items ≡ l.initial.routes.items ++ map (route_at l.prefix) (take l.place l.ways);
}

abbrev pub decreases-pages : goal.decreases-pages
decreases-pages l = length l.ways - l.place
