use Rattle.std.proofs.Common.{◌≡◌, ◌++◌, map, take}
use Rattle.route_table.specs.Targets.{route_at}
use Rattle.route_table.proofs.metrics.push_page.Given as goal

abbrev pub invariant-loop-entry : goal.invariant-loop-entry
invariant-loop-entry l = l.routes.items ≡ l.initial.routes.items ++ map (route_at l.prefix) (take l.entry-index l.page)
