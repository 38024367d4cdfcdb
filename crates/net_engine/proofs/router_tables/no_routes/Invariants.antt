use Rattle.std.proofs.Common.{◌≡◌, [], replicate}
use Rattle.net_engine.proofs.router_tables.no_routes.Given as goal

abbrev pub invariant-loop-group : goal.invariant-loop-group
invariant-loop-group l = l.groups.items ≡ replicate l._group (replicate 4 [])
