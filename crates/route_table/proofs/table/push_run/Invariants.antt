use Rattle.std.proofs.Common.{◌≡◌, ◌++◌, take}
use Rattle.route_table.specs.Rows.{slots_in}
use Rattle.route_table.specs.Slots.{routes_of}
use Rattle.route_table.proofs.table.push_run.Given as goal

abbrev pub invariant-loop-row : goal.invariant-loop-row
invariant-loop-row l = l.routes.items ≡ l.initial.routes.items ++ routes_of (take l.row-index (slots_in 0 l.run))
