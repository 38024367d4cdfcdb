use Rattle.std.proofs.Common.{◌≡◌, ◌≤◌, ◌-◌, ◌++◌, length, take}
use Rattle.route_table.specs.Rows.{slots_in}
use Rattle.route_table.specs.Slots.{routes_of}
use Rattle.route_table.proofs.table.push_all.Given as goal

abbrev pub invariant-rows : goal.invariant-rows
invariant-rows l = record {
  inside : l.place ≤ length l.rows;
  routes : l.routes.items ≡ l.initial.routes.items ++ routes_of (take l.place (slots_in 0 l.rows));
}

abbrev pub decreases-rows : goal.decreases-rows
decreases-rows l = length l.rows - l.place
