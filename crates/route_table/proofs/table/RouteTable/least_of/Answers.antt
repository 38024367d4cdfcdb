use Rattle.std.proofs.Common.{◌≤◌, ◌∙◌, subst, sym}
use Rattle.std.specs.List.{Contains}
use Rattle.route_table.specs.declared.metric_way.MetricWay.{MetricWay}
use Rattle.route_table.specs.Rows.{slot_in, slots_in}
use Rattle.route_table.specs.Slots.{key_of}
use Rattle.route_table.proofs.SideBySide.{found-in, gap-in, slot-in}
use Rattle.route_table.proofs.Whole.{least-gap, least-none, least-some, table-of}
use Rattle.route_table.proofs.table.RouteTable.least_of.Goals as goal

pub returns-in_default-clause-table : goal.returns-in_default-clause-table
returns-in_default-clause-table c = table-of (slots_in 0 c.self.inside.rows) c.args.self.now (c.self.invariant 0).form c.self.view_is

pub returns-in_default-clause-none : goal.returns-in_default-clause-none
returns-in_default-clause-none c = least-gap (slots_in 0 c.self.inside.rows) c.args.self.now c.args.prefix c.place_of-place.result c.self.view_is (c.self.invariant 0).form (gap-in 0 c.self.inside.rows (key_of c.args.prefix) c.place_of-place.result c.in_default.ensures.gap)

pub returns-in_default-first-clause-table : goal.returns-in_default-first-clause-table
returns-in_default-first-clause-table c = table-of (slots_in 0 c.self.inside.rows) c.args.self.now (c.self.invariant 0).form c.self.view_is

pub returns-in_default-first-clause-none : goal.returns-in_default-first-clause-none
returns-in_default-first-clause-none c = least-none (slots_in 0 c.self.inside.rows) c.args.self.now c.args.prefix c.place_of-place.result (slot_in 0 c.in-Some.row.now) c.self.view_is (c.self.invariant 0).form (found-in 0 c.self.inside.rows (key_of c.args.prefix) c.place_of-place.result c.in-Some.ensures.found) (slot-in 0 c.self.inside.rows (key_of c.args.prefix) c.place_of-place.result c.in-Some.row.now (slot_in 0 c.in-Some.row.now) c.in-Some.ensures.found (c.in-Some.ensures.row c.in-Some.row.now)) (sym c.targets.ensures ∙ c.in_default-first.ensures.none)

pub returns-clause-table : goal.returns-clause-table
returns-clause-table c = table-of (slots_in 0 c.self.inside.rows) c.args.self.now (c.self.invariant 0).form c.self.view_is

pub returns-clause-some : goal.returns-clause-some
returns-clause-some c = least-some (slots_in 0 c.self.inside.rows) c.args.self.now c.args.prefix c.place_of-place.result (slot_in 0 c.in-Some.row.now) c.in-Some-first.first c.route.result c.self.view_is (c.self.invariant 0).form c.place_of-place.ensures.sound (found-in 0 c.self.inside.rows (key_of c.args.prefix) c.place_of-place.result c.in-Some.ensures.found) (slot-in 0 c.self.inside.rows (key_of c.args.prefix) c.place_of-place.result c.in-Some.row.now (slot_in 0 c.in-Some.row.now) c.in-Some.ensures.found (c.in-Some.ensures.row c.in-Some.row.now)) (subst (λ xs. Contains xs c.in-Some-first.first × ((y : MetricWay) → Contains xs y → c.in-Some-first.first.metric ≤ y.metric)) c.targets.ensures c.in-Some-first.ensures.some) c.route.ensures
