use Rattle.std.proofs.Common.{arith}
use Rattle.route_table.specs.Rows.{slots_in}
use Rattle.route_table.proofs.Around.{best-at-length, best-none, none-past}
use Rattle.route_table.proofs.Whole.{table-of}
use Rattle.route_table.proofs.table.RouteTable.best.Goals as goal

pub loop-len-init : goal.loop-len-init
loop-len-init c = none-past c.args.self.now c.args.a _ (table-of (slots_in 0 c.self.inside.rows) c.args.self.now (c.self.invariant 0).form c.self.view_is) (omega arith)

pub returns-in-Some-clause-value : goal.returns-in-Some-clause-value
returns-in-Some-clause-value c = best-at-length c.args.self.now c.args.a c.loop-len.len _ c.in-Some.route (omega (arith, c.loop-len-test.true)) (table-of (slots_in 0 c.self.inside.rows) c.args.self.now (c.self.invariant 0).form c.self.view_is) c.loop-len.invariant c.in-Some.ensures.some

pub returns-clause-value : goal.returns-clause-value
returns-clause-value c = best-none c.args.self.now c.args.a (table-of (slots_in 0 c.self.inside.rows) c.args.self.now (c.self.invariant 0).form c.self.view_is) (λ r inside there from. c.loop-len.invariant r inside there (omega (arith, c.loop-len-test.false)))

pub returns-clause-table : goal.returns-clause-table
returns-clause-table c = table-of (slots_in 0 c.self.inside.rows) c.args.self.now (c.self.invariant 0).form c.self.view_is

pub returns-in-Some-clause-table : goal.returns-in-Some-clause-table
returns-in-Some-clause-table c = table-of (slots_in 0 c.self.inside.rows) c.args.self.now (c.self.invariant 0).form c.self.view_is
