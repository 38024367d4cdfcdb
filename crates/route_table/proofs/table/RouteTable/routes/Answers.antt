use Rattle.route_table.specs.Rows.{slots_in}
use Rattle.route_table.proofs.Whole.{table-of}
use Rattle.route_table.proofs.table.RouteTable.routes.Goals as goal

pub returns-in_err-push_all-clause-table : goal.returns-in_err-push_all-clause-table
returns-in_err-push_all-clause-table c = table-of (slots_in 0 c.self.inside.rows) c.args.self.now (c.self.invariant 0).form c.self.view_is

pub returns-clause-table : goal.returns-clause-table
returns-clause-table c = table-of (slots_in 0 c.self.inside.rows) c.args.self.now (c.self.invariant 0).form c.self.view_is
