use Rattle.route_table.proofs.Around.{length-none, length-some}
use Rattle.route_table.proofs.table.RouteTable.best_of_length.Goals as goal

pub returns-clause-none : goal.returns-clause-none
returns-clause-none c = length-none c.args.self.now c.prefix_around.result c.args.a c.args.len c.least_of.result c.least_of.ensures.table c.prefix_around.ensures.sound c.prefix_around.ensures.covers c.prefix_around.ensures.len c.least_of.ensures.none

pub returns-clause-some : goal.returns-clause-some
returns-clause-some c = length-some c.args.self.now c.prefix_around.result c.args.a c.args.len c.least_of.result c.least_of.ensures.table c.prefix_around.ensures.sound c.prefix_around.ensures.covers c.prefix_around.ensures.len c.least_of.ensures.some
