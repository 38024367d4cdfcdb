-- What the group's update makes of the router's table stands at the router's place in the list of all.
use Rattle.std.proofs.lemmas.Result.{IfOk-weaker}
use Rattle.dn_model.specs.Table.{prefix_of_op}
use Rattle.dn_model.specs.Routes.{IsTable}
use Rattle.route_table.specs.Own.{IsLooked}
use Rattle.net_engine.proofs.Grouped.{Finds, at-router, groups-after, others-after, update-at-router}
use Rattle.net_engine.proofs.router_tables.RouterTables.update.Given.{Over}
use Rattle.net_engine.proofs.router_tables.RouterTables.update.Goals as goal

found : (g : Over) (c : goal.After-self-1 g) → Finds c.self.inside.routers c.self.inside.groups.items c.args.self.now c.index_mut-group.result.now c.update.new.self c.args.update.now.router.0 c.from.result c.of.result.index
found g c = record {
  are = c.self.invariant;
  seen = c.self.view_is;
  inside = c.requires;
  place = c.from.ensures;
  lane = c.of.ensures;
  found = c.index_mut-group.ensures.value;
  others = c.update.ensures.others;
}

pub returns-clause-made : goal.returns-clause-made
returns-clause-made g c = IfOk-weaker c.update.result _ _ (λ told made. update-at-router _ _ _ _ _ _ _ _ (found g c) c.args.update.now.table told c.update.new.runs.items made) c.update.ensures.made

pub returns-clause-others : goal.returns-clause-others
returns-clause-others g c = others-after _ _ _ _ _ _ _ _ (found g c)

pub returns-clause-form : goal.returns-clause-form
returns-clause-form g c = at-router _ _ _ _ _ _ _ _ (found g c) (λ old new. IsTable new) c.update.ensures.form

pub returns-clause-cost : goal.returns-clause-cost
returns-clause-cost g c = at-router _ _ _ _ _ _ _ _ (found g c) (λ old new. IsLooked old (prefix_of_op c.args.update.now.table.op) c.args.steps.now c.update.new.steps) c.update.ensures.cost

pub invariant_of-self : goal.invariant_of-self
invariant_of-self g c = groups-after _ _ _ _ _ _ _ _ (found g c)
