use Rattle.std.proofs.Common.{List, ap, arith, subst, sym, ◌∙◌}
use Rattle.std.proofs.lemmas.Grind.{div_ceil_times}
use Rattle.net_engine.specs.Grouped.{AreGroups, tables_in}
use Rattle.net_engine.proofs.Grouped.{groups-replicate, tables-replicate}
use Rattle.net_engine.proofs.Standing.{AllRoutes}
use Rattle.net_engine.proofs.router_tables.RouterTables.new.Goals as goal

pub returns : goal.returns
returns c =
    ap (λ (groups : List AllRoutes). tables_in c.args.routers groups) c.in_ok-groups.ensures
    ∙ tables-replicate c.args.routers c.div_ceil.result (rw c.div_ceil.ensures (div_ceil_times c.args.routers 4 (omega arith)).0)

pub invariant_of-result : goal.invariant_of-result
invariant_of-result c = subst (λ (groups : List AllRoutes). AreGroups c.args.routers groups) (sym c.in_ok-groups.ensures)
    (groups-replicate c.args.routers c.div_ceil.result (rw c.div_ceil.ensures (div_ceil_times c.args.routers 4 (omega arith)).0))
