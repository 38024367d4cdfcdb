use Rattle.std.proofs.Common.{◌<◌, sym, subst}
use Rattle.dn_model.specs.Table.{prefix_of_op}
use Rattle.net_engine.specs.Updates.{its_routes}
use Rattle.net_engine.specs.Rerouted.{RunsOfAtoms}
use Rattle.net_engine.proofs.Rerouting.{at-none, at-some, looks-paired, makes-same, makes-turned, paired-now, retold-now, runs-of-atoms, same-before}
use Rattle.net_engine.proofs.Ready.{IsReady, ready, updated}
use Rattle.net_engine.proofs.net.Net.update.Goals as goal

pub returns-in_err-told-clause-cost : goal.returns-in_err-told-clause-cost
returns-in_err-told-clause-cost g c = looks-paired _ _ _ _ _ _ _ _ _ c.requires.paired (c.requires.paired.along c.args.update.now.router.0 c.requires.router) c.update.ensures.cost

pub returns-in_err-near-clause-cost : goal.returns-in_err-near-clause-cost
returns-in_err-near-clause-cost g c = looks-paired _ _ _ _ _ _ _ _ _ c.requires.paired (c.requires.paired.along c.args.update.now.router.0 c.requires.router) c.update.ensures.cost

pub returns-in_default-clause-cost : goal.returns-in_default-clause-cost
returns-in_default-clause-cost g c = looks-paired _ _ _ _ _ _ _ _ _ c.requires.paired (c.requires.paired.along c.args.update.now.router.0 c.requires.router) c.update.ensures.cost

pub returns-in_err-moved-clause-cost : goal.returns-in_err-moved-clause-cost
returns-in_err-moved-clause-cost g c = looks-paired _ _ _ _ _ _ _ _ _ c.requires.paired (c.requires.paired.along c.args.update.now.router.0 c.requires.router) c.update.ensures.cost

pub returns-clause-cost : goal.returns-clause-cost
returns-clause-cost g c = looks-paired _ _ _ _ _ _ _ _ _ c.requires.paired (c.requires.paired.along c.args.update.now.router.0 c.requires.router) c.update.ensures.cost

pub cut_if_new-requires : goal.cut_if_new-requires
cut_if_new-requires g c = c.requires.paired.labelled

pub returns-in_default-clause-paired : goal.returns-in_default-clause-paired
returns-in_default-clause-paired g c =
    let r : IsReady c.args.self.now.routers c.args.self.now.atoms c.cut_if_new.new.atoms c.args.self.now.labels c.cut_if_new.new.labels c.args.self.now.tables c.args.update.now.table.op =
    ready _ _ _ _ _ _ _ c.in_ok-told.told.is_new c.prefix-prefix.result c.requires.paired c.prefix-prefix.ensures c.in_ok-told.ensures.made.is_new c.in_ok-near.ensures in
    paired-now c.args.self.now.routers c.cut_if_new.new.atoms c.cut_if_new.new.labels c.cut_if_new.new.labels c.args.self.now.tables c.update.new.self (its_routes c.args.update.now c.args.self.now.tables) (its_routes c.args.update.now c.update.new.self) c.emptied.result c.args.update.now.router c.args.update.now.table.alone c.args.update.now.table.op c.update.ensures.others r.paired
    (makes-same c.args.self.now.routers c.cut_if_new.new.atoms c.cut_if_new.new.labels c.args.self.now.tables (its_routes c.args.update.now c.update.new.self) c.emptied.result c.args.update.now.router c.args.update.now.table.alone c.args.update.now.table.op r.paired c.requires.router r.ends c.update.ensures.form c.in_ok-told.ensures.made.table (at-none _ c.in_ok-told.told.after c.in_default.is c.in_ok-told.ensures.made.same) c.emptied.ensures)

pub returns-in_default-clause-told : goal.returns-in_default-clause-told
returns-in_default-clause-told g c =
    let r : IsReady c.args.self.now.routers c.args.self.now.atoms c.cut_if_new.new.atoms c.args.self.now.labels c.cut_if_new.new.labels c.args.self.now.tables c.args.update.now.table.op =
    ready _ _ _ _ _ _ _ c.in_ok-told.told.is_new c.prefix-prefix.result c.requires.paired c.prefix-prefix.ensures c.in_ok-told.ensures.made.is_new c.in_ok-near.ensures in
    updated c.args.self.now.routers c.args.self.now.atoms c.cut_if_new.new.atoms c.args.self.now.labels c.cut_if_new.new.labels c.cut_if_new.new.labels c.args.self.now.tables c.update.new.self c.args.update.now.table.op c.emptied.result r
    (retold-now c.args.self.now.routers c.cut_if_new.new.atoms c.cut_if_new.new.labels c.cut_if_new.new.labels c.args.self.now.tables c.update.new.self (its_routes c.args.update.now c.args.self.now.tables) (its_routes c.args.update.now c.update.new.self) c.emptied.result c.args.update.now.router c.args.update.now.table.alone c.args.update.now.table.op c.update.ensures.others r.paired
    (makes-same c.args.self.now.routers c.cut_if_new.new.atoms c.cut_if_new.new.labels c.args.self.now.tables (its_routes c.args.update.now c.update.new.self) c.emptied.result c.args.update.now.router c.args.update.now.table.alone c.args.update.now.table.op r.paired c.requires.router r.ends c.update.ensures.form c.in_ok-told.ensures.made.table (at-none _ c.in_ok-told.told.after c.in_default.is c.in_ok-told.ensures.made.same) c.emptied.ensures))

pub reroute-requires-clause-labelled : goal.reroute-requires-clause-labelled
reroute-requires-clause-labelled g c =
    let r : IsReady c.args.self.now.routers c.args.self.now.atoms c.cut_if_new.new.atoms c.args.self.now.labels c.cut_if_new.new.labels c.args.self.now.tables c.args.update.now.table.op =
    ready _ _ _ _ _ _ _ c.in_ok-told.told.is_new c.prefix-prefix.result c.requires.paired c.prefix-prefix.ensures c.in_ok-told.ensures.made.is_new c.in_ok-near.ensures in
    r.paired.labelled

pub reroute-requires-clause-router : goal.reroute-requires-clause-router
reroute-requires-clause-router g c =
    let r : IsReady c.args.self.now.routers c.args.self.now.atoms c.cut_if_new.new.atoms c.args.self.now.labels c.cut_if_new.new.labels c.args.self.now.tables c.args.update.now.table.op =
    ready _ _ _ _ _ _ _ c.in_ok-told.told.is_new c.prefix-prefix.result c.requires.paired c.prefix-prefix.ensures c.in_ok-told.ensures.made.is_new c.in_ok-near.ensures in
    subst (λ n. c.args.update.now.router.0 < n) (sym r.paired.same_routers) c.requires.router

pub reroute-requires-clause-ends : goal.reroute-requires-clause-ends
reroute-requires-clause-ends g c =
    let r : IsReady c.args.self.now.routers c.args.self.now.atoms c.cut_if_new.new.atoms c.args.self.now.labels c.cut_if_new.new.labels c.args.self.now.tables c.args.update.now.table.op =
    ready _ _ _ _ _ _ _ c.in_ok-told.told.is_new c.prefix-prefix.result c.requires.paired c.prefix-prefix.ensures c.in_ok-told.ensures.made.is_new c.in_ok-near.ensures in
    subst (RunsOfAtoms c.cut_if_new.new.atoms) (sym c.deref.ensures.value)
    (runs-of-atoms c.cut_if_new.new.atoms c.cut_if_new.new.labels c.args.self.now.tables (its_routes c.args.update.now c.args.self.now.tables) (its_routes c.args.update.now c.update.new.self) c.args.update.now.router.0 c.args.update.now.table.alone c.args.update.now.table.op c.update.new.runs.items (r.paired.along c.args.update.now.router.0 c.requires.router) r.ends (at-some _ c.in_ok-told.told.after c.in-Some.way c.in-Some.is c.in_ok-told.ensures.made.had) c.in_ok-told.ensures.made.table (at-some _ c.in_ok-told.told.after c.in-Some.way c.in-Some.is c.in_ok-told.ensures.made.own))

pub reroute-requires-clause-same : goal.reroute-requires-clause-same
reroute-requires-clause-same g c =
    let r : IsReady c.args.self.now.routers c.args.self.now.atoms c.cut_if_new.new.atoms c.args.self.now.labels c.cut_if_new.new.labels c.args.self.now.tables c.args.update.now.table.op =
    ready _ _ _ _ _ _ _ c.in_ok-told.told.is_new c.prefix-prefix.result c.requires.paired c.prefix-prefix.ensures c.in_ok-told.ensures.made.is_new c.in_ok-near.ensures in
    rw c.deref.ensures.value
    (same-before c.cut_if_new.new.atoms c.cut_if_new.new.labels (its_routes c.args.update.now c.args.self.now.tables) (its_routes c.args.update.now c.update.new.self) (prefix_of_op c.args.update.now.table.op) c.in-Some.way c.update.new.runs.items c.args.update.now.router.0 (r.paired.along c.args.update.now.router.0 c.requires.router) (at-some _ c.in_ok-told.told.after c.in-Some.way c.in-Some.is c.in_ok-told.ensures.made.turned) (at-some _ c.in_ok-told.told.after c.in-Some.way c.in-Some.is c.in_ok-told.ensures.made.own))

pub returns-clause-paired : goal.returns-clause-paired
returns-clause-paired g c =
    let r : IsReady c.args.self.now.routers c.args.self.now.atoms c.cut_if_new.new.atoms c.args.self.now.labels c.cut_if_new.new.labels c.args.self.now.tables c.args.update.now.table.op =
    ready _ _ _ _ _ _ _ c.in_ok-told.told.is_new c.prefix-prefix.result c.requires.paired c.prefix-prefix.ensures c.in_ok-told.ensures.made.is_new c.in_ok-near.ensures in
    paired-now c.args.self.now.routers c.cut_if_new.new.atoms c.cut_if_new.new.labels c.reroute.new.labels c.args.self.now.tables c.update.new.self (its_routes c.args.update.now c.args.self.now.tables) (its_routes c.args.update.now c.update.new.self) c.in_ok-moved.moved.delta c.args.update.now.router c.args.update.now.table.alone c.args.update.now.table.op c.update.ensures.others r.paired
    (makes-turned c.args.self.now.routers c.cut_if_new.new.atoms c.cut_if_new.new.labels c.reroute.new.labels c.args.self.now.tables (its_routes c.args.update.now c.update.new.self) c.in_ok-moved.moved.delta c.args.update.now.router c.args.update.now.table.alone c.args.update.now.table.op c.in-Some.way c.update.new.runs.items r.paired c.requires.router r.ends c.update.ensures.form c.in_ok-told.ensures.made.table (at-some _ c.in_ok-told.told.after c.in-Some.way c.in-Some.is c.in_ok-told.ensures.made.turned) (at-some _ c.in_ok-told.told.after c.in-Some.way c.in-Some.is c.in_ok-told.ensures.made.own) (rw (sym c.deref.ensures.value, sym c.done_by-after.ensures) c.in_ok-moved.ensures))

pub returns-clause-told : goal.returns-clause-told
returns-clause-told g c =
    let r : IsReady c.args.self.now.routers c.args.self.now.atoms c.cut_if_new.new.atoms c.args.self.now.labels c.cut_if_new.new.labels c.args.self.now.tables c.args.update.now.table.op =
    ready _ _ _ _ _ _ _ c.in_ok-told.told.is_new c.prefix-prefix.result c.requires.paired c.prefix-prefix.ensures c.in_ok-told.ensures.made.is_new c.in_ok-near.ensures in
    updated c.args.self.now.routers c.args.self.now.atoms c.cut_if_new.new.atoms c.args.self.now.labels c.cut_if_new.new.labels c.reroute.new.labels c.args.self.now.tables c.update.new.self c.args.update.now.table.op c.in_ok-moved.moved.delta r
    (retold-now c.args.self.now.routers c.cut_if_new.new.atoms c.cut_if_new.new.labels c.reroute.new.labels c.args.self.now.tables c.update.new.self (its_routes c.args.update.now c.args.self.now.tables) (its_routes c.args.update.now c.update.new.self) c.in_ok-moved.moved.delta c.args.update.now.router c.args.update.now.table.alone c.args.update.now.table.op c.update.ensures.others r.paired
    (makes-turned c.args.self.now.routers c.cut_if_new.new.atoms c.cut_if_new.new.labels c.reroute.new.labels c.args.self.now.tables (its_routes c.args.update.now c.update.new.self) c.in_ok-moved.moved.delta c.args.update.now.router c.args.update.now.table.alone c.args.update.now.table.op c.in-Some.way c.update.new.runs.items r.paired c.requires.router r.ends c.update.ensures.form c.in_ok-told.ensures.made.table (at-some _ c.in_ok-told.told.after c.in-Some.way c.in-Some.is c.in_ok-told.ensures.made.turned) (at-some _ c.in_ok-told.told.after c.in-Some.way c.in-Some.is c.in_ok-told.ensures.made.own) (rw (sym c.deref.ensures.value, sym c.done_by-after.ensures) c.in_ok-moved.ensures)))
