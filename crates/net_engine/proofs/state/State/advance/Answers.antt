-- What was made of an entry stands for the history with it.
use Rattle.std.proofs.Common.{subst, sym}
use Rattle.std.proofs.lemmas.Result.{IfOk-weaker}
use Rattle.dn_model.specs.declared.entry.Entry.{Entry}
use Rattle.dn_model.specs.declared.topology.Topology.{Topology}
use Rattle.net_engine.specs.Looks.{IsWithinSteps}
use Rattle.net_engine.specs.Seen.{kept_in}
use Rattle.net_engine.specs.Updates.{IsUpdateOf}
use Rattle.net_engine.specs.Walked.{IsAdvanced}
use Rattle.net_engine.proofs.Linked.{advanced-link}
use Rattle.net_engine.proofs.Updated.{advanced-routes, steps-routes}
use Rattle.net_engine.proofs.state.State.advance.Goals as goal

pub returns-in-Route-clause-made : goal.returns-in-Route-clause-made
returns-in-Route-clause-made g c =
    let is = subst (λ (t : Topology). IsUpdateOf t c.in-Route.router c.in-Route.op c.update_of-update.result) c.deref.ensures c.update_of-update.ensures in
    IfOk-weaker c.update.result _ _
    (λ changes made. subst (λ (e : Entry). IsAdvanced (kept_in c.args.self.now) (kept_in c.update.new.self) e changes) (sym c.in-Route.is)
    (advanced-routes (kept_in c.args.self.now) (kept_in c.update.new.self) c.in-Route.router c.in-Route.feed_no c.in-Route.op c.update_of-update.result changes is c.requires.sound.whole made))
    c.update.ensures.made

pub returns-in-Route-clause-cost : goal.returns-in-Route-clause-cost
returns-in-Route-clause-cost g c =
    let is = subst (λ (t : Topology). IsUpdateOf t c.in-Route.router c.in-Route.op c.update_of-update.result) c.deref.ensures c.update_of-update.ensures in
    subst (λ (e : Entry). IsWithinSteps (kept_in c.args.self.now).atoms e c.args.steps.now c.update.new.steps) (sym c.in-Route.is)
    (steps-routes (kept_in c.args.self.now).topology (kept_in c.args.self.now).atoms c.in-Route.router c.in-Route.feed_no c.in-Route.op c.update_of-update.result c.args.steps.now c.update.new.steps is c.update.ensures.cost)

pub returns-in-Link-clause-made : goal.returns-in-Link-clause-made
returns-in-Link-clause-made g c = IfOk-weaker c.turn_link.result _ _
    (λ changes made. subst (λ (e : Entry). IsAdvanced (kept_in c.args.self.now) (kept_in c.turn_link.new.self) e changes) (sym c.in-Link.is)
    (advanced-link (kept_in c.args.self.now) (kept_in c.turn_link.new.self) c.in-Link.job c.in-Link.link c.in-Link.down changes c.requires.sound.whole made))
    c.turn_link.ensures.made
