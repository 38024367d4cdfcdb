use Rattle.std.proofs.Common.{◌≡◌, ◌∙◌, sym, arith}
use Rattle.base.specs.Forwarding.{does}
use Rattle.base.specs.Walk.{at_address}
use Rattle.base.specs.declared.ids.LinkId.{LinkId}
use Rattle.base.specs.declared.ids.RouterId.{RouterId}
use Rattle.base.specs.declared.target.Target.TheVariants.{To}
use Rattle.label_view.proofs.InRow.{leads-within, target-is}
use Rattle.waypoint.proofs.Missing.{met-later, met-never, through-here, to-here}
use Rattle.waypoint.proofs.missed.walk_misses.Goals as goal

pub returns-then-router-asked-clause-misses : goal.returns-then-router-asked-clause-misses
returns-then-router-asked-clause-misses g c = λ a inside. sym (through-here (at_address (does (g.V.LabelView.rows c.args.view.now)) a) c.loop-left.left c.loop-left.router c.args.asked.to c.args.asked.through c.if-router-asked.true) ∙ c.loop-left.invariant.rest a inside

pub returns-then-router-asked-2-clause-misses : goal.returns-then-router-asked-2-clause-misses
returns-then-router-asked-2-clause-misses g c = λ a inside. sym (to-here (at_address (does (g.V.LabelView.rows c.args.view.now)) a) c.loop-left.left c.loop-left.router c.args.asked.to c.args.asked.through c.if-router-asked.false c.if-router-asked-2.true) ∙ c.loop-left.invariant.rest a inside

pub returns-in_default-clause-misses : goal.returns-in_default-clause-misses
returns-in_default-clause-misses g c = λ a inside.
    let is : at_address (does (g.V.LabelView.rows c.args.view.now)) a c.loop-left.router ≡ c.target.result = target-is _ _ c.args.i a c.loop-left.router c.target.result c.requires.form c.requires.place c.target.ensures inside in
    let last : (s : RouterId) (l : LinkId) → at_address (does (g.V.LabelView.rows c.args.view.now)) a c.loop-left.router ≡ To s l → ⊥ = λ s l e. c.in_default.not-To s l (sym is ∙ e) in
    sym (met-never (at_address (does (g.V.LabelView.rows c.args.view.now)) a) c.loop-left.left c.loop-left.router c.args.asked.to c.args.asked.through c.loop-left-test.true c.if-router-asked.false c.if-router-asked-2.false last) ∙ c.loop-left.invariant.rest a inside

pub loop-left-preserved : goal.loop-left-preserved
loop-left-preserved g c = record {
  within = leads-within _ _ c.args.i c.loop-left.router _ _ c.target.result c.requires.form c.requires.place c.target.ensures c.in-To.is;
  rest = λ a inside.
      let is : at_address (does (g.V.LabelView.rows c.args.view.now)) a c.loop-left.router ≡ c.target.result = target-is _ _ c.args.i a c.loop-left.router c.target.result c.requires.form c.requires.place c.target.ensures inside in
      sym (met-later (at_address (does (g.V.LabelView.rows c.args.view.now)) a) c.loop-left.left c.loop-left.router _ c.args.asked.to c.args.asked.through _ c.loop-left-test.true c.if-router-asked.false c.if-router-asked-2.false (is ∙ c.in-To.is)) ∙ c.loop-left.invariant.rest a inside;
  cost = omega (arith, c.loop-left.invariant.cost);
}
