use Rattle.std.proofs.Common.{◌≡◌, ◌<◌, ◌-◌, ◌∙◌, ap, sym, arith}
use Rattle.base.specs.Forwarding.{does}
use Rattle.base.specs.Reach.{comes_before}
use Rattle.base.specs.Walk.{at_address, walk}
use Rattle.base.specs.declared.ids.LinkId.{LinkId}
use Rattle.base.specs.declared.ids.RouterId.{RouterId}
use Rattle.base.specs.declared.target.Target.TheVariants.{To}
use Rattle.label_view.proofs.InRow.{leads-within, target-is}
use Rattle.waypoint.proofs.Missing.{met-later, met-never}
use Rattle.waypoint.proofs.missed.row_misses.Goals as goal

pub walk_misses-requires-clause-router : goal.walk_misses-requires-clause-router
walk_misses-requires-clause-router g c = leads-within _ _ c.args.i c.args.first _ _ c.args.target c.routers-routers.ensures.form c.requires.place c.requires.target c.in-To.is

pub returns-in-To-clause-misses : goal.returns-in-To-clause-misses
returns-in-To-clause-misses g c = λ a inside.
    let is : at_address (does (g.V.LabelView.rows c.args.view.now)) a c.args.first ≡ c.args.target = target-is _ _ c.args.i a c.args.first c.args.target c.routers-routers.ensures.form c.requires.place c.requires.target inside in
    let some : 0 < g.V.LabelView.width c.args.view.now = omega (arith, c.requires.router) in
    c.walk_misses.ensures.misses a inside
    ∙ ap (λ n. comes_before c.args.asked.to c.args.asked.through (walk (at_address (does (g.V.LabelView.rows c.args.view.now)) a) (n - 1) c.in-To.far)) c.routers-routers.ensures.value
    ∙ sym (met-later (at_address (does (g.V.LabelView.rows c.args.view.now)) a) (g.V.LabelView.width c.args.view.now) c.args.first c.in-To.far c.args.asked.to c.args.asked.through _ some c.if-first-asked.false c.if-first-asked-2.false (is ∙ c.in-To.is))

pub returns-in_default : goal.returns-in_default
returns-in_default g c =
    let some : 0 < g.V.LabelView.width c.args.view.now = omega (arith, c.requires.router) in
    record {
      misses = λ a inside.
          let is : at_address (does (g.V.LabelView.rows c.args.view.now)) a c.args.first ≡ c.args.target = target-is _ _ c.args.i a c.args.first c.args.target c.routers-routers.ensures.form c.requires.place c.requires.target inside in
          let last : (s : RouterId) (l : LinkId) → at_address (does (g.V.LabelView.rows c.args.view.now)) a c.args.first ≡ To s l → ⊥ = λ s l e. c.in_default.not-To s l (sym is ∙ e) in
          sym (met-never (at_address (does (g.V.LabelView.rows c.args.view.now)) a) (g.V.LabelView.width c.args.view.now) c.args.first c.args.asked.to c.args.asked.through some c.if-first-asked.false c.if-first-asked-2.false last);
      cost = omega (arith, some, c.tick.ensures);
    }
