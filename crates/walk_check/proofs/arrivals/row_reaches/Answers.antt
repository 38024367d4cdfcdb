use Rattle.std.proofs.Common.{◌≡◌, ◌<◌, ◌-◌, ◌∙◌, ap, sym, arith}
use Rattle.std.specs.List.{list_any}
use Rattle.base.specs.Forwarding.{does}
use Rattle.base.specs.Reach.{is_router}
use Rattle.base.specs.Walk.{at_address, walk}
use Rattle.base.specs.declared.ids.LinkId.{LinkId}
use Rattle.base.specs.declared.ids.RouterId.{RouterId}
use Rattle.base.specs.declared.target.Target.TheVariants.{To}
use Rattle.label_view.proofs.InRow.{leads-within, target-is}
use Rattle.walk_check.proofs.Reaching.{met-later, met-never}
use Rattle.walk_check.proofs.arrivals.row_reaches.Goals as goal

pub walk_reaches-requires-clause-router : goal.walk_reaches-requires-clause-router
walk_reaches-requires-clause-router g c = leads-within _ _ c.args.i c.args.first _ _ c.args.target c.routers-routers.ensures.form c.requires.place c.requires.target c.in-To.is

pub returns-in-To-clause-reaches : goal.returns-in-To-clause-reaches
returns-in-To-clause-reaches g c = λ a inside.
    let is : at_address (does (g.V.LabelView.rows c.args.view.now)) a c.args.first ≡ c.args.target = target-is _ _ c.args.i a c.args.first c.args.target c.routers-routers.ensures.form c.requires.place c.requires.target inside in
    let some : 0 < g.V.LabelView.width c.args.view.now = omega (arith, c.requires.router) in
    c.walk_reaches.ensures.reaches a inside
    ∙ ap (λ n. list_any (is_router c.args.to) (walk (at_address (does (g.V.LabelView.rows c.args.view.now)) a) (n - 1) c.in-To.far)) c.routers-routers.ensures.value
    ∙ sym (met-later (at_address (does (g.V.LabelView.rows c.args.view.now)) a) (g.V.LabelView.width c.args.view.now) c.args.first c.in-To.far c.args.to _ some c.if-first-to.false (is ∙ c.in-To.is))

pub returns-in_default : goal.returns-in_default
returns-in_default g c =
    let some : 0 < g.V.LabelView.width c.args.view.now = omega (arith, c.requires.router) in
    record {
      reaches = λ a inside.
          let is : at_address (does (g.V.LabelView.rows c.args.view.now)) a c.args.first ≡ c.args.target = target-is _ _ c.args.i a c.args.first c.args.target c.routers-routers.ensures.form c.requires.place c.requires.target inside in
          let last : (s : RouterId) (l : LinkId) → at_address (does (g.V.LabelView.rows c.args.view.now)) a c.args.first ≡ To s l → ⊥ = λ s l e. c.in_default.not-To s l (sym is ∙ e) in
          sym (met-never (at_address (does (g.V.LabelView.rows c.args.view.now)) a) (g.V.LabelView.width c.args.view.now) c.args.first c.args.to some c.if-first-to.false last);
      cost = omega (arith, some, c.tick.ensures);
    }
