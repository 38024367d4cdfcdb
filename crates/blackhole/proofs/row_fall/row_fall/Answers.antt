use Rattle.std.proofs.Common.{◌≡◌, ◌<◌, ◌-◌, ◌∙◌, ap, sym, arith}
use Rattle.base.specs.Forwarding.{does}
use Rattle.base.specs.Walk.{at_address}
use Rattle.base.specs.declared.ids.LinkId.{LinkId}
use Rattle.base.specs.declared.ids.RouterId.{RouterId}
use Rattle.base.specs.declared.target.Target.TheVariants.{To}
use Rattle.label_view.proofs.InRow.{leads-within, target-is}
use Rattle.blackhole.specs.Falls.{is_fall, walk_falls}
use Rattle.blackhole.proofs.Falling.{falls-here, falls-later}
use Rattle.blackhole.proofs.row_fall.row_fall.Goals as goal

pub walk_fall-requires-clause-router : goal.walk_fall-requires-clause-router
walk_fall-requires-clause-router g c = leads-within _ _ c.args.i c.args.first _ _ c.args.target c.routers-routers.ensures.form c.requires.place c.requires.target c.in-To.is

pub returns-in-To-clause-falls : goal.returns-in-To-clause-falls
returns-in-To-clause-falls g c = λ last cause a inside.
    let is : at_address (does (g.V.LabelView.rows c.args.view.now)) a c.args.first ≡ c.args.target = target-is _ _ c.args.i a c.args.first c.args.target c.routers-routers.ensures.form c.requires.place c.requires.target inside in
    let some : 0 < g.V.LabelView.width c.args.view.now = omega (arith, c.requires.router) in
    c.walk_fall.ensures.falls last cause a inside
    ∙ ap (λ n. walk_falls (at_address (does (g.V.LabelView.rows c.args.view.now)) a) (n - 1) c.in-To.far last cause) c.routers-routers.ensures.value
    ∙ sym (falls-later (at_address (does (g.V.LabelView.rows c.args.view.now)) a) (g.V.LabelView.width c.args.view.now) c.args.first c.in-To.far _ last cause some (is ∙ c.in-To.is))

pub returns-in_default-clause-falls : goal.returns-in_default-clause-falls
returns-in_default-clause-falls g c = λ last cause a inside.
    let is : at_address (does (g.V.LabelView.rows c.args.view.now)) a c.args.first ≡ c.args.target = target-is _ _ c.args.i a c.args.first c.args.target c.routers-routers.ensures.form c.requires.place c.requires.target inside in
    let some : 0 < g.V.LabelView.width c.args.view.now = omega (arith, c.requires.router) in
    let ends : (s : RouterId) (l : LinkId) → at_address (does (g.V.LabelView.rows c.args.view.now)) a c.args.first ≡ To s l → ⊥ = λ s l e. c.in_default.not-To s l (sym is ∙ e) in
    ap (λ end. is_fall end last cause) c.fall_at.ensures.value ∙ falls-here (at_address (does (g.V.LabelView.rows c.args.view.now)) a) (g.V.LabelView.width c.args.view.now) c.args.first c.args.target last cause some ends is
