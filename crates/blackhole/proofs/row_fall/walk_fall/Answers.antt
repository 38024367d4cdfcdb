use Rattle.std.proofs.Common.{◌≡◌, ◌∙◌, ap, sym, arith}
use Rattle.base.specs.Forwarding.{does}
use Rattle.base.specs.Walk.{at_address}
use Rattle.base.specs.declared.ids.LinkId.{LinkId}
use Rattle.base.specs.declared.ids.RouterId.{RouterId}
use Rattle.base.specs.declared.target.Target.TheVariants.{To}
use Rattle.label_view.proofs.InRow.{leads-within, target-is}
use Rattle.blackhole.specs.Falls.{is_fall}
use Rattle.blackhole.proofs.Falling.{falls-here, falls-later}
use Rattle.blackhole.proofs.row_fall.walk_fall.Goals as goal

pub returns-in_default-clause-falls : goal.returns-in_default-clause-falls
returns-in_default-clause-falls g c = λ last cause a inside.
    let is : at_address (does (g.V.LabelView.rows c.args.view.now)) a c.loop-left.router ≡ c.target.result = target-is _ _ c.args.i a c.loop-left.router c.target.result c.requires.form c.requires.place c.target.ensures inside in
    let ends : (s : RouterId) (l : LinkId) → at_address (does (g.V.LabelView.rows c.args.view.now)) a c.loop-left.router ≡ To s l → ⊥ = λ s l e. c.in_default.not-To s l (sym is ∙ e) in
    ap (λ end. is_fall end last cause) c.fall_at.ensures.value ∙ falls-here (at_address (does (g.V.LabelView.rows c.args.view.now)) a) c.loop-left.left c.loop-left.router c.target.result last cause c.loop-left-test.true ends is ∙ c.loop-left.invariant.rest last cause a inside

pub loop-left-preserved : goal.loop-left-preserved
loop-left-preserved g c = record {
  within = leads-within _ _ c.args.i c.loop-left.router _ _ c.target.result c.requires.form c.requires.place c.target.ensures c.in-To.is;
  rest = λ last cause a inside.
      let is : at_address (does (g.V.LabelView.rows c.args.view.now)) a c.loop-left.router ≡ c.target.result = target-is _ _ c.args.i a c.loop-left.router c.target.result c.requires.form c.requires.place c.target.ensures inside in
      sym (falls-later (at_address (does (g.V.LabelView.rows c.args.view.now)) a) c.loop-left.left c.loop-left.router _ _ last cause c.loop-left-test.true (is ∙ c.in-To.is)) ∙ c.loop-left.invariant.rest last cause a inside;
  cost = omega (arith, c.loop-left.invariant.cost);
}
