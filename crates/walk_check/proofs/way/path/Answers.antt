use Rattle.std.proofs.Common.{◌≡◌, ◌∙◌, sym, ap, arith}
use Rattle.base.specs.Forwarding.{does}
use Rattle.base.specs.Walk.{at_address}
use Rattle.base.specs.declared.path_end.PathEnd.TheVariants.{At}
use Rattle.base.specs.declared.ids.LinkId.{LinkId}
use Rattle.base.specs.declared.ids.RouterId.{RouterId}
use Rattle.base.specs.declared.target.Target.TheVariants.{To}
use Rattle.base.proofs.Walks.{walk_end-to, walk_end-last, walked-to, walked-last}
use Rattle.label_view.proofs.InRow.{in-row, leads-within, target-is}
use Rattle.walk_check.proofs.way.path.Goals as goal

pub returns-in_default : goal.returns-in_default
returns-in_default g c =
    let inside = in-row _ _ c.atom_of-place.result c.args.a c.routers-left.ensures.form c.atom_of-place.ensures.inside c.atom_of-place.ensures.from c.atom_of-place.ensures.to in
    let is : at_address (does (g.V.LabelView.rows c.args.view.now)) c.args.a c.loop-left.router ≡ c.target.result = target-is _ _ c.atom_of-place.result c.args.a c.loop-left.router c.target.result c.routers-left.ensures.form c.atom_of-place.ensures.inside c.target.ensures inside in
    let last : (s : RouterId) (l : LinkId) → at_address (does (g.V.LabelView.rows c.args.view.now)) c.args.a c.loop-left.router ≡ To s l → ⊥ = λ s l e. c.in_default.not-To s l (sym is ∙ e) in
    record {
      hops = c.from_vec.ensures ∙ walked-last _ _ _ _ _ _ c.loop-left-test.true last c.in_ok-push.ensures.items c.loop-left.invariant.hops;
      end = ap At (sym is) ∙ sym (walk_end-last _ _ _ c.loop-left-test.true last) ∙ c.loop-left.invariant.end;
      cost = omega (arith, c.loop-left.invariant.cost);
    }

pub loop-left-preserved : goal.loop-left-preserved
loop-left-preserved g c =
    let inside = in-row _ _ c.atom_of-place.result c.args.a c.routers-left.ensures.form c.atom_of-place.ensures.inside c.atom_of-place.ensures.from c.atom_of-place.ensures.to in
    let is : at_address (does (g.V.LabelView.rows c.args.view.now)) c.args.a c.loop-left.router ≡ c.target.result = target-is _ _ c.atom_of-place.result c.args.a c.loop-left.router c.target.result c.routers-left.ensures.form c.atom_of-place.ensures.inside c.target.ensures inside in
    let e = is ∙ c.in-To.is in
    record {
      within = leads-within _ _ c.atom_of-place.result c.loop-left.router _ _ c.target.result c.routers-left.ensures.form c.atom_of-place.ensures.inside c.target.ensures c.in-To.is;
      hops = walked-to _ _ _ _ _ _ _ _ c.loop-left-test.true e c.in_ok-push.ensures.items c.loop-left.invariant.hops;
      end = sym (walk_end-to _ _ _ _ _ c.loop-left-test.true e) ∙ c.loop-left.invariant.end;
      cost = omega (arith, c.loop-left.invariant.cost);
    }
