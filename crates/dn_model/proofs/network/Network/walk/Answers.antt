use Rattle.std.proofs.Common.{◌≡◌, ◌∙◌, sym, ap}
use Rattle.base.specs.declared.ids.RouterId.{RouterId}
use Rattle.base.specs.declared.ids.LinkId.{LinkId}
use Rattle.base.specs.declared.target.Target.TheVariants.{To}
use Rattle.base.specs.declared.path_end.PathEnd.TheVariants.{At}
use Rattle.dn_model.specs.Network.{does_in}
use Rattle.base.proofs.Walks.{walk_end-to, walk_end-last, walked-to, walked-last}
use Rattle.dn_model.proofs.network.Network.walk.Goals as goal

pub returns-in_default : goal.returns-in_default
returns-in_default c =
    let last : (s : RouterId) (l : LinkId) → does_in c.args.self.now c.loop-left.router c.args.a ≡ To s l → ⊥ = λ s l e. c.in_default.not-To s l (c.target.ensures ∙ e) in
    record {
      routers = c.from_vec.ensures ∙ walked-last _ _ _ _ _ _ c.loop-left-test.true last c.in_ok-push.ensures.items c.loop-left.invariant.0;
      end = ap At (c.target.ensures) ∙ sym (walk_end-last _ _ _ c.loop-left-test.true last) ∙ c.loop-left.invariant.1;
    }

pub loop-left-preserved : goal.loop-left-preserved
loop-left-preserved c =
    let e = sym (c.target.ensures) ∙ c.in-To.is in
    (walked-to _ _ _ _ _ _ _ _ c.loop-left-test.true e c.in_ok-push.ensures.items c.loop-left.invariant.0, sym (walk_end-to _ _ _ _ _ c.loop-left-test.true e) ∙ c.loop-left.invariant.1)
