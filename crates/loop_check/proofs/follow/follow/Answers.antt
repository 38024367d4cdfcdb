use Rattle.std.proofs.Common.{◌≡◌, ◌+◌, ◌<◌, ◌∙◌, sym, ap, length, List, [], ◌∷◌, arith}
use Rattle.std.proofs.lemmas.List.{length-append}
use Rattle.base.specs.declared.ids.LinkId.{LinkId}
use Rattle.base.specs.declared.ids.RouterId.{RouterId}
use Rattle.base.specs.declared.target.Target.TheVariants.{To}
use Rattle.loop_check.specs.Following.{hops}
use Rattle.loop_check.proofs.Chains.{chain-next, chain-back, chain-earlier, chain-ends, chain-long}
use Rattle.loop_check.proofs.follow.follow.Goals as goal

pub returns-in_default : goal.returns-in_default
returns-in_default c =
    let last : (s : RouterId) (l : LinkId) → hops c.args.targets.now c.loop-left.last ≡ To s l → ⊥ = λ s l e. c.in_default.not-To s l (c.target_at.ensures ∙ e) in
    chain-ends (hops c.args.targets.now) c.args.first c.loop-left.last c.loop-left.path.items c.loop-left.invariant.chain last

pub returns-then-far-first : goal.returns-then-far-first
returns-then-far-first c =
    chain-back (hops c.args.targets.now) c.args.first c.loop-left.last c.in-To.far c.in-To.field-1 c.loop-left.path.items c.loop-left.invariant.chain (sym c.target_at.ensures ∙ c.in-To.is) c.if-far-first.true

pub returns-then-far-first-2 : goal.returns-then-far-first-2
returns-then-far-first-2 c =
    (c.if-far-first-2.true, chain-earlier (hops c.args.targets.now) c.args.first c.loop-left.last c.in-To.far c.in-To.field-1 c.loop-left.path.items c.loop-left.invariant.chain (sym c.target_at.ensures ∙ c.in-To.is))

pub loop-left-preserved : goal.loop-left-preserved
loop-left-preserved c =
    let more : length c.push-in-loop-left.new.self.items ≡ length c.loop-left.path.items + 1 =
    ap (λ (rs : List RouterId). length rs) c.in_ok-push-2.ensures.items ∙ length-append c.loop-left.path.items (c.in-To.far ∷ []) in
    let later : c.args.first.0 < c.in-To.far.0 = omega arith in
    record {
      inside = c.requires.within.inside c.loop-left.last c.in-To.far c.in-To.field-1 (sym c.target_at.ensures ∙ c.in-To.is);
      count = omega arith;
      chain = chain-next (hops c.args.targets.now) c.args.first c.loop-left.last c.in-To.far c.in-To.field-1 c.loop-left.path.items c.push-in-loop-left.new.self.items c.loop-left.invariant.chain (sym c.target_at.ensures ∙ c.in-To.is) later c.in_ok-push-2.ensures.items;
    }

pub returns : goal.returns
returns c =
    let all : length c.loop-left.path.items + c.loop-left.left ≡ length c.args.targets.now + 1 = c.loop-left.invariant.count in
    chain-long c.args.targets.now c.args.first c.loop-left.last c.loop-left.path.items c.loop-left.invariant.chain (omega arith)
