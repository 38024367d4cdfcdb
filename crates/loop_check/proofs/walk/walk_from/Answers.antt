use Rattle.std.proofs.Common.{◌≡◌, ◌<◌, ◌∙◌, length, true, refl, sym, inl, inr, ⊎_elim, subst, arith}
use Rattle.base.specs.declared.ids.LinkId.{LinkId}
use Rattle.base.specs.declared.ids.RouterId.{RouterId}
use Rattle.base.specs.declared.target.Target.TheVariants.{To}
use Rattle.loop_check.specs.Following.{IsPassed, MeetsPassed, hops, is_among}
use Rattle.loop_check.proofs.Passing.{passed-new, passed-kept, mark-old, meets-cases}
use Rattle.loop_check.proofs.Rounds.{goes-there, in-none, step}
use Rattle.loop_check.proofs.walk.walk_from.Goals as goal

pub returns-in_default : goal.returns-in_default
returns-in_default c =
    let inside : c.passing.router.0 < length c.passing.passed = omega (arith, c.passing.invariant.room, c.passing.invariant.inside) in
    let last : (s : RouterId) (l : LinkId) → hops c.args.targets.now c.passing.router ≡ To s l → ⊥ = λ s l e. c.in_default.not-To s l (c.target_at.ensures ∙ e) in
    let P : RouterId → Type 0 = λ v. IsPassed c.mark.new.passed v in
    record {
      start = ⊎_elim
          (λ (here : c.passing.router ≡ c.args.start). subst P here (passed-new c.passing.passed c.mark.new.passed c.passing.router c.args.start inside c.mark.ensures))
          (λ (there : IsPassed c.passing.passed c.args.start). passed-kept c.passing.passed c.mark.new.passed c.passing.router c.args.start c.args.start inside c.mark.ensures there)
          c.passing.invariant.start;
      kept = λ r h. passed-kept c.passing.passed c.mark.new.passed c.passing.router c.args.start r inside c.mark.ensures (c.passing.invariant.kept r h);
      met = tt;
      told = λ rs k m. ⊎_elim
          (λ (old : MeetsPassed c.passing.passed rs). ⊎_elim
          (λ (first : MeetsPassed c.args.passed.now rs). inl first)
          (λ (here : is_among rs c.passing.router ≡ true). absurd (in-none (hops c.args.targets.now) c.passing.router last rs k here))
          (c.passing.invariant.told rs k old))
          (λ (here : is_among rs c.passing.router ≡ true). absurd (in-none (hops c.args.targets.now) c.passing.router last rs k here))
          (meets-cases c.passing.passed c.mark.new.passed c.passing.router c.args.start rs c.mark.ensures m);
    }

pub passing-preserved : goal.passing-preserved
passing-preserved c =
    let inside : c.passing.router.0 < length c.passing.passed = omega (arith, c.passing.invariant.room, c.passing.invariant.inside) in
    let to : hops c.args.targets.now c.passing.router ≡ To c.in-To.far c.in-To.field-1 = sym c.target_at.ensures ∙ c.in-To.is in
    let P : RouterId → Type 0 = λ v. IsPassed c.mark.new.passed v in
    let room : length c.mark.new.passed ≡ length c.passing.passed = c.mark.auto.passed in
    record {
      inside = c.requires.within.inside c.passing.router c.in-To.far c.in-To.field-1 to;
      room = room ∙ c.passing.invariant.room;
      start = inr (⊎_elim
          (λ (here : c.passing.router ≡ c.args.start). subst P here (passed-new c.passing.passed c.mark.new.passed c.passing.router c.args.start inside c.mark.ensures))
          (λ (there : IsPassed c.passing.passed c.args.start). passed-kept c.passing.passed c.mark.new.passed c.passing.router c.args.start c.args.start inside c.mark.ensures there)
          c.passing.invariant.start);
      kept = λ r h. passed-kept c.passing.passed c.mark.new.passed c.passing.router c.args.start r inside c.mark.ensures (c.passing.invariant.kept r h);
      before = λ r by e differ. c.passing.invariant.before r by (mark-old c.passing.passed c.mark.new.passed c.passing.router c.args.start r by inside c.mark.ensures e differ) differ;
      told = λ rs k m.
          let on : is_among rs c.passing.router ≡ true → is_among rs c.in-To.far ≡ true = λ here. step (hops c.args.targets.now) rs c.passing.router c.in-To.far k here (goes-there (hops c.args.targets.now) c.passing.router c.in-To.far c.in-To.far c.in-To.field-1 to refl) in
          ⊎_elim
          (λ (old : MeetsPassed c.passing.passed rs). ⊎_elim
          (λ (first : MeetsPassed c.args.passed.now rs). inl first)
          (λ (here : is_among rs c.passing.router ≡ true). inr (on here))
          (c.passing.invariant.told rs k old))
          (λ (here : is_among rs c.passing.router ≡ true). inr (on here))
          (meets-cases c.passing.passed c.mark.new.passed c.passing.router c.args.start rs c.mark.ensures m);
    }
