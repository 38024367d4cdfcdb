-- Where a walk ends, hop by hop.
use Rattle.std.proofs.Common.{◌≡◌, ℕ, zero, suc, ◌<◌, ◌-◌, ◌∙◌, false, ◌&&◌, refl, ap, sym, arith, sub-one}
use Rattle.std.proofs.lemmas.Bool.{and_right}
use Rattle.base.specs.Holes.{ends_by}
use Rattle.base.specs.Reach.{is_router}
use Rattle.base.specs.Walk.{walk_end, walk_last}
use Rattle.base.specs.declared.path_end.PathEnd.TheVariants.{At}
use Rattle.base.specs.declared.ids.LinkId.{LinkId}
use Rattle.base.specs.declared.ids.RouterId.{RouterId}
use Rattle.base.specs.declared.target.Target.{Target}
use Rattle.base.specs.declared.target.Target.TheVariants.{NoRoute, Dropped, Local, Exit, OnLink, To, LinkDown}
use Rattle.base.proofs.Walks.{on_far-last, walk_end-last, walk_end-to}
use Rattle.blackhole.specs.Falls.{fall_of, is_fall, walk_falls}

walk_last-to : (f : RouterId → Target) (n : ℕ) (r s : RouterId) (l : LinkId) → 0 < n → f r ≡ To s l → walk_last f n r ≡ walk_last f (n - 1) s
walk_last-to f zero r s l h e = absurd (omega arith)
walk_last-to f (suc n) r s l h e = rw (e, sub-one) refl

walk_last-last : (f : RouterId → Target) (n : ℕ) (r : RouterId) → 0 < n → ((s : RouterId) (l : LinkId) → f r ≡ To s l → ⊥) → walk_last f n r ≡ r
walk_last-last f zero r h e = absurd (omega arith)
walk_last-last f (suc n) r h e = on_far-last (f r) _ _ e

-- a walk that goes on falls where the rest of it does
pub falls-later : (f : RouterId → Target) (n : ℕ) (r s : RouterId) (l : LinkId) (last : RouterId) (cause : Target) → 0 < n → f r ≡ To s l → walk_falls f n r last cause ≡ walk_falls f (n - 1) s last cause
falls-later f n r s l last cause some e =
    ap (λ (x : RouterId). is_router last x && ends_by cause (walk_end f n r)) (walk_last-to f n r s l some e)
    ∙ ap (λ end. is_router last (walk_last f (n - 1) s) && ends_by cause end) (walk_end-to f n r s l some e)

fall-is : (r : RouterId) (t : Target) (last : RouterId) (cause : Target) → is_fall (fall_of r t) last cause ≡ (is_router last r && ends_by cause (At t))
fall-is r NoRoute last cause = refl
fall-is r (Dropped kind) last cause = refl
fall-is r Local last cause = sym (and_right _ _ refl)
fall-is r (Exit i) last cause = sym (and_right _ _ refl)
fall-is r (OnLink i) last cause = sym (and_right _ _ refl)
fall-is r (To s l) last cause = sym (and_right _ _ refl)
fall-is r (LinkDown l) last cause = refl

-- a walk that ends falls there, if what its last router does is a cause
pub falls-here : (f : RouterId → Target) (n : ℕ) (r : RouterId) (t : Target) (last : RouterId) (cause : Target) → 0 < n → ((s : RouterId) (l : LinkId) → f r ≡ To s l → ⊥) → f r ≡ t → is_fall (fall_of r t) last cause ≡ walk_falls f n r last cause
falls-here f n r t last cause some ends is =
    fall-is r t last cause
    ∙ ap (λ x. is_router last r && ends_by cause (At x)) (sym is)
    ∙ ap (λ end. is_router last r && ends_by cause end) (sym (walk_end-last f n r some ends))
    ∙ ap (λ (x : RouterId). is_router last x && ends_by cause (walk_end f n r)) (sym (walk_last-last f n r some ends))

-- a walk that makes all its hops doesn't fall
pub falls-never : (f : RouterId → Target) (n : ℕ) (r last : RouterId) (cause : Target) → n ≡ 0 → walk_falls f n r last cause ≡ false
falls-never f zero r last cause e = and_right _ _ refl
falls-never f (suc n) r last cause e = absurd (omega arith)
