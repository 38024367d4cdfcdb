-- One hop of a walk.
use Rattle.std.proofs.Common.{◌≡◌, ℕ, zero, suc, ◌<◌, ◌-◌, List, [], ◌∷◌, ◌++◌, refl, ap, sym, ◌∙◌, append_assoc, arith, sub-one}
use Rattle.base.specs.declared.ids.RouterId.{RouterId}
use Rattle.base.specs.declared.ids.LinkId.{LinkId}
use Rattle.base.specs.declared.target.Target.{Target}
use Rattle.base.specs.declared.target.Target.TheVariants.{NoRoute, Dropped, Local, Exit, OnLink, To, LinkDown}
use Rattle.base.specs.declared.path_end.PathEnd.TheVariants.{At}
use Rattle.base.specs.Walk.{on_far, walk, walk_end}

-- of a target that is no To nothing is made
pub on_far-last : {A : Type 0} (t : Target) (none : A) (some : RouterId → A) → ((s : RouterId) (l : LinkId) → t ≡ To s l → ⊥) → on_far t none some ≡ none
on_far-last NoRoute none some h = refl
on_far-last (Dropped kind) none some h = refl
on_far-last Local none some h = refl
on_far-last (Exit i) none some h = refl
on_far-last (OnLink i) none some h = refl
on_far-last (To s l) none some h = absurd (h s l refl)
on_far-last (LinkDown l) none some h = refl

-- a walk whose first router goes on to another
pub walk-to : (f : RouterId → Target) (n : ℕ) (r s : RouterId) (l : LinkId) → 0 < n → f r ≡ To s l → walk f n r ≡ r ∷ walk f (n - 1) s
walk-to f zero r s l h e = absurd (omega arith)
walk-to f (suc n) r s l h e = rw (e, sub-one) refl

pub walk_end-to : (f : RouterId → Target) (n : ℕ) (r s : RouterId) (l : LinkId) → 0 < n → f r ≡ To s l → walk_end f n r ≡ walk_end f (n - 1) s
walk_end-to f zero r s l h e = absurd (omega arith)
walk_end-to f (suc n) r s l h e = rw (e, sub-one) refl

-- a walk whose first router is its last
pub walk-last : (f : RouterId → Target) (n : ℕ) (r : RouterId) → 0 < n → ((s : RouterId) (l : LinkId) → f r ≡ To s l → ⊥) → walk f n r ≡ r ∷ []
walk-last f zero r h e = absurd (omega arith)
walk-last f (suc n) r h e = ap (λ rs. r ∷ rs) (on_far-last (f r) _ _ e)

pub walk_end-last : (f : RouterId → Target) (n : ℕ) (r : RouterId) → 0 < n → ((s : RouterId) (l : LinkId) → f r ≡ To s l → ⊥) → walk_end f n r ≡ At (f r)
walk_end-last f zero r h e = absurd (omega arith)
walk_end-last f (suc n) r h e = on_far-last (f r) _ _ e

-- what was walked, and the walk from here on: one hop later, and at its end
pub walked-to : (f : RouterId → Target) (n : ℕ) (r s : RouterId) (l : LinkId) (before now all : List RouterId) → 0 < n → f r ≡ To s l → now ≡ before ++ r ∷ [] → before ++ walk f n r ≡ all → now ++ walk f (n - 1) s ≡ all
walked-to f n r s l before now all h e p w =
    ap (λ rs. rs ++ walk f (n - 1) s) p ∙ append_assoc before (r ∷ []) (walk f (n - 1) s) ∙ ap (λ rs. before ++ rs) (sym (walk-to f n r s l h e)) ∙ w

pub walked-last : (f : RouterId → Target) (n : ℕ) (r : RouterId) (before now all : List RouterId) → 0 < n → ((s : RouterId) (l : LinkId) → f r ≡ To s l → ⊥) → now ≡ before ++ r ∷ [] → before ++ walk f n r ≡ all → now ≡ all
walked-last f n r before now all h e p w = p ∙ ap (λ rs. before ++ rs) (sym (walk-last f n r h e)) ∙ w

-- functions that agree at each router have the same walks
pub on_far-same : {A : Type 0} (t : Target) (none : A) (some other : RouterId → A) → ((s : RouterId) → some s ≡ other s) → on_far t none some ≡ on_far t none other
on_far-same NoRoute none some other h = refl
on_far-same (Dropped kind) none some other h = refl
on_far-same Local none some other h = refl
on_far-same (Exit i) none some other h = refl
on_far-same (OnLink i) none some other h = refl
on_far-same (To s l) none some other h = h s
on_far-same (LinkDown l) none some other h = refl

pub walk-same : (f g : RouterId → Target) → ((r : RouterId) → f r ≡ g r) → (n : ℕ) (r : RouterId) → walk f n r ≡ walk g n r
walk-same f g h zero r = refl
walk-same f g h (suc n) r = ap (λ rs. r ∷ rs) (ap (λ t. on_far t [] (λ s. walk f n s)) (h r) ∙ on_far-same (g r) [] _ _ (λ s. walk-same f g h n s))

pub walk_end-same : (f g : RouterId → Target) → ((r : RouterId) → f r ≡ g r) → (n : ℕ) (r : RouterId) → walk_end f n r ≡ walk_end g n r
walk_end-same f g h zero r = refl
walk_end-same f g h (suc n) r = ap (λ t. on_far t (At t) (λ s. walk_end f n s)) (h r) ∙ on_far-same (g r) (At (g r)) _ _ (λ s. walk_end-same f g h n s)
