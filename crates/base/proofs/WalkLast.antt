-- The last router of a walk.
use Rattle.std.proofs.Common.{◌≡◌, ℕ, suc, zero, ◌-◌, ◌∙◌, Some, List, [], ◌∷◌, length, slice_get, refl, ap, sym, subst, ⊎_elim, sub-one}
use Rattle.base.specs.Walk.{on_far, walk, walk_last}
use Rattle.base.specs.declared.ids.LinkId.{LinkId}
use Rattle.base.specs.declared.ids.RouterId.{RouterId}
use Rattle.base.specs.declared.target.Target.{Target}
use Rattle.base.specs.declared.target.Target.TheVariants.{To}
use Rattle.base.proofs.Loops.{target_cases}
use Rattle.base.proofs.Walks.{on_far-last, on_far-same}

pub walk_last-same : (f g : RouterId → Target) → ((r : RouterId) → f r ≡ g r) → (n : ℕ) (r : RouterId) → walk_last f n r ≡ walk_last g n r
walk_last-same f g h zero r = refl
walk_last-same f g h (suc n) r = ap (λ t. on_far t r (λ s. walk_last f n s)) (h r) ∙ on_far-same (g r) r _ _ (λ s. walk_last-same f g h n s)

-- the last router of a walk
last-more : {A : Type 0} (x y : A) (xs : List A) (z : A) → slice_get (y ∷ xs) (length (y ∷ xs) - 1) ≡ Some z → slice_get (x ∷ y ∷ xs) (length (x ∷ y ∷ xs) - 1) ≡ Some z
last-more x y xs z h = rw sub-one (rw sub-one at h)

last-from : (f : RouterId → Target) (n : ℕ) (r s : RouterId) → slice_get (walk f n s) (length (walk f n s) - 1) ≡ Some (walk_last f n s) → slice_get (r ∷ walk f n s) (length (r ∷ walk f n s) - 1) ≡ Some (walk_last f n s)
last-from f zero r s h = last-more r s [] (walk_last f zero s) h
last-from f (suc n) r s h = last-more r s (on_far (f s) [] (λ x. walk f n x)) (walk_last f (suc n) s) h

pub walk_last-last : (f : RouterId → Target) (n : ℕ) (r : RouterId) → slice_get (walk f n r) (length (walk f n r) - 1) ≡ Some (walk_last f n r)
walk_last-last f zero r = refl
walk_last-last f (suc n) r = ⊎_elim
    (λ (far : (s : RouterId) × (l : LinkId) × (f r ≡ To s l)).
    let P : Target → Type 0 = λ t. slice_get (r ∷ on_far t [] (λ s. walk f n s)) (length (r ∷ on_far t [] (λ s. walk f n s)) - 1) ≡ Some (on_far t r (λ s. walk_last f n s)) in
    subst P (sym far.2) (last-from f n r far.0 (walk_last-last f n far.0)))
    (λ (last : (s : RouterId) (l : LinkId) → f r ≡ To s l → ⊥).
    let Q : List RouterId → Type 0 = λ rs. slice_get (r ∷ rs) (length (r ∷ rs) - 1) ≡ Some (on_far (f r) r (λ s. walk_last f n s)) in
    subst Q (sym (on_far-last (f r) [] (λ s. walk f n s) last)) (ap (λ (x : RouterId). Some x) (sym (on_far-last (f r) r (λ s. walk_last f n s) last))))
    (target_cases (f r))

-- what the last router of a walk is, told by its list
pub last-told : (f : RouterId → Target) (n : ℕ) (r last : RouterId) (routers : List RouterId) → routers ≡ walk f n r → slice_get routers (length routers - 1) ≡ Some last → last ≡ walk_last f n r
last-told f n r last routers e h =
    let P : List RouterId → Type 0 = λ rs. slice_get rs (length rs - 1) ≡ Some last in
    let k : slice_get (walk f n r) (length (walk f n r) - 1) ≡ Some last = subst P e h in
    let w : slice_get (walk f n r) (length (walk f n r) - 1) ≡ Some (walk_last f n r) = walk_last-last f n r in
    cc
