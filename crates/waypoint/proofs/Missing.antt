-- Whether a walk comes to a router before it meets a waypoint.
use Rattle.std.proofs.Common.{◌≡◌, ℕ, zero, suc, ◌<◌, ◌≤◌, ◌-◌, ◌==◌, ◌∙◌, Bool, true, false, cond, List, [], ◌∷◌, refl, ap, arith}
use Rattle.std.proofs.lemmas.Bool.{cond-false, cond-true, eq-eqb, ne_eqb}
use Rattle.base.specs.Reach.{comes_before}
use Rattle.base.specs.Walk.{walk}
use Rattle.base.specs.declared.ids.LinkId.{LinkId}
use Rattle.base.specs.declared.ids.RouterId.{RouterId}
use Rattle.base.specs.declared.target.Target.{Target}
use Rattle.base.specs.declared.target.Target.TheVariants.{To}
use Rattle.base.proofs.Walks.{walk-last, walk-to}

-- the first one is the waypoint
through-first : (r to through : RouterId) (rs : List RouterId) → r.0 ≡ through.0 → comes_before to through (r ∷ rs) ≡ false
through-first r to through rs e = cond-true _ _ _ (eq-eqb r.0 through.0 e)

pub through-here : (f : RouterId → Target) (n : ℕ) (r to through : RouterId) → r.0 ≡ through.0 → comes_before to through (walk f n r) ≡ false
through-here f zero r to through e = through-first r to through [] e
through-here f (suc n) r to through e = through-first r to through _ e

-- it isn't, and is the router
to-first : (r to through : RouterId) (rs : List RouterId) → (r.0 ≡ through.0 → ⊥) → r.0 ≡ to.0 → comes_before to through (r ∷ rs) ≡ true
to-first r to through rs differ e = cond-false _ _ _ (ne_eqb r.0 through.0 differ) ∙ cond-true _ _ _ (eq-eqb r.0 to.0 e)

pub to-here : (f : RouterId → Target) (n : ℕ) (r to through : RouterId) → (r.0 ≡ through.0 → ⊥) → r.0 ≡ to.0 → comes_before to through (walk f n r) ≡ true
to-here f zero r to through differ e = to-first r to through [] differ e
to-here f (suc n) r to through differ e = to-first r to through _ differ e

-- it is neither
neither-first : (r to through : RouterId) (rs : List RouterId) → (r.0 ≡ through.0 → ⊥) → (r.0 ≡ to.0 → ⊥) → comes_before to through (r ∷ rs) ≡ comes_before to through rs
neither-first r to through rs differ other = cond-false _ _ _ (ne_eqb r.0 through.0 differ) ∙ cond-false _ _ _ (ne_eqb r.0 to.0 other)

pub met-later : (f : RouterId → Target) (n : ℕ) (r s to through : RouterId) (l : LinkId) → 0 < n → (r.0 ≡ through.0 → ⊥) → (r.0 ≡ to.0 → ⊥) → f r ≡ To s l → comes_before to through (walk f n r) ≡ comes_before to through (walk f (n - 1) s)
met-later f n r s to through l some differ other e = ap (comes_before to through) (walk-to f n r s l some e) ∙ neither-first r to through _ differ other

pub met-never : (f : RouterId → Target) (n : ℕ) (r to through : RouterId) → 0 < n → (r.0 ≡ through.0 → ⊥) → (r.0 ≡ to.0 → ⊥) → ((s : RouterId) (l : LinkId) → f r ≡ To s l → ⊥) → comes_before to through (walk f n r) ≡ false
met-never f n r to through some differ other last = ap (comes_before to through) (walk-last f n r some last) ∙ neither-first r to through [] differ other

cond-is : (b : Bool) → cond b true false ≡ b
cond-is true = refl
cond-is false = refl

-- no more hops are made, and the last router is not the waypoint
pub last-is : (f : RouterId → Target) (n : ℕ) (r to through : RouterId) → n ≤ 0 → (r.0 ≡ through.0 → ⊥) → comes_before to through (walk f n r) ≡ (r.0 == to.0)
last-is f zero r to through e differ = cond-false _ _ _ (ne_eqb r.0 through.0 differ) ∙ cond-is (r.0 == to.0)
last-is f (suc n) r to through e differ = absurd (omega arith)
