-- Whether one of a walk's routers is a router.
use Rattle.std.proofs.Common.{◌≡◌, ℕ, zero, suc, ◌<◌, ◌-◌, ◌==◌, ◌∙◌, ◌||◌, Bool, true, false, refl, ap, arith}
use Rattle.std.specs.List.{list_any}
use Rattle.std.proofs.lemmas.Bool.{eq-eqb, ne_eqb, or_left}
use Rattle.base.specs.Reach.{is_router}
use Rattle.base.specs.Walk.{walk}
use Rattle.base.specs.declared.ids.LinkId.{LinkId}
use Rattle.base.specs.declared.ids.RouterId.{RouterId}
use Rattle.base.specs.declared.target.Target.{Target}
use Rattle.base.specs.declared.target.Target.TheVariants.{To}
use Rattle.base.proofs.Walks.{walk-last, walk-to}

-- it is the first one
pub met-here : (f : RouterId → Target) (n : ℕ) (r to : RouterId) → r.0 ≡ to.0 → list_any (is_router to) (walk f n r) ≡ true
met-here f zero r to e = or_left _ _ (eq-eqb r.0 to.0 e)
met-here f (suc n) r to e = or_left _ _ (eq-eqb r.0 to.0 e)

or-first : (x y : Bool) → x ≡ false → (x || y) ≡ y
or-first true y e = cc
or-first false y e = refl

-- it isn't, and the walk goes on
pub met-later : (f : RouterId → Target) (n : ℕ) (r s to : RouterId) (l : LinkId) → 0 < n → (r.0 ≡ to.0 → ⊥) → f r ≡ To s l → list_any (is_router to) (walk f n r) ≡ list_any (is_router to) (walk f (n - 1) s)
met-later f n r s to l some differ e = ap (list_any (is_router to)) (walk-to f n r s l some e) ∙ or-first _ _ (ne_eqb r.0 to.0 differ)

-- it isn't, and the walk ends
pub met-never : (f : RouterId → Target) (n : ℕ) (r to : RouterId) → 0 < n → (r.0 ≡ to.0 → ⊥) → ((s : RouterId) (l : LinkId) → f r ≡ To s l → ⊥) → list_any (is_router to) (walk f n r) ≡ false
met-never f n r to some differ last = ap (list_any (is_router to)) (walk-last f n r some last) ∙ or-first _ _ (ne_eqb r.0 to.0 differ)

or-none : (b : Bool) → (b || false) ≡ b
or-none true = refl
or-none false = refl

-- no more hops are made
pub met-last : (f : RouterId → Target) (n : ℕ) (r to : RouterId) → n ≡ 0 → list_any (is_router to) (walk f n r) ≡ (r.0 == to.0)
met-last f zero r to e = or-none (r.0 == to.0)
met-last f (suc n) r to e = absurd (omega arith)
