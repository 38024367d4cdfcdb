-- A change put before others.
use Rattle.std.proofs.Common.{◌≡◌, ℕ, ◌+◌, ◌<◌, ◌≤◌, ◌^◌, ◌⊎◌, ◌∙◌, false, Some, List, [], ◌∷◌, length, get_or, refl, ap, sym, inl, inr, ⊎_elim, arith}
use Rattle.std.proofs.lemmas.Bool.{cases_lt, cases_order}
use Rattle.std.specs.List.{insert, remove}
use Rattle.base.specs.Delta.{AreChanges, GoesOn, IsApartFromFirst, IsChange, change_at, is_change_at}
use Rattle.base.specs.DeltaFrom.{IsFrom, BeginFrom, IsJoined, IsPutFirst}
use Rattle.base.specs.declared.change.Change.{Change}
use Rattle.base.specs.declared.ids.RouterId.{RouterId}
use Rattle.base.specs.declared.target.Target.{Target}
use Rattle.base.proofs.DeltaOnce.{within, elsewhere, under, over, first-is, not-first}

begins-at : (c : Change) → IsFrom c.router.0 c.run.lo c.router.0 c.run.lo
begins-at c = inr (refl, omega arith)

apart-new : (c : Change) (cs : List Change) → BeginFrom c.router.0 (c.run.hi + 1) cs → (0 < length cs → GoesOn c (get_or cs 0 c) → ⊥) → IsApartFromFirst c cs
apart-new c [] b n = tt
apart-new c (d ∷ ds) b n = record {
  order = ⊎_elim
      (λ (l : c.router.0 < d.router.0). inl l)
      (λ (s : (c.router.0 ≡ d.router.0) × (c.run.hi + 1 ≤ d.run.lo)). inr (s.0, (let l : c.run.hi + 1 ≤ d.run.lo = s.1 in omega arith)))
      b;
  two = n (omega arith);
}

pub put-new : (c : Change) (cs : List Change) → AreChanges cs → IsChange c → BeginFrom c.router.0 (c.run.hi + 1) cs → (0 < length cs → GoesOn c (get_or cs 0 c) → ⊥) → IsPutFirst c cs (c ∷ cs)
put-new c cs h is b n = record {
  form = (is, apart-new c cs b n, h);
  begin = begins-at c;
  tells = λ r a. refl;
}

apart-joined : (c d e : Change) (ds : List Change) → GoesOn c d → IsJoined c d e → IsApartFromFirst d ds → IsApartFromFirst e ds
apart-joined c d e [] g j h = tt
apart-joined c d e (f ∷ fs) g j h =
    let er : e.router.0 ≡ d.router.0 = ap (λ (x : RouterId). x.0) j.router ∙ g.router in
    let eh : e.run.hi ≡ d.run.hi = j.hi in
    record {
      order = ⊎_elim
          (λ (l : d.router.0 < f.router.0). inl (omega arith))
          (λ (s : (d.router.0 ≡ f.router.0) × (d.run.hi < f.run.lo)). inr (er ∙ s.0, (let l : d.run.hi < f.run.lo = s.1 in omega arith)))
          h.order;
      two = λ k. h.two (record { router = sym er ∙ k.router; touch = ap (λ n. n + 1) (sym eh) ∙ k.touch; before = sym g.before ∙ sym j.before ∙ k.before; after = sym g.after ∙ sym j.after ∙ k.after });
    }

change-joined : (c d e : Change) → IsChange c → IsChange d → GoesOn c d → IsJoined c d e → IsChange e
change-joined c d e is js g j =
    let lo : e.run.lo ≡ c.run.lo = j.lo in
    let hi : e.run.hi ≡ d.run.hi = j.hi in
    let up : c.run.lo ≤ c.run.hi = is.ends in
    let touch : c.run.hi + 1 ≡ d.run.lo = g.touch in
    let more : d.run.lo ≤ d.run.hi = js.ends in
    let below : d.run.hi < 2 ^ 32 = js.below in
    record {
      ends = omega arith;
      below = omega arith;
      differ = λ same. is.differ (sym j.before ∙ same ∙ j.after);
    }

-- two that are one tell what the two do
tells-joined : (c d e : Change) (ds : List Change) (r : RouterId) (a : ℕ) → IsChange c → IsChange d → GoesOn c d → IsJoined c d e → change_at (e ∷ ds) r a ≡ change_at (c ∷ d ∷ ds) r a
tells-joined c d e ds r a is js g j =
    let er : e.router.0 ≡ c.router.0 = ap (λ (x : RouterId). x.0) j.router in
    let dr : c.router.0 ≡ d.router.0 = g.router in
    let lo : e.run.lo ≡ c.run.lo = j.lo in
    let hi : e.run.hi ≡ d.run.hi = j.hi in
    let up : c.run.lo ≤ c.run.hi = is.ends in
    let touch : c.run.hi + 1 ≡ d.run.lo = g.touch in
    let more : d.run.lo ≤ d.run.hi = js.ends in
    let T : Target → Target → Target × Target = λ x y. (x, y) in
    let out : is_change_at r a e ≡ false → is_change_at r a c ≡ false → is_change_at r a d ≡ false → change_at (e ∷ ds) r a ≡ change_at (c ∷ d ∷ ds) r a =
    λ ne nc nd. not-first r a e ds ne ∙ sym (not-first r a d ds nd) ∙ sym (not-first r a c (d ∷ ds) nc) in
    ⊎_elim
    (λ (s : c.router.0 ≡ r.0). ⊎_elim
    (λ (l : a < c.run.lo). out (under r a e (omega arith)) (under r a c l) (under r a d (omega arith)))
    (λ (l : c.run.lo ≤ a). ⊎_elim
    (λ (m : d.run.hi < a). out (over r a e (omega arith)) (over r a c (omega arith)) (over r a d m))
    (λ (m : a ≤ d.run.hi).
    first-is r a e ds (within r a e (er ∙ s) (omega arith) (omega arith))
    ∙ ⊎_elim
    (λ (k : c.run.hi < a).
    ap (λ (p : Target × Target). Some p) (ap (λ x. T x e.after) (j.before ∙ g.before) ∙ ap (λ y. T d.before y) (j.after ∙ g.after))
    ∙ sym (first-is r a d ds (within r a d (sym dr ∙ s) (omega arith) m))
    ∙ sym (not-first r a c (d ∷ ds) (over r a c k)))
    (λ (k : a ≤ c.run.hi).
    ap (λ (p : Target × Target). Some p) (ap (λ x. T x e.after) j.before ∙ ap (λ y. T c.before y) j.after)
    ∙ sym (first-is r a c (d ∷ ds) (within r a c s l k)))
    (cases_lt c.run.hi a))
    (cases_lt d.run.hi a))
    (cases_lt a c.run.lo))
    (λ (o : (c.router.0 < r.0) ⊎ (r.0 < c.router.0)).
    let n : c.router.0 ≡ r.0 → ⊥ = λ s. ⊎_elim (λ (l : c.router.0 < r.0). let z : ⊥ = omega arith in z) (λ (l : r.0 < c.router.0). let z : ⊥ = omega arith in z) o in
    out (elsewhere r a e (λ s. n (sym er ∙ s))) (elsewhere r a c n) (elsewhere r a d (λ s. n (dr ∙ s))))
    (cases_order c.router.0 r.0)

put-one : (c d e : Change) (ds : List Change) → AreChanges (d ∷ ds) → IsChange c → GoesOn c d → IsJoined c d e → IsPutFirst c (d ∷ ds) (e ∷ ds)
put-one c d e ds h is g j =
    let er : e.router.0 ≡ c.router.0 = ap (λ (x : RouterId). x.0) j.router in
    let lo : e.run.lo ≡ c.run.lo = j.lo in
    record {
      form = (change-joined c d e is h.0 g j, apart-joined c d e ds g j h.1, h.2);
      begin = inr (sym er, (omega arith));
      tells = λ r a. tells-joined c d e ds r a is h.0 g j;
    }

pub put-joined : (c e : Change) (cs : List Change) (x : Change) → AreChanges cs → IsChange c → 0 < length cs → GoesOn c (get_or cs 0 x) → IsJoined c (get_or cs 0 x) e → IsPutFirst c cs (insert (remove cs 0) 0 e)
put-joined c e [] x h is l g j = absurd (omega arith)
put-joined c e (d ∷ ds) x h is l g j = put-one c d e ds h is g j
