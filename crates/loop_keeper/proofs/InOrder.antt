-- The order of changes: by router, then address.
use Rattle.std.proofs.Common.{◌≡◌, ℕ, zero, suc, ◌-◌, ◌<◌, ◌≤◌, ◌∙◌, List, [], ◌∷◌, length, get_or, ap, subst, inl, inr, ⊎_elim, arith}
use Rattle.std.proofs.lemmas.Bool.{cases_eq}
use Rattle.std.proofs.lemmas.List.{get_or_default}
use Rattle.base.specs.Delta.{AreChanges, GoesBefore, IsApartFromFirst, IsChange}
use Rattle.base.specs.declared.change.Change.{Change}
use Rattle.base.proofs.DeltaParts.{same-router}
use Rattle.loop_keeper.specs.Places.{AreInTurn}

goes-on-before : (c d e : Change) → IsChange d → GoesBefore c d → GoesBefore d e → GoesBefore c e
goes-on-before c d e is x y =
    let ends : d.run.lo ≤ d.run.hi = is.ends in
    ⊎_elim
    (λ (p : c.router.0 < d.router.0). ⊎_elim
    (λ (q : d.router.0 < e.router.0). inl (omega arith))
    (λ (q : (d.router.0 ≡ e.router.0) × (d.run.hi < e.run.lo)). let same : d.router.0 ≡ e.router.0 = q.0 in inl (omega arith))
    y)
    (λ (p : (c.router.0 ≡ d.router.0) × (c.run.hi < d.run.lo)).
    let first : c.router.0 ≡ d.router.0 = p.0 in
    let next : c.run.hi < d.run.lo = p.1 in
    ⊎_elim
    (λ (q : d.router.0 < e.router.0). inl (omega arith))
    (λ (q : (d.router.0 ≡ e.router.0) × (d.run.hi < e.run.lo)). let last : d.run.hi < e.run.lo = q.1 in inr (first ∙ q.0, omega arith))
    y)
    x

-- a change goes before each of those behind it
before-rest : (c : Change) (cs : List Change) (k : ℕ) (d : Change) → IsApartFromFirst c cs → AreChanges cs → k < length cs → GoesBefore c (get_or cs k d)
before-rest c [] k d x h l = absurd (omega arith)
before-rest c (e ∷ cs) zero d x h l = x.order
before-rest c (e ∷ cs) (suc k) d x h l = goes-on-before c e (get_or cs k d) h.0 x.order (before-rest e cs k d h.1 h.2 (omega arith))

before-at : (cs : List Change) (j k : ℕ) (d : Change) → AreChanges cs → j < k → k < length cs → GoesBefore (get_or cs j d) (get_or cs k d)
before-at [] j k d h o l = absurd (omega arith)
before-at (c ∷ cs) j zero d h o l = absurd (omega arith)
before-at (c ∷ cs) zero (suc k) d h o l = before-rest c cs k d h.1 h.2 (omega arith)
before-at (c ∷ cs) (suc j) (suc k) d h o l = before-at cs j k d h.2 (omega arith) (omega arith)

rise-at : (cs : List Change) (j k : ℕ) (d : Change) → AreChanges cs → j ≤ k → k < length cs → (get_or cs j d).router.0 ≤ (get_or cs k d).router.0
rise-at cs j k d h o l = ⊎_elim
    (λ (e : j ≡ k).
    let P : ℕ → Type 0 = λ v. (get_or cs j d).router.0 ≤ (get_or cs v d).router.0 in
    subst P e (omega arith))
    (λ (ne : j ≡ k → ⊥). ⊎_elim
    (λ (p : (get_or cs j d).router.0 < (get_or cs k d).router.0). omega arith)
    (λ (p : ((get_or cs j d).router.0 ≡ (get_or cs k d).router.0) × ((get_or cs j d).run.hi < (get_or cs k d).run.lo)).
    let same : (get_or cs j d).router.0 ≡ (get_or cs k d).router.0 = p.0 in
    omega arith)
    (before-at cs j k d h (omega arith) l))
    (cases_eq j k)

-- where the first and the last change are of one router, all are
pub in-turn : (cs : List Change) (n : ℕ) (first : Change) → n ≡ length cs → AreChanges cs → (get_or cs 0 first).router.0 ≡ (get_or cs (n - 1) first).router.0 → AreInTurn cs
in-turn cs n first e h ends = record {
  router = λ j k d l m. same-router (get_or cs j d).router (get_or cs k d).router (same j k d l m);
  rise = λ j k d o l. ⊎_elim
      (λ (p : (get_or cs j d).router.0 < (get_or cs k d).router.0). let s : (get_or cs j d).router.0 ≡ (get_or cs k d).router.0 = same j k d (omega arith) l in absurd (omega arith))
      (λ (p : ((get_or cs j d).router.0 ≡ (get_or cs k d).router.0) × ((get_or cs j d).run.hi < (get_or cs k d).run.lo)). p.1)
      (before-at cs j k d h o l);
}
  where
    same : (j k : ℕ) (d : Change) → j < length cs → k < length cs → (get_or cs j d).router.0 ≡ (get_or cs k d).router.0
    same j k d l m =
        let a : (get_or cs 0 d).router.0 ≤ (get_or cs j d).router.0 = rise-at cs 0 j d h (omega arith) l in
        let b : (get_or cs j d).router.0 ≤ (get_or cs (n - 1) d).router.0 = rise-at cs j (n - 1) d h (omega arith) (omega arith) in
        let x : (get_or cs 0 d).router.0 ≤ (get_or cs k d).router.0 = rise-at cs 0 k d h (omega arith) m in
        let y : (get_or cs k d).router.0 ≤ (get_or cs (n - 1) d).router.0 = rise-at cs k (n - 1) d h (omega arith) (omega arith) in
        let v : (get_or cs 0 d).router.0 ≡ (get_or cs 0 first).router.0 = ap (λ (z : Change). z.router.0) (get_or_default cs 0 d first (omega arith)) in
        let w : (get_or cs (n - 1) d).router.0 ≡ (get_or cs (n - 1) first).router.0 = ap (λ (z : Change). z.router.0) (get_or_default cs (n - 1) d first (omega arith)) in
        omega arith
