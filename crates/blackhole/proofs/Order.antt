-- Falls in order, by router and cause.
use Rattle.std.proofs.Common.{◌≡◌, ◌<◌, ◌≤◌, ◌⊎◌, ◌∙◌, inl, inr, ⊎_elim, true, false, ◌&&◌, sym, arith, eqb, ltb}
use Rattle.std.proofs.lemmas.Bool.{and_from, and_left, and_parts, and_right, cases_eq, cases_order, cond-false, cond-true, eq-eqb, eqb-true, lt-ltb, ltb-true, ltb-false, ne_eqb}
use Rattle.base.specs.Holes.{cause_rank, is_cause}
use Rattle.base.specs.declared.ids.RouterId.{RouterId}
use Rattle.base.specs.declared.target.Target.{Target}
use Rattle.std.proofs.Common.{Some}
use Rattle.blackhole.specs.Falls.{is_before, is_fall, is_same}

abbrev pub Before : RouterId → Target → RouterId → Target → Type 0
Before r t s u = (r.0 < s.0) ⊎ ((r.0 ≡ s.0) × (cause_rank t < cause_rank u))

pub before-is : (r : RouterId) (t : Target) (s : RouterId) (u : Target) → is_before r t s u ≡ true → Before r t s u
before-is r t s u h = ⊎_elim
    (λ (e : r.0 ≡ s.0). inr (e, ltb-true (cause_rank t) (cause_rank u) (sym (cond-true (eqb r.0 s.0) (ltb (cause_rank t) (cause_rank u)) (ltb r.0 s.0) (eq-eqb r.0 s.0 e)) ∙ h)))
    (λ (n : r.0 ≡ s.0 → ⊥). inl (ltb-true r.0 s.0 (sym (cond-false (eqb r.0 s.0) (ltb (cause_rank t) (cause_rank u)) (ltb r.0 s.0) (ne_eqb r.0 s.0 n)) ∙ h)))
    (cases_eq r.0 s.0)

pub before-from : (r : RouterId) (t : Target) (s : RouterId) (u : Target) → Before r t s u → is_before r t s u ≡ true
before-from r t s u h = ⊎_elim
    (λ (l : r.0 < s.0). cond-false (eqb r.0 s.0) (ltb (cause_rank t) (cause_rank u)) (ltb r.0 s.0) (ne_eqb r.0 s.0 (λ e. absurd (omega arith))) ∙ lt-ltb r.0 s.0 l)
    (λ (p : (r.0 ≡ s.0) × (cause_rank t < cause_rank u)). cond-true (eqb r.0 s.0) (ltb (cause_rank t) (cause_rank u)) (ltb r.0 s.0) (eq-eqb r.0 s.0 p.0) ∙ lt-ltb (cause_rank t) (cause_rank u) p.1)
    h

pub before-trans : (r : RouterId) (t : Target) (s : RouterId) (u : Target) (v : RouterId) (w : Target) → Before r t s u → Before s u v w → Before r t v w
before-trans r t s u v w h k = ⊎_elim
    (λ (l : r.0 < s.0). ⊎_elim
    (λ (m : s.0 < v.0). inl (omega arith))
    (λ (p : (s.0 ≡ v.0) × (cause_rank u < cause_rank w)). inl (let e : s.0 ≡ v.0 = p.0 in omega arith))
    k)
    (λ (q : (r.0 ≡ s.0) × (cause_rank t < cause_rank u)). ⊎_elim
    (λ (m : s.0 < v.0). inl (let e : r.0 ≡ s.0 = q.0 in omega arith))
    (λ (p : (s.0 ≡ v.0) × (cause_rank u < cause_rank w)). inr (q.0 ∙ p.0, (let a : cause_rank t < cause_rank u = q.1 in let b : cause_rank u < cause_rank w = p.1 in omega arith)))
    k)
    h

-- what comes before isn't at the same router by the same cause
pub before-differs : (r : RouterId) (t : Target) (s : RouterId) (u : Target) → Before r t s u → r.0 ≡ s.0 → cause_rank t ≡ cause_rank u → ⊥
before-differs r t s u h e k = ⊎_elim
    (λ (l : r.0 < s.0). absurd (omega arith))
    (λ (p : (r.0 ≡ s.0) × (cause_rank t < cause_rank u)). (let l : cause_rank t < cause_rank u = p.1 in absurd (omega arith)))
    h

-- what neither comes before nor is the same comes after
pub after-from : (r : RouterId) (t : Target) (s : RouterId) (u : Target) → is_before r t s u ≡ false → is_same r t s u ≡ false → Before s u r t
after-from r t s u h k = ⊎_elim
    (λ (e : r.0 ≡ s.0).
    let not_less : ltb (cause_rank t) (cause_rank u) ≡ false = sym (cond-true (eqb r.0 s.0) (ltb (cause_rank t) (cause_rank u)) (ltb r.0 s.0) (eq-eqb r.0 s.0 e)) ∙ h in
    let not_same : eqb (cause_rank t) (cause_rank u) ≡ false = sym (cond-true (eqb r.0 s.0) (eqb (cause_rank t) (cause_rank u)) false (eq-eqb r.0 s.0 e)) ∙ k in
    let least : cause_rank u ≤ cause_rank t = ltb-false (cause_rank t) (cause_rank u) not_less in
    inr (
      sym e,
      ⊎_elim
          (λ (o : cause_rank t ≡ cause_rank u). absurd (let x : true ≡ false = sym (eq-eqb (cause_rank t) (cause_rank u) o) ∙ not_same in cc))
          (λ (o : (cause_rank t < cause_rank u) ⊎ (cause_rank u < cause_rank t)). ⊎_elim (λ (l : cause_rank t < cause_rank u). absurd (omega arith)) (λ (l : cause_rank u < cause_rank t). l) o)
          (cases_order (cause_rank t) (cause_rank u)),
    ))
    (λ (n : r.0 ≡ s.0 → ⊥).
    let not_less : ltb r.0 s.0 ≡ false = sym (cond-false (eqb r.0 s.0) (ltb (cause_rank t) (cause_rank u)) (ltb r.0 s.0) (ne_eqb r.0 s.0 n)) ∙ h in
    let least : s.0 ≤ r.0 = ltb-false r.0 s.0 not_less in
    inl (⊎_elim
    (λ (o : r.0 ≡ s.0). absurd (n o))
    (λ (o : (r.0 < s.0) ⊎ (s.0 < r.0)). ⊎_elim (λ (l : r.0 < s.0). absurd (omega arith)) (λ (l : s.0 < r.0). l) o)
    (cases_order r.0 s.0)))
    (cases_eq r.0 s.0)

pub same-is : (r : RouterId) (t : Target) (s : RouterId) (u : Target) → is_same r t s u ≡ true → (r.0 ≡ s.0) × (cause_rank t ≡ cause_rank u)
same-is r t s u h = ⊎_elim
    (λ (e : r.0 ≡ s.0). (e, eqb-true (cause_rank t) (cause_rank u) (sym (cond-true (eqb r.0 s.0) (eqb (cause_rank t) (cause_rank u)) false (eq-eqb r.0 s.0 e)) ∙ h)))
    (λ (n : r.0 ≡ s.0 → ⊥). absurd (let x : false ≡ true = sym (cond-false (eqb r.0 s.0) (eqb (cause_rank t) (cause_rank u)) false (ne_eqb r.0 s.0 n)) ∙ h in cc))
    (cases_eq r.0 s.0)

-- where an end is told
pub fall-same : (s : RouterId) (u : Target) (r : RouterId) (t : Target) → is_cause u ≡ true → s.0 ≡ r.0 → cause_rank u ≡ cause_rank t → is_fall (Some (s, u)) r t ≡ true
fall-same s u r t c e k = and_from (eqb s.0 r.0) (is_cause u && eqb (cause_rank u) (cause_rank t)) (eq-eqb s.0 r.0 e) (and_from (is_cause u) (eqb (cause_rank u) (cause_rank t)) c (eq-eqb (cause_rank u) (cause_rank t) k))

pub fall-key : (s : RouterId) (u : Target) (r : RouterId) (t : Target) → is_fall (Some (s, u)) r t ≡ true → (s.0 ≡ r.0) × (cause_rank u ≡ cause_rank t)
fall-key s u r t h =
    let p = and_parts (eqb s.0 r.0) (is_cause u && eqb (cause_rank u) (cause_rank t)) h in
    let q = and_parts (is_cause u) (eqb (cause_rank u) (cause_rank t)) p.1 in
    (eqb-true s.0 r.0 p.0, eqb-true (cause_rank u) (cause_rank t) q.1)

pub fall-other : (s : RouterId) (u : Target) (r : RouterId) (t : Target) → (s.0 ≡ r.0 → cause_rank u ≡ cause_rank t → ⊥) → is_fall (Some (s, u)) r t ≡ false
fall-other s u r t n = ⊎_elim
    (λ (e : s.0 ≡ r.0). and_right (eqb s.0 r.0) (is_cause u && eqb (cause_rank u) (cause_rank t)) (and_right (is_cause u) (eqb (cause_rank u) (cause_rank t)) (ne_eqb (cause_rank u) (cause_rank t) (n e))))
    (λ (m : s.0 ≡ r.0 → ⊥). and_left (eqb s.0 r.0) (is_cause u && eqb (cause_rank u) (cause_rank t)) (ne_eqb s.0 r.0 m))
    (cases_eq s.0 r.0)
