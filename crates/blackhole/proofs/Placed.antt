-- A fall put among others, or lengthened among them.
use Rattle.std.proofs.Common.{◌≡◌, ℕ, ◌+◌, ◌-◌, ◌<◌, ◌≤◌, ◌⊎◌, ◌∙◌, inl, inr, ⊎_elim, List, length, get_or, set, ap, sym, subst, arith}
use Rattle.std.specs.List.{insert}
use Rattle.std.proofs.lemmas.Bool.{cases_eq, cases_lt, cases_order}
use Rattle.std.proofs.lemmas.List.{get_or-set_other, get_or-set_same, get_or_default, length-set}
use Rattle.std.proofs.lemmas.List.Edits.{get_or-insert_above, get_or-insert_at, get_or-insert_below, length-insert}
use Rattle.base.specs.Holes.{cause_rank}
use Rattle.base.specs.declared.ids.RouterId.{RouterId}
use Rattle.base.specs.declared.target.Target.{Target}
use Rattle.blackhole.specs.Gathering.{HasFall}
use Rattle.blackhole.specs.declared.fall.Fall.{Fall}
use Rattle.blackhole.proofs.Adding.{IsAdded}
use Rattle.blackhole.proofs.Order.{Before, before-differs}

-- two falls in order
abbrev pub InOrder : Fall → Fall → Type 0
InOrder x y = Before x.router x.cause y.router y.cause

abbrev pub AllInOrder : List Fall → Type 0
AllInOrder falls = (j k : ℕ) (d : Fall) → j < k → k < length falls → InOrder (get_or falls j d) (get_or falls k d)

-- another fall at the same router by the same cause
pub record IsAlike (x y : Fall) : Type 0 where
  pub router : x.router.0 ≡ y.router.0
  pub cause : cause_rank x.cause ≡ cause_rank y.cause

alike-order : (x y v w : Fall) → IsAlike x v → IsAlike y w → InOrder x y → InOrder v w
alike-order x y v w a b h =
    let ar : x.router.0 ≡ v.router.0 = a.router in
    let ac : cause_rank x.cause ≡ cause_rank v.cause = a.cause in
    let br : y.router.0 ≡ w.router.0 = b.router in
    let bc : cause_rank y.cause ≡ cause_rank w.cause = b.cause in
    ⊎_elim
    (λ (l : x.router.0 < y.router.0). inl (omega arith))
    (λ (p : (x.router.0 ≡ y.router.0) × (cause_rank x.cause < cause_rank y.cause)). inr (sym ar ∙ p.0 ∙ br, (let l : cause_rank x.cause < cause_rank y.cause = p.1 in omega arith)))
    h

alike-eq : (x y : Fall) → x ≡ y → IsAlike x y
alike-eq x y e = record { router = ap (λ (f : Fall). f.router.0) e; cause = ap (λ (f : Fall). cause_rank f.cause) e }

alike-turned : (x y : Fall) → IsAlike x y → IsAlike y x
alike-turned x y h = record { router = sym h.router; cause = sym h.cause }

has-at : (falls : List Fall) (k : ℕ) (r : RouterId) (t : Target) → k < length falls → ((d : Fall) → (get_or falls k d).router.0 ≡ r.0) → ((d : Fall) → cause_rank (get_or falls k d).cause ≡ cause_rank t) → HasFall falls r t
has-at falls k r t l e c = record { at = k; inside = l; router = e; cause = c }

same-read : (falls : List Fall) (k : ℕ) (d e : Fall) → k < length falls → get_or falls k d ≡ get_or falls k e
same-read falls k d e l = get_or_default falls k d e l

-- ---- lengthened

pub lengthened : (falls : List Fall) (p : ℕ) (x : Fall) (s : RouterId) (u : Target) → p < length falls → ((d : Fall) → x.router ≡ (get_or falls p d).router) → ((d : Fall) → x.cause ≡ (get_or falls p d).cause) → ((d : Fall) → (get_or falls p d).router.0 ≡ s.0) → ((d : Fall) → cause_rank (get_or falls p d).cause ≡ cause_rank u) → AllInOrder falls → IsAdded falls (set falls p x) x s u
lengthened falls p x s u l xr xc er ec order =
    let n : length (set falls p x) ≡ length falls = length-set falls p x in
    let alike : (k : ℕ) (d : Fall) → k < length falls → IsAlike (get_or falls k d) (get_or (set falls p x) k d) = λ k d b. ⊎_elim
    (λ (e : k ≡ p).
    let P : ℕ → Type 0 = λ m. IsAlike (get_or falls m d) (get_or (set falls p x) m d) in
    let here : get_or (set falls p x) p d ≡ x = get_or-set_same falls p x d l in
    subst P (sym e) (record {
      router = ap (λ (r : RouterId). r.0) (sym (xr d)) ∙ ap (λ (f : Fall). f.router.0) (sym here);
      cause = ap cause_rank (sym (xc d)) ∙ ap (λ (f : Fall). cause_rank f.cause) (sym here);
    }))
    (λ (differ : k ≡ p → ⊥). alike-eq (get_or falls k d) (get_or (set falls p x) k d) (sym (get_or-set_other falls p k x d differ)))
    (cases_eq k p) in
    record {
      order = λ j k d b c. alike-order (get_or falls j d) (get_or falls k d) (get_or (set falls p x) j d) (get_or (set falls p x) k d) (alike j d (omega arith)) (alike k d (omega arith)) (order j k d b (omega arith));
      from = λ k d b. ⊎_elim
          (λ (e : k ≡ p). inl (ap (λ m. get_or (set falls p x) m d) e ∙ get_or-set_same falls p x d l))
          (λ (o : (k < p) ⊎ (p < k)). inr (
            k,
            (
              omega arith,
              get_or-set_other falls p k x d (λ e. (let q : k ≡ p = e in ⊎_elim (λ (m : k < p). absurd (omega arith)) (λ (m : p < k). absurd (omega arith)) o)),
              λ sr uc. ⊎_elim
                  (λ (m : k < p). before-differs (get_or falls k d).router (get_or falls k d).cause (get_or falls p d).router (get_or falls p d).cause (order k p d m l) (sym sr ∙ sym (er d)) (sym uc ∙ sym (ec d)))
                  (λ (m : p < k). before-differs (get_or falls p d).router (get_or falls p d).cause (get_or falls k d).router (get_or falls k d).cause (order p k d m (omega arith)) (er d ∙ sr) (ec d ∙ uc))
                  o,
            ),
          ))
          (cases_order k p);
      keep = λ j d b. has-at (set falls p x) j (get_or falls j d).router (get_or falls j d).cause (omega arith)
          (λ e. sym (alike j e b).router ∙ ap (λ (f : Fall). f.router.0) (same-read falls j e d b))
          (λ e. sym (alike j e b).cause ∙ ap (λ (f : Fall). cause_rank f.cause) (same-read falls j e d b));
      has = has-at (set falls p x) p s u (omega arith)
          (λ e. sym (alike p e l).router ∙ er e)
          (λ e. sym (alike p e l).cause ∙ ec e);
    }

-- ---- put in

pub put-in : (falls : List Fall) (p : ℕ) (x : Fall) (s : RouterId) (u : Target) → p ≤ length falls → x.router ≡ s → x.cause ≡ u → ((k : ℕ) (d : Fall) → k < p → Before (get_or falls k d).router (get_or falls k d).cause s u) → ((k : ℕ) (d : Fall) → p ≤ k → k < length falls → Before s u (get_or falls k d).router (get_or falls k d).cause) → AllInOrder falls → IsAdded falls (insert falls p x) x s u
put-in falls p x s u l xr xc low high order =
    let n : length (insert falls p x) ≡ length falls + 1 = length-insert falls p x l in
    let here : (d : Fall) → get_or (insert falls p x) p d ≡ x = λ d. get_or-insert_at falls p x d l in
    let below : (k : ℕ) (d : Fall) → k < p → get_or (insert falls p x) k d ≡ get_or falls k d = λ k d b. get_or-insert_below falls p x d k b l in
    let above : (k : ℕ) (d : Fall) → p < k → get_or (insert falls p x) k d ≡ get_or falls (k - 1) d = λ k d b.
    (let e : k - 1 + 1 ≡ k = omega arith in
    let P : ℕ → Type 0 = λ m. get_or (insert falls p x) m d ≡ get_or falls (k - 1) d in
    subst P e (get_or-insert_above falls p x d (k - 1) (omega arith) l)) in
    let xkey : (y : Fall) → y ≡ x → IsAlike (record x { router = s; cause = u }) y = λ y e. record {
      router = ap (λ (r : RouterId). r.0) (sym xr) ∙ ap (λ (f : Fall). f.router.0) (sym e);
      cause = ap cause_rank (sym xc) ∙ ap (λ (f : Fall). cause_rank f.cause) (sym e);
    } in
    record {
      order = λ j k d b c. ⊎_elim
          (λ (jl : j < p). ⊎_elim
          (λ (kl : k < p). alike-order (get_or falls j d) (get_or falls k d) _ _ (alike-eq _ _ (sym (below j d jl))) (alike-eq _ _ (sym (below k d kl))) (order j k d b (omega arith)))
          (λ (ko : p ≤ k). ⊎_elim
          (λ (ke : k ≡ p). alike-order (get_or falls j d) (record x { router = s; cause = u }) _ _ (alike-eq _ _ (sym (below j d jl))) (xkey _ (ap (λ m. get_or (insert falls p x) m d) ke ∙ here d)) (low j d jl))
          (λ (kd : k ≡ p → ⊥). alike-order (get_or falls j d) (get_or falls (k - 1) d) _ _ (alike-eq _ _ (sym (below j d jl))) (alike-eq _ _ (sym (above k d (omega arith)))) (order j (k - 1) d (omega arith) (omega arith)))
          (cases_eq k p))
          (cases_lt k p))
          (λ (jo : p ≤ j). ⊎_elim
          (λ (je : j ≡ p). alike-order (record x { router = s; cause = u }) (get_or falls (k - 1) d) _ _ (xkey _ (ap (λ m. get_or (insert falls p x) m d) je ∙ here d)) (alike-eq _ _ (sym (above k d (omega arith)))) (high (k - 1) d (omega arith) (omega arith)))
          (λ (jd : j ≡ p → ⊥). alike-order (get_or falls (j - 1) d) (get_or falls (k - 1) d) _ _ (alike-eq _ _ (sym (above j d (omega arith)))) (alike-eq _ _ (sym (above k d (omega arith)))) (order (j - 1) (k - 1) d (omega arith) (omega arith)))
          (cases_eq j p))
          (cases_lt j p);
      from = λ k d b. ⊎_elim
          (λ (e : k ≡ p). inl (ap (λ m. get_or (insert falls p x) m d) e ∙ here d))
          (λ (o : (k < p) ⊎ (p < k)). ⊎_elim
          (λ (m : k < p). inr (k, (omega arith, below k d m, λ sr uc. before-differs (get_or falls k d).router (get_or falls k d).cause s u (low k d m) (sym sr) (sym uc))))
          (λ (m : p < k). inr (k - 1, (omega arith, above k d m, λ sr uc. before-differs s u (get_or falls (k - 1) d).router (get_or falls (k - 1) d).cause (high (k - 1) d (omega arith) (omega arith)) sr uc)))
          o)
          (cases_order k p);
      keep = λ j d b. ⊎_elim
          (λ (m : j < p). has-at (insert falls p x) j (get_or falls j d).router (get_or falls j d).cause (omega arith)
          (λ e. ap (λ (f : Fall). f.router.0) (below j e m ∙ same-read falls j e d b))
          (λ e. ap (λ (f : Fall). cause_rank f.cause) (below j e m ∙ same-read falls j e d b)))
          (λ (m : p ≤ j). has-at (insert falls p x) (j + 1) (get_or falls j d).router (get_or falls j d).cause (omega arith)
          (λ e. ap (λ (f : Fall). f.router.0) (get_or-insert_above falls p x e j m l ∙ same-read falls j e d b))
          (λ e. ap (λ (f : Fall). cause_rank f.cause) (get_or-insert_above falls p x e j m l ∙ same-read falls j e d b)))
          (cases_lt j p);
      has = has-at (insert falls p x) p s u (omega arith)
          (λ e. ap (λ (f : Fall). f.router.0) (here e) ∙ ap (λ (r : RouterId). r.0) xr)
          (λ e. ap (λ (f : Fall). cause_rank f.cause) (here e) ∙ ap cause_rank xc);
    }
