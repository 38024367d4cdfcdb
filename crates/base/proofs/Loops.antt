-- How walks end: at a router that goes on to none, or never.
use Rattle.std.proofs.Common.{◌≡◌, ℕ, zero, suc, ◌+◌, ◌<◌, ◌≤◌, ◌⊎◌, ◌∙◌, Bool, true, false, cond, List, [], ◌∷◌, refl, ap, sym, subst, inl, inr, ⊎_elim, arith}
use Rattle.std.proofs.lemmas.Bool.{cases_lt, cases_eq, both_ways, true≢false}
use Rattle.base.specs.declared.ids.RouterId.{RouterId}
use Rattle.base.specs.declared.ids.LinkId.{LinkId}
use Rattle.base.specs.declared.target.Target.{Target}
use Rattle.base.specs.declared.target.Target.TheVariants.{NoRoute, Dropped, Local, Exit, OnLink, To, LinkDown}
use Rattle.base.specs.declared.path_end.PathEnd.{PathEnd}
use Rattle.base.specs.declared.path_end.PathEnd.TheVariants.{At, Loop}
use Rattle.base.specs.Walk.{on_far, walk, walk_end, LeadsWithin, EndsWith}
use Rattle.base.proofs.Walks.{on_far-last}

-- ---- counting the numbers that pass a test

abbrev count : (ℕ → Bool) → ℕ → ℕ
count p zero = 0
count p (suc n) = cond (p n) 1 0 + count p n

abbrev weight : Bool → ℕ
weight b = cond b 1 0

weight-bound : (x : Bool) → cond x 1 0 ≤ 1
weight-bound true = omega arith
weight-bound false = omega arith

weight-less : (x y : Bool) (c d : ℕ) → (x ≡ true → y ≡ true) → c < d → cond x 1 0 + c < cond y 1 0 + d
weight-less true true c d h l = omega arith
weight-less true false c d h l = absurd (true≢false (sym (h refl)))
weight-less false true c d h l = omega arith
weight-less false false c d h l = omega arith

weigh : (x y : Bool) → (x ≡ true → y ≡ true) → (x ≡ y) ⊎ (cond x 1 0 < cond y 1 0)
weigh true true h = inl refl
weigh true false h = absurd (true≢false (sym (h refl)))
weigh false true h = inr (omega arith)
weigh false false h = inl refl

count-bound : (p : ℕ → Bool) (n : ℕ) → count p n ≤ n
count-bound p zero = omega arith
count-bound p (suc n) =
    let h : count p n ≤ n = count-bound p n in
    let w : cond (p n) 1 0 ≤ 1 = weight-bound (p n) in
    omega arith

count-same : (p q : ℕ → Bool) (n : ℕ) → ((s : ℕ) → s < n → p s ≡ q s) → count p n ≡ count q n
count-same p q zero h = refl
count-same p q (suc n) h =
    let rest : count p n ≡ count q n = count-same p q n (λ s l. h s (omega arith)) in
    let same : p n ≡ q n = h n (omega arith) in
    let here : weight (p n) ≡ weight (q n) = ap weight same in
    omega arith

-- of a stronger test fewer pass, or the same
count-stronger : (p q : ℕ → Bool) (n : ℕ) → ((s : ℕ) → s < n → p s ≡ true → q s ≡ true) → (count p n < count q n) ⊎ ((s : ℕ) → s < n → p s ≡ q s)
count-stronger p q zero h = inr (λ s l. absurd (omega arith))
count-stronger p q (suc n) h =
    let here : p n ≡ true → q n ≡ true = h n (omega arith) in
    ⊎_elim
    (λ (less : count p n < count q n). inl (weight-less (p n) (q n) (count p n) (count q n) here less))
    (λ (same : (s : ℕ) → s < n → p s ≡ q s). ⊎_elim
    (λ (e : p n ≡ q n). inr (λ s l. ⊎_elim
    (λ (at : s ≡ n). subst (λ (k : ℕ). p k ≡ q k) (sym at) e)
    (λ (other : s ≡ n → ⊥). same s (omega arith))
    (cases_eq s n)))
    (λ (l : cond (p n) 1 0 < cond (q n) 1 0).
    let rest : count p n ≡ count q n = count-same p q n same in
    inl (omega arith))
    (weigh (p n) (q n) here))
    (count-stronger p q n (λ s l. h s (omega arith)))

count-some : (p : ℕ → Bool) (n s : ℕ) → s < n → p s ≡ true → 0 < count p n
count-some p zero s l e = absurd (omega arith)
count-some p (suc n) s l e = ⊎_elim
    (λ (at : s ≡ n).
    let here : cond (p n) 1 0 ≡ 1 = ap weight (subst (λ (k : ℕ). p k ≡ true) at e) in
    omega arith)
    (λ (other : s ≡ n → ⊥).
    let rest : 0 < count p n = count-some p n s (omega arith) e in
    omega arith)
    (cases_eq s n)

-- ---- walks that go on

pub target_cases : (t : Target) → ((s : RouterId) × (l : LinkId) × (t ≡ To s l)) ⊎ ((s : RouterId) (l : LinkId) → t ≡ To s l → ⊥)
target_cases NoRoute = inr (λ s l e. cc)
target_cases (Dropped kind) = inr (λ s l e. cc)
target_cases Local = inr (λ s l e. cc)
target_cases (Exit i) = inr (λ s l e. cc)
target_cases (OnLink i) = inr (λ s l e. cc)
target_cases (To s l) = inl (s, l, refl)
target_cases (LinkDown k) = inr (λ s l e. cc)

abbrev is_loop : PathEnd → Bool
is_loop (At t) = false
is_loop Loop = true

is_loop-true : (e : PathEnd) → is_loop e ≡ true → e ≡ Loop
is_loop-true (At t) h = absurd (true≢false (sym h))
is_loop-true Loop h = refl

-- whether a walk goes on for so many hops
abbrev goes : (RouterId → Target) → ℕ → RouterId → Bool
goes f k r = is_loop (walk_end f k r)

goes-to : (f : RouterId → Target) (k : ℕ) (r s : RouterId) (l : LinkId) → f r ≡ To s l → goes f (suc k) r ≡ goes f k s
goes-to f k r s l e = ap (λ t. is_loop (on_far t (At t) (λ x. walk_end f k x))) e

goes-last : (f : RouterId → Target) (k : ℕ) (r : RouterId) → ((s : RouterId) (l : LinkId) → f r ≡ To s l → ⊥) → goes f (suc k) r ≡ false
goes-last f k r h = ap is_loop (on_far-last (f r) (At (f r)) (λ x. walk_end f k x) h)

goes-fewer : (f : RouterId → Target) (k : ℕ) (r : RouterId) → goes f (suc k) r ≡ true → goes f k r ≡ true
goes-fewer f zero r h = refl
goes-fewer f (suc k) r h = ⊎_elim
    (λ (far : (s : RouterId) × (l : LinkId) × (f r ≡ To s l)).
    goes-to f k r far.0 far.1 far.2 ∙ goes-fewer f k far.0 (sym (goes-to f (suc k) r far.0 far.1 far.2) ∙ h))
    (λ (last : (s : RouterId) (l : LinkId) → f r ≡ To s l → ⊥). absurd (both_ways (goes f (suc (suc k)) r) (goes-last f (suc k) r last) h))
    (target_cases (f r))

goes-at_most : (f : RouterId → Target) (n m : ℕ) (r : RouterId) → m ≤ n → goes f n r ≡ true → goes f m r ≡ true
goes-at_most f zero m r l h = let e : 0 ≡ m = omega arith in subst (λ (k : ℕ). goes f k r ≡ true) e h
goes-at_most f (suc n) m r l h = ⊎_elim
    (λ (e : suc n ≡ m). subst (λ (k : ℕ). goes f k r ≡ true) e h)
    (λ (ne : suc n ≡ m → ⊥). goes-at_most f n m r (omega arith) (goes-fewer f n r h))
    (cases_eq (suc n) m)

-- each walk that goes on for k hops goes on for one more
abbrev Settled : (RouterId → Target) → ℕ → ℕ → Type 0
Settled f n k = (r : RouterId) → r.0 < n → goes f (suc k) r ≡ goes f k r

settled-next : (f : RouterId → Target) (n k : ℕ) → LeadsWithin n f → Settled f n k → Settled f n (suc k)
settled-next f n k within settled r l = ⊎_elim
    (λ (far : (s : RouterId) × (l : LinkId) × (f r ≡ To s l)).
    goes-to f (suc k) r far.0 far.1 far.2 ∙ settled far.0 (within r far.0 far.1 l far.2) ∙ sym (goes-to f k r far.0 far.1 far.2))
    (λ (last : (s : RouterId) (l : LinkId) → f r ≡ To s l → ⊥). goes-last f (suc k) r last ∙ sym (goes-last f k r last))
    (target_cases (f r))

settled-from : (f : RouterId → Target) (n k m : ℕ) → LeadsWithin n f → k ≤ m → Settled f n k → Settled f n m
settled-from f n k zero within l settled = let e : k ≡ 0 = omega arith in subst (λ (x : ℕ). Settled f n x) e settled
settled-from f n k (suc m) within l settled = ⊎_elim
    (λ (e : k ≡ suc m). subst (λ (x : ℕ). Settled f n x) e settled)
    (λ (ne : k ≡ suc m → ⊥). settled-next f n m within (settled-from f n k m within (omega arith) settled))
    (cases_eq k (suc m))

goes-from : (f : RouterId → Target) (n k m : ℕ) (r : RouterId) → LeadsWithin n f → r.0 < n → k ≤ m → Settled f n k → goes f k r ≡ true → goes f m r ≡ true
goes-from f n k zero r within l h settled g = let e : k ≡ 0 = omega arith in subst (λ (x : ℕ). goes f x r ≡ true) e g
goes-from f n k (suc m) r within l h settled g = ⊎_elim
    (λ (e : k ≡ suc m). subst (λ (x : ℕ). goes f x r ≡ true) e g)
    (λ (ne : k ≡ suc m → ⊥). settled-from f n k m within (omega arith) settled r l ∙ goes-from f n k m r within l (omega arith) settled g)
    (cases_eq k (suc m))

-- with each hop a walk ends somewhere, or no walk ends any more
settled-or_fewer : (f : RouterId → Target) (n k : ℕ) → LeadsWithin n f → Settled f n k ⊎ (count (λ s. goes f k (record { 0 = s })) n + k ≤ n)
settled-or_fewer f n zero within =
    let h : count (λ s. goes f zero (record { 0 = s })) n ≤ n = count-bound (λ s. goes f zero (record { 0 = s })) n in
    inr (omega arith)
settled-or_fewer f n (suc k) within = ⊎_elim
    (λ (settled : Settled f n k). inl (settled-next f n k within settled))
    (λ (few : count (λ s. goes f k (record { 0 = s })) n + k ≤ n). ⊎_elim
    (λ (less : count (λ s. goes f (suc k) (record { 0 = s })) n < count (λ s. goes f k (record { 0 = s })) n). inr (omega arith))
    (λ (same : (s : ℕ) → s < n → goes f (suc k) (record { 0 = s }) ≡ goes f k (record { 0 = s })). inl (settled-next f n k within (λ r l. same r.0 l)))
    (count-stronger (λ s. goes f (suc k) (record { 0 = s })) (λ s. goes f k (record { 0 = s })) n (λ s l. goes-fewer f k (record { 0 = s }))))
    (settled-or_fewer f n k within)

settled-at_last : (f : RouterId → Target) (n : ℕ) (r : RouterId) → LeadsWithin n f → r.0 < n → goes f n r ≡ true → Settled f n n
settled-at_last f n r within l g = ⊎_elim
    (λ (settled : Settled f n n). settled)
    (λ (few : count (λ s. goes f n (record { 0 = s })) n + n ≤ n).
    let some : 0 < count (λ s. goes f n (record { 0 = s })) n = count-some (λ s. goes f n (record { 0 = s })) n r.0 l g in
    absurd (omega arith))
    (settled-or_fewer f n n within)

-- a walk among n routers that goes on for n hops goes on for ever
pub walk-loops : (f : RouterId → Target) (n : ℕ) (r : RouterId) → LeadsWithin n f → r.0 < n → walk_end f n r ≡ Loop → (m : ℕ) → walk_end f m r ≡ Loop
walk-loops f n r within l e m =
    let g : goes f n r ≡ true = ap is_loop e in
    is_loop-true (walk_end f m r) (⊎_elim
    (λ (past : n < m). goes-from f n n m r within l (omega arith) (settled-at_last f n r within l g) g)
    (λ (short : m ≤ n). goes-at_most f n m r short g)
    (cases_lt n m))

-- ---- walks that end

at-same : (t u : Target) → At t ≡ At u → t ≡ u
at-same t u e = cc

-- a walk that ends, ends at its last router
pub walk-ends : (f : RouterId → Target) (n : ℕ) (r : RouterId) (t : Target) → walk_end f n r ≡ At t → EndsWith f (walk f n r) t
walk-ends f zero r t e = absurd (let h : Loop ≡ At t = e in cc)
walk-ends f (suc n) r t e = ⊎_elim
    (λ (far : (s : RouterId) × (l : LinkId) × (f r ≡ To s l)).
    let rest : EndsWith f (walk f n far.0) t = walk-ends f n far.0 t (sym (ap (λ u. on_far u (At u) (λ x. walk_end f n x)) far.2) ∙ e) in
    record {
      front = r ∷ rest.front;
      last = rest.last;
      split = ap (λ u. r ∷ on_far u [] (λ x. walk f n x)) far.2 ∙ ap (λ (rs : List RouterId). r ∷ rs) rest.split;
      is = rest.is;
      stays = rest.stays;
    })
    (λ (last : (s : RouterId) (l : LinkId) → f r ≡ To s l → ⊥).
    let is : f r ≡ t = at-same (f r) t (sym (on_far-last (f r) (At (f r)) (λ x. walk_end f n x) last) ∙ e) in
    record {
      front = [];
      last = r;
      split = ap (λ (rs : List RouterId). r ∷ rs) (on_far-last (f r) [] (λ x. walk f n x) last);
      is = is;
      stays = λ s l u. last s l (is ∙ u);
    })
    (target_cases (f r))
