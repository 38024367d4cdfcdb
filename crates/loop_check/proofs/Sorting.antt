-- Cycles put in order by least address, then by first router.
use Rattle.std.proofs.Common.{◌≡◌, ℕ, zero, suc, ◌+◌, ◌<◌, ◌≤◌, ◌^◌, ◌⊎◌, ◌∙◌, Bool, true, false, ◌&&◌, eqb, Option, Some, None, List, [], ◌∷◌, ◌++◌, length, get_or, ap, sym, subst, inl, inr, ⊎_elim, arith, append-nil}
use Rattle.std.specs.List.{Contains, IsDistinct}
use Rattle.std.specs.List.Sorted.{IsPermutation, IsSortedByKey}
use Rattle.std.specs.Cmp.{nat_cmp_is}
use Rattle.std.specs.Ordering.{is_lt, nat_cmp, ordering_then}
use Rattle.std.specs.declared.cmp.Ordering.{Ordering}
use Rattle.std.specs.declared.cmp.Ordering.TheVariants.{Less, Equal}
use Rattle.std.proofs.lemmas.Bool.{cases_Bool, cases_order, cases_eq, cases_lt, and_from, and_parts, both_ways, eqb-true, eq-eqb}
use Rattle.std.proofs.lemmas.List.{get_or_append_left, get_or_push, length_push}
use Rattle.std.proofs.lemmas.List.Elements.{Contains-get_or, Contains-append_left, Contains-push, Contains-push_cases}
use Rattle.std.proofs.lemmas.List.Sorted.{Contains-permutation, IsPermutation-sym}
use Rattle.std.proofs.lemmas.Map.Keys.{IsDistinct-IsPermutation, IsDistinct-from_apart, apart_from_distinct, ge_from_not_lt}
use Rattle.base.specs.Cycles.{AreCycles, AreInOrder, BeginAt, ComesBefore, HasCycle, IsCycle, first_router, goes_round}
use Rattle.base.specs.CyclesFrom.{IsCycleOf}
use Rattle.base.specs.Runs.{AreRuns}
use Rattle.base.specs.declared.cycle.Cycle.{Cycle}
use Rattle.base.specs.declared.ids.RouterId.{RouterId}
use Rattle.base.specs.declared.run.Run.{Run}
use Rattle.base.specs.declared.target.Target.{Target}
use Rattle.base.proofs.CyclesFrom.{same-cycle}
use Rattle.base.proofs.Elements.{contains-cases, contains-here, contains-none, contains-there}
use Rattle.base.proofs.RunsOnce.{runs-once}
use Rattle.loop_check.specs.CycleOrder.{AddsCycle, AreOfOtherRouters, AreUnsorted, listed_cycle, order_key}

-- whether two cycles have one least address and one first router
abbrev start_together : Cycle → Cycle → Bool
start_together x y = eqb x.least y.least && eqb (first_router x.routers) (first_router y.routers)

abbrev pub cmp_keys : ℕ × ℕ → ℕ × ℕ → Ordering
cmp_keys x y = ordering_then (nat_cmp x.0 y.0) (nat_cmp x.1 y.1)

eqb-flips : (a b : ℕ) → eqb a b ≡ eqb b a
eqb-flips a b = ⊎_elim
    (λ (e : eqb a b ≡ true). e ∙ sym (eq-eqb b a (sym (eqb-true a b e))))
    (λ (e : eqb a b ≡ false). ⊎_elim
    (λ (f : eqb b a ≡ true). absurd (both_ways (eqb a b) e (eq-eqb a b (sym (eqb-true b a f)))))
    (λ (f : eqb b a ≡ false). e ∙ sym f)
    (cases_Bool (eqb b a)))
    (cases_Bool (eqb a b))

flips : (x y : Cycle) → start_together x y ≡ start_together y x
flips x y =
    ap (λ (v : Bool). v && eqb (first_router x.routers) (first_router y.routers)) (eqb-flips x.least y.least)
    ∙ ap (λ (v : Bool). eqb y.least x.least && v) (eqb-flips (first_router x.routers) (first_router y.routers))

apart-each : (does : RouterId → ℕ → Target) (cycles : List Cycle) → AreUnsorted does cycles → (i j : ℕ) (d : Cycle) → i < j → j < length cycles → start_together (get_or cycles i d) (get_or cycles j d) ≡ false
apart-each does cycles h i j d l b =
    let x : Cycle = get_or cycles i d in
    let y : Cycle = get_or cycles j d in
    ⊎_elim
    (λ (e : start_together x y ≡ true).
    let p : (eqb x.least y.least ≡ true) × (eqb (first_router x.routers) (first_router y.routers) ≡ true) = and_parts (eqb x.least y.least) (eqb (first_router x.routers) (first_router y.routers)) e in
    absurd (h.differ i j d l b (same-cycle does x y (h.each x (Contains-get_or cycles i d (omega arith))) (h.each y (Contains-get_or cycles j d b)) (eqb-true x.least y.least p.0) (eqb-true (first_router x.routers) (first_router y.routers) p.1))))
    (λ (e : start_together x y ≡ false). e)
    (cases_Bool (start_together x y))

-- what is not above what comes after it, and doesn't start with it, comes before that
before-next : (x y : Cycle) → is_lt (cmp_keys (order_key y) (order_key x)) ≡ false → start_together x y ≡ false → ComesBefore x y
before-next x y h n = ⊎_elim
    (λ (e : x.least ≡ y.least).
    let same : nat_cmp y.least x.least ≡ Equal = sym (nat_cmp_is y.least x.least Equal (sym e)) in
    let le : first_router x.routers ≤ first_router y.routers = ge_from_not_lt (first_router y.routers) (first_router x.routers) (sym (ap (λ (o : Ordering). is_lt (ordering_then o (nat_cmp (first_router y.routers) (first_router x.routers)))) same) ∙ h) in
    ⊎_elim
    (λ (f : first_router x.routers ≡ first_router y.routers). absurd (both_ways (start_together x y) n (and_from (eqb x.least y.least) (eqb (first_router x.routers) (first_router y.routers)) (eq-eqb x.least y.least e) (eq-eqb (first_router x.routers) (first_router y.routers) f))))
    (λ (f : first_router x.routers ≡ first_router y.routers → ⊥). inr (e, (let m : first_router x.routers < first_router y.routers = omega arith in m)))
    (cases_eq (first_router x.routers) (first_router y.routers)))
    (λ (o : (x.least < y.least) ⊎ (y.least < x.least)). ⊎_elim
    (λ (m : x.least < y.least). inl m)
    (λ (m : y.least < x.least).
    let less : nat_cmp y.least x.least ≡ Less = sym (nat_cmp_is y.least x.least Less m) in
    absurd (both_ways (is_lt (cmp_keys (order_key y) (order_key x))) h (ap (λ (o : Ordering). is_lt (ordering_then o (nat_cmp (first_router y.routers) (first_router x.routers)))) less)))
    o)
    (cases_order x.least y.least)

in-order : (cs : List Cycle) → ((k : ℕ) (d : Cycle) → suc k < length cs → ComesBefore (get_or cs k d) (get_or cs (suc k) d)) → AreInOrder cs
in-order [] h = tt
in-order (x ∷ []) h = tt
in-order (x ∷ y ∷ rest) h = (h 0 x (omega arith), in-order (y ∷ rest) (λ k d l. h (suc k) d (omega arith)))

pub sorted-order : (does : RouterId → ℕ → Target) (old new : List Cycle) → IsPermutation old new → IsSortedByKey order_key cmp_keys new → AreUnsorted does old → AreInOrder new
sorted-order does old new moved sorted h =
    let apart : IsDistinct start_together new = IsDistinct-IsPermutation start_together flips old new moved (IsDistinct-from_apart start_together old (apart-each does old h)) in
    in-order new (λ k d l.
    let e : k + 1 ≡ suc k = omega arith in
    let P : ℕ → Type 0 = λ j. is_lt (cmp_keys (order_key (get_or new j d)) (order_key (get_or new k d))) ≡ false in
    before-next (get_or new k d) (get_or new (suc k) d) (subst P e (sorted k d (omega arith) (omega arith))) (apart_from_distinct start_together new k (suc k) d apart (omega arith) l))

-- ---- in order no two are of the same routers

before-trans : (x y z : Cycle) → ComesBefore x y → ComesBefore y z → ComesBefore x z
before-trans x y z h i = ⊎_elim
    (λ (a : x.least < y.least). ⊎_elim
    (λ (b : y.least < z.least). inl (omega arith))
    (λ (b : (y.least ≡ z.least) × (first_router y.routers < first_router z.routers)). inl (let e : y.least ≡ z.least = b.0 in omega arith))
    i)
    (λ (a : (x.least ≡ y.least) × (first_router x.routers < first_router y.routers)). ⊎_elim
    (λ (b : y.least < z.least). inl (let e : x.least ≡ y.least = a.0 in omega arith))
    (λ (b : (y.least ≡ z.least) × (first_router y.routers < first_router z.routers)). inr (a.0 ∙ b.0, (let c : first_router x.routers < first_router y.routers = a.1 in let d : first_router y.routers < first_router z.routers = b.1 in omega arith)))
    i)
    h

order-all : (x z : Cycle) (xs : List Cycle) → AreInOrder (x ∷ xs) → Contains xs z → ComesBefore x z
order-all x z [] h i = absurd (contains-none z i)
order-all x z (y ∷ ys) h i = ⊎_elim
    (λ (e : y ≡ z). let P : Cycle → Type 0 = λ v. ComesBefore x v in subst P e h.0)
    (λ (j : Contains ys z). before-trans x y z h.0 (order-all y z ys h.1 j))
    (contains-cases y z ys i)

order-rest : (x : Cycle) (xs : List Cycle) → AreInOrder (x ∷ xs) → AreInOrder xs
order-rest x [] h = tt
order-rest x (y ∷ ys) h = h.1

-- cycles of which one comes before the other are of other routers
before-other : (does : RouterId → ℕ → Target) (x y : Cycle) → IsCycle does x → IsCycle does y → ComesBefore x y → x.routers ≡ y.routers → ⊥
before-other does x y h k before same =
    let R : List RouterId → Type 0 = λ v. AreRuns h.runs (goes_round does v) in
    let runs : h.runs ≡ k.runs = runs-once h.runs k.runs (goes_round does y.routers) (subst R same h.are) k.are in
    let B : List Run → Type 0 = λ v. BeginAt v x.least in
    let least : x.least ≡ y.least = begin-once k.runs x.least y.least (subst B runs h.least) k.least in
    let first : first_router x.routers ≡ first_router y.routers = ap (λ (v : List RouterId). first_router v) same in
    ⊎_elim
    (λ (a : x.least < y.least). let z : ⊥ = omega arith in z)
    (λ (a : (x.least ≡ y.least) × (first_router x.routers < first_router y.routers)). let c : first_router x.routers < first_router y.routers = a.1 in let z : ⊥ = omega arith in z)
    before
  where
    begin-once : (runs : List Run) (a b : ℕ) → BeginAt runs a → BeginAt runs b → a ≡ b
    begin-once [] a b i j = absurd i
    begin-once (r ∷ rs) a b i j = sym i ∙ j

pub ordered-differ : (does : RouterId → ℕ → Target) (cycles : List Cycle) → AreInOrder cycles → ((c : Cycle) → Contains cycles c → IsCycle does c) → AreOfOtherRouters cycles
ordered-differ does [] order each i j d l b = absurd (omega arith)
ordered-differ does (x ∷ xs) order each zero zero d l b = absurd (omega arith)
ordered-differ does (x ∷ xs) order each zero (suc j) d l b =
    let m : Contains xs (get_or xs j d) = Contains-get_or xs j d (omega arith) in
    before-other does x (get_or xs j d) (each x (contains-here x xs)) (each (get_or xs j d) (contains-there x (get_or xs j d) xs m)) (order-all x (get_or xs j d) xs order m)
ordered-differ does (x ∷ xs) order each (suc i) zero d l b = absurd (omega arith)
ordered-differ does (x ∷ xs) order each (suc i) (suc j) d l b =
    ordered-differ does xs (order-rest x xs order) (λ c m. each c (contains-there x c xs m)) i j d (omega arith) (omega arith)

-- ---- one more cycle

differ-push : (old : List Cycle) (c : Cycle) → AreOfOtherRouters old → ((x : Cycle) → Contains old x → x.routers ≡ c.routers → ⊥) → AreOfOtherRouters (old ++ c ∷ [])
differ-push old c h other i j d l b =
    let n : length (old ++ c ∷ []) ≡ length old + 1 = length_push old c in
    let x : get_or (old ++ c ∷ []) i d ≡ get_or old i d = get_or_append_left old (c ∷ []) d i (omega arith) in
    ⊎_elim
    (λ (m : j < length old). λ e. h i j d l m (sym (ap (λ (v : Cycle). v.routers) x) ∙ e ∙ ap (λ (v : Cycle). v.routers) (get_or_append_left old (c ∷ []) d j m)))
    (λ (m : length old ≤ j). λ e. other (get_or old i d) (Contains-get_or old i d (omega arith)) (sym (ap (λ (v : Cycle). v.routers) x) ∙ e ∙ ap (λ (v : Cycle). v.routers) (get_or_push old c d j (omega arith))))
    (cases_lt j (length old))

pub add-cycle : (does : RouterId → ℕ → Target) (rs : List RouterId) (c : Option Cycle) (old new : List Cycle) → IsCycleOf does rs c → new ≡ old ++ listed_cycle c → AreUnsorted does old → ((x : Cycle) → Contains old x → x.routers ≡ rs → ⊥) → AddsCycle does rs old new
add-cycle does rs None old new is e h other =
    let P : List Cycle → Type 0 = λ cs. AddsCycle does rs old cs in
    subst P (sym (e ∙ append-nil old)) (record {
      form = h;
      only = λ x i. inl i;
      told = λ a l g. absurd (both_ways (goes_round does rs a) (is a l) g);
      kept = λ x i. i;
    })
add-cycle does rs (Some c) old new is e h other =
    let P : List Cycle → Type 0 = λ cs. AddsCycle does rs old cs in
    let Is : Cycle → Type 0 = λ v. IsCycle does v in
    let R : Cycle → Type 0 = λ v. v.routers ≡ rs in
    subst P (sym e) (record {
      form = record {
        each = λ x i. ⊎_elim (λ (o : Contains old x). h.each x o) (λ (same : c ≡ x). subst Is same is.0) (Contains-push_cases old c x i);
        differ = differ-push old c h.differ (λ x i f. other x i (f ∙ is.1));
      };
      only = λ x i. ⊎_elim (λ (o : Contains old x). inl o) (λ (same : c ≡ x). inr (subst R same is.1)) (Contains-push_cases old c x i);
      told = λ a l g. record { cycle = c; among = Contains-push old c; is = is.1 };
      kept = λ x i. Contains-append_left old (c ∷ []) x i;
    })

-- ---- the whole

pub unsorted-none : (does : RouterId → ℕ → Target) (cycles : List Cycle) → cycles ≡ [] → AreUnsorted does cycles
unsorted-none does cycles e =
    let P : List Cycle → Type 0 = λ cs. AreUnsorted does cs in
    subst P (sym e) (record { each = λ c i. absurd (contains-none c i); differ = λ i j d l b. absurd (omega arith) })

pub sorted-all : (does : RouterId → ℕ → Target) (old new : List Cycle) → AreUnsorted does old → IsPermutation old new → AreInOrder new → ((rs : List RouterId) (a : ℕ) → a < 2 ^ 32 → goes_round does rs a ≡ true → HasCycle old rs) → AreCycles does new
sorted-all does old new h moved order all = record {
  order = order;
  each = λ c i. h.each c (Contains-permutation new old c (IsPermutation-sym old new moved) i);
  all = λ rs a l g.
      let k : HasCycle old rs = all rs a l g in
      record { cycle = k.cycle; among = Contains-permutation old new k.cycle moved k.among; is = k.is };
}
