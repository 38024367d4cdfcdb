-- Runs, and more after them.
use Rattle.std.proofs.Common.{◌≡◌, ℕ, ◌+◌, ◌-◌, ◌<◌, ◌≤◌, ◌^◌, ◌∙◌, eqb, Bool, true, false, ◌||◌, ◌&&◌, List, [], ◌∷◌, ◌++◌, append_assoc, length, get_or, take, drop, map, zero, suc, refl, ap, sym, subst, ⊎_elim, arith}
use Rattle.std.proofs.lemmas.Bool.{cases_eq, cond-true, cond-false, cond_both, eq-eqb, eqb-true, ne_eqb, cases_lt, both_ways, or_left, or_right}
use Rattle.std.specs.List.{list_any}
use Rattle.std.proofs.lemmas.List.Sums.{sum_by-cons}
use Rattle.base.specs.Runs.{holds, AreApart, AreRuns, addresses_in, run_length}
use Rattle.base.specs.RunsFrom.{with_run, AreRunsFrom, StartFrom}
use Rattle.base.specs.declared.run.Run.{Run}
use Rattle.base.proofs.Covers.{within-above, within-below, within-yes}
use Rattle.base.proofs.RunsFrom.{put-passed, with-holds}
use Rattle.base.proofs.RunsOnce.{apart-bound, apart-head, apart-tail, first-holds, holds-above, holds-in}
use Rattle.loop_check.specs.Joined.{joined}
use Rattle.loop_check.specs.Bounds.{AreBounds, AreRunsByRange, only_within}

-- ---- one run at a time

pub joined-last : (front : List Run) (last : Run) (ys : List Run) → joined (front ++ last ∷ []) ys ≡ front ++ with_run last ys
joined-last [] last ys = refl
joined-last (x ∷ []) last ys = refl
joined-last (x ∷ y ∷ rest) last ys = ap (λ (rs : List Run). x ∷ rs) (joined-last (y ∷ rest) last ys)

pub joined-none : (xs : List Run) → joined xs [] ≡ xs
joined-none [] = refl
joined-none (x ∷ []) = refl
joined-none (x ∷ y ∷ rest) = ap (λ (rs : List Run). x ∷ rs) (joined-none (y ∷ rest))

with-more : (x y : Run) (ys : List Run) → with_run x (y ∷ ys) ≡ with_run x (y ∷ []) ++ ys
with-more x y ys =
    let one : Run = record { lo = x.lo; hi = y.hi } in
    ⊎_elim
    (λ (e : x.hi + 1 ≡ y.lo). cond-true (eqb (x.hi + 1) y.lo) (one ∷ ys) (x ∷ y ∷ ys) (eq-eqb (x.hi + 1) y.lo e) ∙ sym (ap (λ (rs : List Run). rs ++ ys) (cond-true (eqb (x.hi + 1) y.lo) (one ∷ []) (x ∷ y ∷ []) (eq-eqb (x.hi + 1) y.lo e))))
    (λ (e : x.hi + 1 ≡ y.lo → ⊥). cond-false (eqb (x.hi + 1) y.lo) (one ∷ ys) (x ∷ y ∷ ys) (ne_eqb (x.hi + 1) y.lo e) ∙ sym (ap (λ (rs : List Run). rs ++ ys) (cond-false (eqb (x.hi + 1) y.lo) (one ∷ []) (x ∷ y ∷ []) (ne_eqb (x.hi + 1) y.lo e))))
    (cases_eq (x.hi + 1) y.lo)

pub joined-more : (xs : List Run) (y : Run) (ys : List Run) → joined xs (y ∷ ys) ≡ joined xs (y ∷ []) ++ ys
joined-more [] y ys = refl
joined-more (x ∷ []) y ys = with-more x y ys
joined-more (x ∷ z ∷ rest) y ys = ap (λ (rs : List Run). x ∷ rs) (joined-more (z ∷ rest) y ys)

pub add-none : (xs more : List Run) → length more < 1 → xs ≡ joined xs more
add-none xs [] l = sym (joined-none xs)
add-none xs (y ∷ ys) l = absurd (omega arith)

take-whole : (n : ℕ) (xs : List Run) → length xs ≤ n → take n xs ≡ xs
take-whole zero [] l = refl
take-whole zero (x ∷ xs) l = absurd (omega arith)
take-whole (suc n) [] l = refl
take-whole (suc n) (x ∷ xs) l = ap (λ (rs : List Run). x ∷ rs) (take-whole n xs (omega arith))

pub add-more : (old mid new more : List Run) (d : Run) → 1 ≤ length more → mid ≡ joined old (get_or more 0 d ∷ []) → new ≡ mid ++ take (length more - 1) (drop 1 more) → new ≡ joined old more
add-more old mid new [] d l m is = absurd (omega arith)
add-more old mid new (y ∷ ys) d l m is = is ∙ ap (λ (rs : List Run). mid ++ rs) (take-whole (length (y ∷ ys) - 1) ys (omega arith)) ∙ ap (λ (rs : List Run). rs ++ ys) m ∙ sym (joined-more old y ys)

pub add-touching : (old front new : List Run) (last run : Run) → old ≡ front ++ last ∷ [] → new ≡ front ++ record { lo = last.lo; hi = run.hi } ∷ [] → last.hi + 1 ≡ run.lo → new ≡ joined old (run ∷ [])
add-touching old front new last run e is t =
    let one : Run = record { lo = last.lo; hi = run.hi } in
    is ∙ ap (λ (rs : List Run). front ++ rs) (sym (cond-true (eqb (last.hi + 1) run.lo) (one ∷ []) (last ∷ run ∷ []) (eq-eqb (last.hi + 1) run.lo t))) ∙ sym (joined-last front last (run ∷ [])) ∙ ap (λ (rs : List Run). joined rs (run ∷ [])) (sym e)

pub add-apart : (old front mid new : List Run) (last run : Run) → old ≡ front ++ last ∷ [] → mid ≡ front ++ last ∷ [] → new ≡ mid ++ run ∷ [] → (last.hi + 1 ≡ run.lo → ⊥) → new ≡ joined old (run ∷ [])
add-apart old front mid new last run e m is t =
    let one : Run = record { lo = last.lo; hi = run.hi } in
    is ∙ ap (λ (rs : List Run). rs ++ run ∷ []) m ∙ append_assoc front (last ∷ []) (run ∷ []) ∙ ap (λ (rs : List Run). front ++ rs) (sym (cond-false (eqb (last.hi + 1) run.lo) (one ∷ []) (last ∷ run ∷ []) (ne_eqb (last.hi + 1) run.lo t))) ∙ sym (joined-last front last (run ∷ [])) ∙ ap (λ (rs : List Run). joined rs (run ∷ [])) (sym e)

-- ---- what joined runs hold

or-none : (b : Bool) → (b || false) ≡ b
or-none true = refl
or-none false = refl

or-group : (x y z : Bool) → ((x || y) || z) ≡ (x || (y || z))
or-group true y z = refl
or-group false y z = refl

pub joined-holds : (a : ℕ) (xs ys : List Run) → AreApart xs → AreApart ys → list_any (holds a) (joined xs ys) ≡ (list_any (holds a) xs || list_any (holds a) ys)
joined-holds a [] ys h k = refl
joined-holds a (x ∷ []) ys h k = with-holds a x ys h.0 k ∙ ap (λ b. b || list_any (holds a) ys) (sym (or-none (holds a x)))
joined-holds a (x ∷ y ∷ rest) ys h k = ap (λ b. holds a x || b) (joined-holds a (y ∷ rest) ys h.2 k) ∙ sym (or-group (holds a x) (list_any (holds a) (y ∷ rest)) (list_any (holds a) ys))

-- ---- joined runs are in order, and no two touch

-- each run ends before an address
abbrev EndBefore : ℕ → List Run → Type 0
EndBefore mid [] = Unit {0}
EndBefore mid (x ∷ xs) = (x.hi < mid) × EndBefore mid xs

ends-before : (mid : ℕ) (xs : List Run) → AreApart xs → ((a : ℕ) → a < 2 ^ 32 → list_any (holds a) xs ≡ true → a < mid) → EndBefore mid xs
ends-before mid [] h e = tt
ends-before mid (x ∷ xs) h e =
    let low : x.lo ≤ x.hi = apart-head x xs h in (
      e x.hi (apart-bound x xs h) (first-holds x.hi x xs low (omega arith)),
      ends-before mid xs (apart-tail x xs h) (λ a b so. e a b (or_right (holds a x) (list_any (holds a) xs) so)),
    )

starts-from : (mid : ℕ) (ys : List Run) → AreApart ys → ((a : ℕ) → a < 2 ^ 32 → list_any (holds a) ys ≡ true → mid ≤ a) → StartFrom mid ys
starts-from mid [] h e = tt
starts-from mid (y ∷ ys) h e =
    let low : y.lo ≤ y.hi = apart-head y ys h in
    let bound : y.hi < 2 ^ 32 = apart-bound y ys h in
    e y.lo (omega arith) (first-holds y.lo y ys (omega arith) low)

start-lower : (low mid : ℕ) (ys : List Run) → low ≤ mid → StartFrom mid ys → StartFrom low ys
start-lower low mid [] l s = tt
start-lower low mid (y ∷ ys) l s = (let m : mid ≤ y.lo = s in let k : low ≤ y.lo = omega arith in k)

apart-cons : (x : Run) (rs : List Run) → x.lo ≤ x.hi → x.hi < 2 ^ 32 → AreApart rs → StartFrom (x.hi + 2) rs → AreApart (x ∷ rs)
apart-cons x [] l b h s = (l, b)
apart-cons x (y ∷ rs) l b h s = (l, (let m : x.hi + 2 ≤ y.lo = s in let k : x.hi + 1 < y.lo = omega arith in k), h)

with-form : (x : Run) (ys : List Run) → x.lo ≤ x.hi → x.hi < 2 ^ 32 → AreApart ys → StartFrom (x.hi + 1) ys → AreRunsFrom x.lo (λ a. holds a x || list_any (holds a) ys) (with_run x ys)
with-form x ys l b h s = put-passed (λ a. holds a x || list_any (holds a) ys) x (x.hi + 1) ys l refl (omega arith)
    (record {
      apart = h;
      start = s;
      exact = λ a from below. sym (ap (λ y. y || list_any (holds a) ys) (holds-above a x (omega arith)));
    })
    (λ a from below. or_left (holds a x) (list_any (holds a) ys) (holds-in a x from (omega arith)))

start-joined : (mid : ℕ) (x : Run) (xs ys : List Run) → AreApart (x ∷ xs) → x.hi < mid → AreApart ys → StartFrom mid ys → StartFrom x.lo (joined (x ∷ xs) ys)
start-joined mid x [] ys h e k s = (with-form x ys h.0 h.1 k (start-lower (x.hi + 1) mid ys (omega arith) s)).start
start-joined mid x (z ∷ rest) ys h e k s = (let o : x.lo ≤ x.lo = omega arith in o)

joined-form : (mid : ℕ) (xs ys : List Run) → AreApart xs → EndBefore mid xs → AreApart ys → StartFrom mid ys → AreApart (joined xs ys)
joined-form mid [] ys h e k s = k
joined-form mid (x ∷ []) ys h e k s = (with-form x ys h.0 h.1 k (start-lower (x.hi + 1) mid ys (let o : x.hi < mid = e.0 in omega arith) s)).apart
joined-form mid (x ∷ y ∷ rest) ys h e k s =
    let gap : x.hi + 1 < y.lo = h.1 in
    apart-cons x (joined (y ∷ rest) ys) h.0 (apart-bound x (y ∷ rest) h) (joined-form mid (y ∷ rest) ys h.2 e.1 k s)
    (start-lower (x.hi + 2) y.lo (joined (y ∷ rest) ys) (omega arith) (start-joined mid y rest ys h.2 e.1.0 k s))

-- ---- runs of two ranges that meet

pub only-in : (low past a : ℕ) (test : ℕ → Bool) → only_within low past test a ≡ true → (low ≤ a) × (a < past)
only-in low past a test so = ⊎_elim
    (λ (l : a < low). absurd (both_ways (only_within low past test a) (ap (λ b. b && test a) (within-below low past a l)) so))
    (λ (l : low ≤ a). ⊎_elim
    (λ (k : a < past). (l, k))
    (λ (k : past ≤ a). absurd (both_ways (only_within low past test a) (ap (λ b. b && test a) (within-above low past a k)) so))
    (cases_lt a past))
    (cases_lt a low)

only-split : (low mid past a : ℕ) (test : ℕ → Bool) → low ≤ mid → mid ≤ past → (only_within low mid test a || only_within mid past test a) ≡ only_within low past test a
only-split low mid past a test l k = ⊎_elim
    (λ (first : a < mid).
    ap (λ b. only_within low mid test a || (b && test a)) (within-below mid past a first) ∙ or-none (only_within low mid test a) ∙ ap (λ b. b && test a) (⊎_elim
    (λ (out : a < low). within-below low mid a out ∙ sym (within-below low past a out))
    (λ (from : low ≤ a). within-yes low mid a from first ∙ sym (within-yes low past a from (omega arith)))
    (cases_lt a low)))
    (λ (later : mid ≤ a).
    ap (λ b. (b && test a) || only_within mid past test a) (within-above low mid a later) ∙ ap (λ b. b && test a) (⊎_elim
    (λ (to : a < past). within-yes mid past a later to ∙ sym (within-yes low past a (omega arith) to))
    (λ (out : past ≤ a). within-above mid past a out ∙ sym (within-above low past a out))
    (cases_lt a past)))
    (cases_lt a mid)

pub joined-runs : (low mid past : ℕ) (test : ℕ → Bool) (xs ys : List Run) → low ≤ mid → mid ≤ past → AreRuns xs (only_within low mid test) → AreRuns ys (only_within mid past test) → AreRuns (joined xs ys) (only_within low past test)
joined-runs low mid past test xs ys l k x y = record {
  apart = joined-form mid xs ys x.apart
      (ends-before mid xs x.apart (λ a b so. (only-in low mid a test (sym (x.exact a b) ∙ so)).1))
      y.apart
      (starts-from mid ys y.apart (λ a b so. (only-in mid past a test (sym (y.exact a b) ∙ so)).0));
  exact = λ a b. joined-holds a xs ys x.apart y.apart ∙ ap (λ z. z || list_any (holds a) ys) (x.exact a b) ∙ ap (λ z. only_within low mid test a || z) (y.exact a b) ∙ only-split low mid past a test l k;
}

-- ---- runs of all ranges so far

pub no-runs : (at : ℕ → ℕ) (test : ℕ → Bool) (runs : List Run) → AreBounds at → runs ≡ [] → AreRuns runs (only_within 0 (at 0) test)
no-runs at test runs h e =
    let P : List Run → Type 0 = λ rs. AreRuns rs (only_within 0 (at 0) test) in
    subst P (sym e) (record { apart = tt; exact = λ a b. sym (ap (λ z. z && test a) (within-above 0 (at 0) a (omega (arith, h.first)))) })

pub more-runs : (at : ℕ → ℕ) (test : ℕ → Bool) (pieces : List (List Run)) (k : ℕ) (old new piece d : List Run) → AreBounds at → AreRunsByRange at test pieces → k < length pieces → piece ≡ get_or pieces k d → AreRuns old (only_within 0 (at k) test) → new ≡ joined old piece → AreRuns new (only_within 0 (at (k + 1)) test)
more-runs at test pieces k old new piece d b h l is so_far e =
    let P : List Run → Type 0 = λ rs. AreRuns rs (only_within (at k) (at (k + 1)) test) in
    let Q : List Run → Type 0 = λ rs. AreRuns rs (only_within 0 (at (k + 1)) test) in
    subst Q (sym e) (joined-runs 0 (at k) (at (k + 1)) test old piece (omega arith) (b.rise k) so_far (subst P (sym is) (h.each k d l)))

-- all addresses are within the first and the last bound
pub all-within : (past : ℕ) (test : ℕ → Bool) (runs : List Run) → past ≡ 2 ^ 32 → AreRuns runs (only_within 0 past test) → AreRuns runs test
all-within past test runs e h = record { apart = h.apart; exact = λ a b. h.exact a b ∙ ap (λ z. z && test a) (within-yes 0 past a (omega arith) (omega arith)) }

-- ---- how many addresses joined runs have

count-cons : (x : Run) (xs : List Run) → addresses_in (x ∷ xs) ≡ run_length x + addresses_in xs
count-cons x xs = sum_by-cons (λ (n : ℕ). n) (run_length x) (map run_length xs)

with-count : (x : Run) (ys : List Run) → x.lo ≤ x.hi → AreApart ys → addresses_in (with_run x ys) ≡ run_length x + addresses_in ys
with-count x [] l h = count-cons x []
with-count x (y ∷ ys) l h =
    let P : List Run → Type 0 = λ rs. addresses_in rs ≡ run_length x + addresses_in (y ∷ ys) in
    let one : Run = record { lo = x.lo; hi = y.hi } in
    let low : y.lo ≤ y.hi = apart-head y ys h in
    let c : addresses_in (y ∷ ys) ≡ run_length y + addresses_in ys = count-cons y ys in
    cond_both (eqb (x.hi + 1) y.lo) (one ∷ ys) (x ∷ y ∷ ys) P
    (λ t.
    let e : x.hi + 1 ≡ y.lo = eqb-true (x.hi + 1) y.lo t in
    let d : addresses_in (one ∷ ys) ≡ run_length one + addresses_in ys = count-cons one ys in
    omega arith)
    (λ f. count-cons x (y ∷ ys))

pub joined-count : (xs ys : List Run) → AreApart xs → AreApart ys → addresses_in (joined xs ys) ≡ addresses_in xs + addresses_in ys
joined-count [] ys h k = (let e : addresses_in ys ≡ 0 + addresses_in ys = omega arith in e)
joined-count (x ∷ []) ys h k =
    let c : addresses_in (x ∷ []) ≡ run_length x + addresses_in [] = count-cons x [] in
    let d : addresses_in (with_run x ys) ≡ run_length x + addresses_in ys = with-count x ys h.0 k in
    omega arith
joined-count (x ∷ y ∷ rest) ys h k =
    let c : addresses_in (x ∷ y ∷ rest) ≡ run_length x + addresses_in (y ∷ rest) = count-cons x (y ∷ rest) in
    let d : addresses_in (x ∷ joined (y ∷ rest) ys) ≡ run_length x + addresses_in (joined (y ∷ rest) ys) = count-cons x (joined (y ∷ rest) ys) in
    let rec : addresses_in (joined (y ∷ rest) ys) ≡ addresses_in (y ∷ rest) + addresses_in ys = joined-count (y ∷ rest) ys h.2 k in
    omega arith
