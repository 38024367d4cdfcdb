-- A set of addresses has one list of runs.
use Rattle.std.proofs.Common.{◌≡◌, ℕ, ◌+◌, ◌<◌, ◌≤◌, ◌^◌, ◌⊎◌, ◌∙◌, Bool, true, false, ◌||◌, List, [], ◌∷◌, refl, ap, sym, subst, ⊎_elim, arith, leb}
use Rattle.std.specs.List.{list_any}
use Rattle.std.proofs.lemmas.Bool.{cases_order, cases_lt, le-leb, lt-leb, and_from, and_left, and_right, or_left, or_from, both_ways}
use Rattle.base.specs.Runs.{holds, AreApart, AreRuns}
use Rattle.base.specs.declared.run.Run.{Run}

-- what an interval holds
pub holds-in : (a : ℕ) (i : Run) → i.lo ≤ a → a ≤ i.hi → holds a i ≡ true
holds-in a i l h = and_from (leb i.lo a) (leb a i.hi) (le-leb i.lo a l) (le-leb a i.hi h)

pub holds-below : (a : ℕ) (i : Run) → a < i.lo → holds a i ≡ false
holds-below a i h = and_left (leb i.lo a) (leb a i.hi) (lt-leb i.lo a h)

pub holds-above : (a : ℕ) (i : Run) → i.hi < a → holds a i ≡ false
holds-above a i h = and_right (leb i.lo a) (leb a i.hi) (lt-leb a i.hi h)

-- the parts of intervals that are apart
pub apart-head : (i : Run) (is : List Run) → AreApart (i ∷ is) → i.lo ≤ i.hi
apart-head i [] h = h.0
apart-head i (j ∷ is) h = h.0

pub apart-tail : (i : Run) (is : List Run) → AreApart (i ∷ is) → AreApart is
apart-tail i [] h = tt
apart-tail i (j ∷ is) h = h.2

pub apart-bound : (i : Run) (is : List Run) → AreApart (i ∷ is) → i.hi < 2 ^ 32
apart-bound i [] h = h.1
apart-bound i (j ∷ is) h =
    let next : j.hi < 2 ^ 32 = apart-bound j is h.2 in
    let low : j.lo ≤ j.hi = apart-head j is h.2 in
    let gap : i.hi + 1 < j.lo = h.1 in
    omega arith

-- intervals that are apart hold nothing up to the place after the first besides it, and nothing below it
pub apart-after : (a : ℕ) (i : Run) (is : List Run) → AreApart (i ∷ is) → a ≤ i.hi + 1 → list_any (holds a) is ≡ false
apart-after a i [] h l = refl
apart-after a i (j ∷ is) h l =
    let gap : i.hi + 1 < j.lo = h.1 in
    let low : j.lo ≤ j.hi = apart-head j is h.2 in
    or_from (holds a j) (list_any (holds a) is) (holds-below a j (omega arith)) (apart-after a j is h.2 (omega arith))

pub apart-below : (a : ℕ) (i : Run) (is : List Run) → AreApart (i ∷ is) → a < i.lo → list_any (holds a) (i ∷ is) ≡ false
apart-below a i is h l =
    let low : i.lo ≤ i.hi = apart-head i is h in
    or_from (holds a i) (list_any (holds a) is) (holds-below a i l) (apart-after a i is h (omega arith))

-- the first interval holds its ends
pub first-holds : (a : ℕ) (i : Run) (is : List Run) → i.lo ≤ a → a ≤ i.hi → list_any (holds a) (i ∷ is) ≡ true
first-holds a i is l h = or_left (holds a i) (list_any (holds a) is) (holds-in a i l h)

-- two lists hold the same addresses
abbrev HoldSame : List Run → List Run → Type 0
HoldSame xs ys = (a : ℕ) → a < 2 ^ 32 → list_any (holds a) xs ≡ list_any (holds a) ys

-- the first of one list can't begin below the first of another, nor end below it
no_lower : (i j : Run) (is js : List Run) → AreApart (i ∷ is) → AreApart (j ∷ js) → HoldSame (i ∷ is) (j ∷ js) → i.lo < j.lo → ⊥
no_lower i j is js h k same l =
    let low : i.lo ≤ i.hi = apart-head i is h in
    let bound : i.hi < 2 ^ 32 = apart-bound i is h in
    both_ways (list_any (holds i.lo) (i ∷ is)) (same i.lo (omega arith) ∙ apart-below i.lo j js k l) (first-holds i.lo i is (omega arith) low)

no_shorter : (i j : Run) (is js : List Run) → AreApart (i ∷ is) → AreApart (j ∷ js) → HoldSame (i ∷ is) (j ∷ js) → i.lo ≡ j.lo → i.hi < j.hi → ⊥
no_shorter i j is js h k same e l =
    let low : i.lo ≤ i.hi = apart-head i is h in
    let bound : j.hi < 2 ^ 32 = apart-bound j js k in
    let none : list_any (holds (i.hi + 1)) (i ∷ is) ≡ false = or_from (holds (i.hi + 1) i) (list_any (holds (i.hi + 1)) is) (holds-above (i.hi + 1) i (omega arith)) (apart-after (i.hi + 1) i is h (omega arith)) in
    both_ways (list_any (holds (i.hi + 1)) (j ∷ js)) (sym (same (i.hi + 1) (omega arith)) ∙ none) (first-holds (i.hi + 1) j js (omega arith) (omega arith))

turned : (xs ys : List Run) → HoldSame xs ys → HoldSame ys xs
turned xs ys same a l = sym (same a l)

same_first : (i j : Run) (is js : List Run) → AreApart (i ∷ is) → AreApart (j ∷ js) → HoldSame (i ∷ is) (j ∷ js) → i ≡ j
same_first i j is js h k same =
    let back = turned (i ∷ is) (j ∷ js) same in
    let lo : i.lo ≡ j.lo = ⊎_elim (λ (e : i.lo ≡ j.lo). e) (λ (o : (i.lo < j.lo) ⊎ (j.lo < i.lo)). ⊎_elim (λ (l : i.lo < j.lo). absurd (no_lower i j is js h k same l)) (λ (l : j.lo < i.lo). absurd (no_lower j i js is k h back l)) o) (cases_order i.lo j.lo) in
    let hi : i.hi ≡ j.hi = ⊎_elim (λ (e : i.hi ≡ j.hi). e) (λ (o : (i.hi < j.hi) ⊎ (j.hi < i.hi)). ⊎_elim (λ (l : i.hi < j.hi). absurd (no_shorter i j is js h k same lo l)) (λ (l : j.hi < i.hi). absurd (no_shorter j i js is k h back (sym lo) l)) o) (cases_order i.hi j.hi) in
    let with_lo : ℕ → Run = λ n. record { lo = n; hi = i.hi } in
    let with_hi : ℕ → Run = λ n. record { lo = j.lo; hi = n } in
    ap with_lo lo ∙ ap with_hi hi

-- what is left after a common first interval
same_rest : (i : Run) (is js : List Run) → AreApart (i ∷ is) → AreApart (i ∷ js) → HoldSame (i ∷ is) (i ∷ js) → HoldSame is js
same_rest i is js h k same a l = ⊎_elim
    (λ (past : i.hi < a).
    let skip : holds a i ≡ false = holds-above a i past in
    ap (λ b. b || list_any (holds a) is) (sym skip) ∙ same a l ∙ ap (λ b. b || list_any (holds a) js) skip)
    (λ (within : a ≤ i.hi). apart-after a i is h (omega arith) ∙ sym (apart-after a i js k (omega arith)))
    (cases_lt i.hi a)

none-holds : (i : Run) (is : List Run) → AreApart (i ∷ is) → list_any (holds i.lo) (i ∷ is) ≡ false → ⊥
none-holds i is h e = both_ways (list_any (holds i.lo) (i ∷ is)) e (first-holds i.lo i is (omega arith) (apart-head i is h))

low-bound : (i : Run) (is : List Run) → AreApart (i ∷ is) → i.lo < 2 ^ 32
low-bound i is h =
    let low : i.lo ≤ i.hi = apart-head i is h in
    let bound : i.hi < 2 ^ 32 = apart-bound i is h in
    omega arith

-- lists that hold the same addresses are equal
pub apart-once : (xs ys : List Run) → AreApart xs → AreApart ys → ((a : ℕ) → a < 2 ^ 32 → list_any (holds a) xs ≡ list_any (holds a) ys) → xs ≡ ys
apart-once [] [] h k same = refl
apart-once [] (j ∷ js) h k same = absurd (none-holds j js k (sym (same j.lo (low-bound j js k))))
apart-once (i ∷ is) [] h k same = absurd (none-holds i is h (same i.lo (low-bound i is h)))
apart-once (i ∷ is) (j ∷ js) h k same =
    let first : i ≡ j = same_first i j is js h k same in
    let P : Run → Type 0 = λ x. AreApart (x ∷ js) in
    let Q : Run → Type 0 = λ x. HoldSame (i ∷ is) (x ∷ js) in
    let k' : AreApart (i ∷ js) = subst P (sym first) k in
    let same' : HoldSame (i ∷ is) (i ∷ js) = subst Q (sym first) same in
    let rest : is ≡ js = apart-once is js (apart-tail i is h) (apart-tail i js k') (same_rest i is js h k' same') in
    ap (λ (x : Run). x ∷ is) first ∙ ap (λ (xs : List Run). j ∷ xs) rest

pub runs-once : (xs ys : List Run) (test : ℕ → Bool) → AreRuns xs test → AreRuns ys test → xs ≡ ys
runs-once xs ys test x y = apart-once xs ys x.apart y.apart (λ a l. x.exact a l ∙ sym (y.exact a l))
