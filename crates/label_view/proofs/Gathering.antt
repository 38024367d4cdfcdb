-- Runs that are gathered in order: a run that is lengthened, and one that is begun after others.
use Rattle.std.proofs.Common.{◌≡◌, ℕ, ◌+◌, ◌-◌, ◌<◌, ◌≤◌, ◌^◌, ◌∙◌, ◌||◌, ⊎_elim, Bool, true, false, List, [], ◌∷◌, ◌++◌, refl, ap, sym, subst, arith}
use Rattle.std.specs.List.{list_any}
use Rattle.std.proofs.lemmas.Bool.{cases_lt, cond-true, cond-false, lt-ltb, le-ltb}
use Rattle.std.proofs.lemmas.Bool.Decides.{nat_tests}
use Rattle.std.proofs.lemmas.List.Folds.{list_any-append}
use Rattle.base.specs.Rows.{is_within}
use Rattle.base.specs.Runs.{AreApart, holds}
use Rattle.base.specs.declared.run.Run.{Run}
use Rattle.label_view.specs.Gathered.{AreGathered, EndApartFrom, run_between}

some-between : (low past : ℕ) → low < past → run_between low past ≡ record { lo = low; hi = past - 1 } ∷ []
some-between low past l = cond-true _ _ _ (lt-ltb low past l)

none-between : (low past : ℕ) → past ≤ low → run_between low past ≡ []
none-between low past l = cond-false _ _ _ (le-ltb low past l)

-- a run has the addresses between its bounds
between-has : (low past a : ℕ) → list_any (holds a) (run_between low past) ≡ is_within low past a
between-has low past a = ⊎_elim
    (λ (l : low < past). ap (list_any (holds a)) (some-between low past l) ∙ grind (arith, nat_tests))
    (λ (l : past ≤ low). ap (list_any (holds a)) (none-between low past l) ∙ grind (arith, nat_tests))
    (cases_lt low past)

longer-within : (low past new a : ℕ) → low ≤ past → past ≤ new → is_within low new a ≡ (is_within low past a || is_within past new a)
longer-within low past new a l k = grind (arith, nat_tests)

or-assoc : (x y z : Bool) → (x || (y || z)) ≡ ((x || y) || z)
or-assoc true y z = refl
or-assoc false y z = refl

-- a last run that is lengthened has what it had, and the addresses that were added
pub lengthened : (closed : List Run) (low past new a : ℕ) → low ≤ past → past ≤ new → list_any (holds a) (closed ++ run_between low new) ≡ (list_any (holds a) (closed ++ run_between low past) || is_within past new a)
lengthened closed low past new a l k =
    let whole : list_any (holds a) (closed ++ run_between low new) ≡ (list_any (holds a) closed || is_within low new a) = list_any-append (holds a) closed (run_between low new) ∙ ap (λ b. list_any (holds a) closed || b) (between-has low new a) in
    let before : list_any (holds a) (closed ++ run_between low past) ≡ (list_any (holds a) closed || is_within low past a) = list_any-append (holds a) closed (run_between low past) ∙ ap (λ b. list_any (holds a) closed || b) (between-has low past a) in
    let parts : is_within low new a ≡ (is_within low past a || is_within past new a) = longer-within low past new a l k in
    whole ∙ ap (λ b. list_any (holds a) closed || b) parts ∙ or-assoc (list_any (holds a) closed) (is_within low past a) (is_within past new a) ∙ ap (λ b. b || is_within past new a) (sym before)

-- runs, and one after them
pub begun : (runs : List Run) (low past a : ℕ) → list_any (holds a) (runs ++ run_between low past) ≡ (list_any (holds a) runs || is_within low past a)
begun runs low past a = list_any-append (holds a) runs (run_between low past) ∙ ap (λ b. list_any (holds a) runs || b) (between-has low past a)

-- a run after others that end before it and don't touch it
apart-more : (closed : List Run) (r : Run) → AreApart closed → EndApartFrom closed r.lo → r.lo ≤ r.hi → r.hi < 2 ^ 32 → AreApart (closed ++ r ∷ [])
apart-more [] r h b l k = (l, k)
apart-more (x ∷ []) r h b l k = (h.0, b.0, (l, k))
apart-more (x ∷ y ∷ rest) r h b l k = (h.0, h.1, apart-more (y ∷ rest) r h.2 b.1 l k)

before-more : (closed : List Run) (r : Run) (low : ℕ) → EndApartFrom closed r.lo → r.lo ≤ r.hi → r.hi + 1 < low → EndApartFrom (closed ++ r ∷ []) low
before-more [] r low b l k = (k, tt)
before-more (x ∷ rest) r low b l k = ((let e : x.hi + 1 < r.lo = b.0 in omega arith), before-more rest r low b.1 l k)

-- what is gathered
pub gathered-none : AreGathered [] 0 0
gathered-none = record { apart = tt; before = tt; order = omega arith; bound = omega arith }

pub gathered-longer : (closed : List Run) (low past new : ℕ) → AreGathered closed low past → past ≤ new → new ≤ 2 ^ 32 → AreGathered closed low new
gathered-longer closed low past new h l k = record { apart = h.apart; before = h.before; order = (let o : low ≤ past = h.order in omega arith); bound = k }

pub gathered-more : (closed : List Run) (r : Run) (low past new end : ℕ) → AreGathered closed low past → low < past → r.lo ≡ low → r.hi ≡ past - 1 → past < new → new < end → end ≤ 2 ^ 32 → AreGathered (closed ++ r ∷ []) new end
gathered-more closed r low past new end h l lo hi g o b =
    let bound : past ≤ 2 ^ 32 = h.bound in
    let before : EndApartFrom closed r.lo = (let P : ℕ → Type 0 = λ n. EndApartFrom closed n in subst P (sym lo) h.before) in
    record {
      apart = apart-more closed r h.apart before (omega arith) (omega arith);
      before = before-more closed r new before (omega arith) (omega arith);
      order = omega arith;
      bound = b;
    }

-- a run that is closed is as it was
pub closed-as : (closed : List Run) (r : Run) (low past : ℕ) → low < past → r.lo ≡ low → r.hi ≡ past - 1 → closed ++ r ∷ [] ≡ closed ++ run_between low past
closed-as closed r low past l lo hi =
    let with_lo : ℕ → Run = λ n. record { lo = n; hi = r.hi } in
    let with_hi : ℕ → Run = λ n. record { lo = low; hi = n } in
    let same : r ≡ record { lo = low; hi = past - 1 } = ap with_lo lo ∙ ap with_hi hi in
    ap (λ (x : Run). closed ++ x ∷ []) same ∙ ap (λ (rs : List Run). closed ++ rs) (sym (some-between low past l))

append-nil : (rs : List Run) → rs ++ [] ≡ rs
append-nil [] = refl
append-nil (r ∷ rs) = ap (λ (xs : List Run). r ∷ xs) (append-nil rs)

pub apart-all : (closed : List Run) (low past : ℕ) → AreGathered closed low past → AreApart (closed ++ run_between low past)
apart-all closed low past h = ⊎_elim
    (λ (l : low < past).
    let bound : past ≤ 2 ^ 32 = h.bound in
    let P : List Run → Type 0 = λ rs. AreApart (closed ++ rs) in
    subst P (sym (some-between low past l)) (apart-more closed (record { lo = low; hi = past - 1 }) h.apart h.before (omega arith) (omega arith)))
    (λ (l : past ≤ low).
    let P : List Run → Type 0 = λ rs. AreApart rs in
    let e : closed ++ run_between low past ≡ closed = ap (λ (rs : List Run). closed ++ rs) (none-between low past l) ∙ append-nil closed in
    subst P (sym e) h.apart)
    (cases_lt low past)

before-later : (closed : List Run) (low new : ℕ) → EndApartFrom closed low → low ≤ new → EndApartFrom closed new
before-later [] low new b l = tt
before-later (x ∷ rest) low new b l = ((let e : x.hi + 1 < low = b.0 in omega arith), before-later rest low new b.1 l)

-- no run yet is closed nor begun: the next one begins
pub gathered-first : (closed : List Run) (low past new end : ℕ) → AreGathered closed low past → past ≤ low → past ≤ new → new < end → end ≤ 2 ^ 32 → AreGathered closed new end
gathered-first closed low past new end h l g o b =
    let order : low ≤ past = h.order in
    record { apart = h.apart; before = before-later closed low new h.before (omega arith); order = omega arith; bound = b }

-- the last run is closed, or there is none
pub apart-closed : (closed runs : List Run) (r : Run) (low past : ℕ) → AreGathered closed low past → low < past → r.lo ≡ low → r.hi ≡ past - 1 → runs ≡ closed ++ r ∷ [] → AreApart runs
apart-closed closed runs r low past h l lo hi is =
    let bound : past ≤ 2 ^ 32 = h.bound in
    let P : ℕ → Type 0 = λ n. EndApartFrom closed n in
    let Q : List Run → Type 0 = λ rs. AreApart rs in
    subst Q (sym is) (apart-more closed r h.apart (subst P (sym lo) h.before) (omega arith) (omega arith))
