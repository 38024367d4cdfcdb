-- Where ranges of rows begin.
use Rattle.std.proofs.Common.{◌≡◌, ℕ, zero, suc, ◌+◌, ◌*◌, ◌<◌, ◌≤◌, ◌^◌, ◌∙◌, ⊎_elim, Bool, ltb, Result, Ok, Err, List, [], ◌∷◌, length, map, get_or, refl, ap, sym, subst, arith}
use Rattle.std.specs.Prelude.{IfOk, MatchResult}
use Rattle.std.specs.List.{AllZip, Contains, range_with_len}
use Rattle.std.proofs.lemmas.Bool.{cases_lt, cond-true, cond-false, lt-ltb, le-ltb}
use Rattle.base.specs.Forwarding.{AreForwarding}
use Rattle.base.specs.Runs.{AreRuns}
use Rattle.base.specs.declared.forwarding_row.ForwardingRow.{ForwardingRow}
use Rattle.base.specs.declared.run.Run.{Run}
use Rattle.label_view.specs.Places.{begin_of}
use Rattle.par_scan.specs.Parts.{ShowsPart}
use Rattle.loop_check.specs.Bounds.{AreBounds, AreRunsByRange, only_within}
use Rattle.par_scan.specs.Ranges.{place_at, range_begin}
use Rattle.loop_check.proofs.Joining.{all-within}
use Rattle.par_scan.proofs.PartRows.{begin-end, begin-first, begin-rises}

-- ---- places

inner : (rows size k : ℕ) → size * k < rows → place_at rows size k ≡ size * k
inner rows size k l = cond-true (ltb (size * k) rows) (size * k) rows (lt-ltb (size * k) rows l)

outer : (rows size k : ℕ) → rows ≤ size * k → place_at rows size k ≡ rows
outer rows size k l = cond-false (ltb (size * k) rows) (size * k) rows (le-ltb (size * k) rows l)

pub place-inside : (rows size k : ℕ) → place_at rows size k ≤ rows
place-inside rows size k = ⊎_elim
    (λ (l : size * k < rows). let e : place_at rows size k ≡ size * k = inner rows size k l in omega arith)
    (λ (l : rows ≤ size * k). let e : place_at rows size k ≡ rows = outer rows size k l in omega arith)
    (cases_lt (size * k) rows)

pub place-rises : (rows size k : ℕ) → place_at rows size k ≤ place_at rows size (k + 1)
place-rises rows size k =
    let step : size * (k + 1) ≡ size * k + size = omega arith in
    let most : place_at rows size k ≤ rows = place-inside rows size k in
    ⊎_elim
    (λ (l : size * (k + 1) < rows).
    let e : place_at rows size (k + 1) ≡ size * (k + 1) = inner rows size (k + 1) l in
    let f : place_at rows size k ≡ size * k = inner rows size k (omega arith) in
    omega arith)
    (λ (l : rows ≤ size * (k + 1)). let e : place_at rows size (k + 1) ≡ rows = outer rows size (k + 1) l in omega arith)
    (cases_lt (size * (k + 1)) rows)

place-zero : (rows size : ℕ) → place_at rows size 0 ≡ 0
place-zero rows size =
    let none : size * 0 ≡ 0 = omega arith in
    ⊎_elim
    (λ (l : size * 0 < rows). inner rows size 0 l ∙ none)
    (λ (l : rows ≤ size * 0). let e : place_at rows size 0 ≡ rows = outer rows size 0 l in omega arith)
    (cases_lt (size * 0) rows)

-- ---- addresses

pub bounds-are : (n : ℕ) (rows : List ForwardingRow) (size : ℕ) → AreForwarding n rows → AreBounds (range_begin rows size)
bounds-are n rows size form = record {
  first = ap (begin_of rows) (place-zero (length rows) size) ∙ begin-first rows form.cover;
  rise = λ k. begin-rises 0 rows (place_at (length rows) size k) (place_at (length rows) size (k + 1)) form.cover (place-rises (length rows) size k);
}

pub bounds-end : (rows : List ForwardingRow) (size k : ℕ) → length rows ≤ size * k → range_begin rows size k ≡ 2 ^ 32
bounds-end rows size k l = ap (begin_of rows) (outer (length rows) size k l) ∙ begin-end rows (length rows) (omega arith)

-- an address is of one range
pub range-of : (at : ℕ → ℕ) (m a : ℕ) → at 0 ≡ 0 → a < at m → (k : ℕ) × (k < m) × (at k ≤ a) × (a < at (k + 1))
range-of at zero a first l = absurd (omega (arith, first))
range-of at (suc m) a first l = ⊎_elim
    (λ (before : a < at m).
    let k = range-of at m a first before in
    let b : k.0 < m = k.1 in
    (k.0, (let c : k.0 < suc m = omega arith in c), k.2, k.3))
    (λ (from : at m ≤ a).
    let e : suc m ≡ m + 1 = omega arith in
    let P : ℕ → Type 0 = λ j. a < at j in
    (m, (let c : m < suc m = omega arith in c), from, subst P e l))
    (cases_lt a (at m))

-- the part of a range
pub shows-range : (n : ℕ) (rows part : List ForwardingRow) (total from to size k : ℕ) → total ≡ length rows → from ≡ place_at total size k → to ≡ place_at total size (k + 1) → ShowsPart n rows part (begin_of rows from) (begin_of rows to) → ShowsPart n rows part (range_begin rows size k) (range_begin rows size (k + 1))
shows-range n rows part total from to size k t f u h =
    let P : ℕ → Type 0 = λ j. ShowsPart n rows part (begin_of rows j) (begin_of rows to) in
    let Q : ℕ → Type 0 = λ j. ShowsPart n rows part (begin_of rows (place_at (length rows) size k)) (begin_of rows j) in
    subst Q (u ∙ ap (λ m. place_at m size (k + 1)) t) (subst P (f ∙ ap (λ m. place_at m size k) t) h)

-- ---- what each range gives, as one list

next-from : (a k : ℕ) → (a + 1) + k ≡ a + suc k
next-from a k = omega arith

each-more : {T : Type 0} (P : ℕ → T → Type 0) (a : ℕ) (y : T) (ys : List T) → P a y → ((k : ℕ) (d : T) → k < length ys → P ((a + 1) + k) (get_or ys k d)) → (k : ℕ) (d : T) → k < length (y ∷ ys) → P (a + k) (get_or (y ∷ ys) k d)
each-more P a y ys h rest zero d l = (let Q : ℕ → Type 0 = λ j. P j y in let e : a ≡ a + 0 = omega arith in subst Q e h)
each-more P a y ys h rest (suc k) d l = (let Q : ℕ → Type 0 = λ j. P j (get_or ys k d) in subst Q (next-from a k) (rest k d (omega arith)))

zip-each : (T E : Type 0) (P : ℕ → T → Type 0) (a n : ℕ) (ys : List T) → AllZip (λ (k : ℕ) (x : Result T E). IfOk x (P k)) (range_with_len a n) (map Ok ys) → (length ys ≡ n) × ((k : ℕ) (d : T) → k < length ys → P (a + k) (get_or ys k d))
zip-each T E P a zero [] h = (refl, λ k d l. absurd (omega arith))
zip-each T E P a zero (y ∷ ys) h = absurd h
zip-each T E P a (suc n) [] h = absurd h
zip-each T E P a (suc n) (y ∷ ys) h =
    let rest = zip-each T E P (a + 1) n ys h.1 in
    (ap suc rest.0, each-more P a y ys h.0 rest.1)

pub each-range : (T E C : Type 0) (items : C → List T) (P : ℕ → T → Type 0) (r : Result C E) (xs : List (Result T E)) (zs : List ℕ) (count : ℕ) → MatchResult r (λ c. (ys : List T) × (xs ≡ map Ok ys) × (items c ≡ ys)) (λ e. Contains xs (Err e)) → zs ≡ range_with_len 0 count → AllZip (λ (k : ℕ) (x : Result T E). IfOk x (P k)) zs xs → IfOk r (λ c. (length (items c) ≡ count) × ((k : ℕ) (d : T) → k < length (items c) → P k (get_or (items c) k d)))
each-range T E C items P (Ok c) xs zs count m z h =
    let Q : List ℕ → Type 0 = λ ks. AllZip (λ (k : ℕ) (x : Result T E). IfOk x (P k)) ks xs in
    let R : List (Result T E) → Type 0 = λ rs. AllZip (λ (k : ℕ) (x : Result T E). IfOk x (P k)) (range_with_len 0 count) rs in
    let S : List T → Type 0 = λ ys. (length ys ≡ count) × ((k : ℕ) (d : T) → k < length ys → P k (get_or ys k d)) in
    let each = zip-each T E P 0 count m.0 (subst R m.1 (subst Q z h)) in
    subst S (sym m.2) (each.0, λ k d l. (let U : ℕ → Type 0 = λ j. P j (get_or m.0 k d) in let e : 0 + k ≡ k = omega arith in subst U e (each.1 k d l)))
each-range T E C items P (Err e) xs zs count m z h = tt

-- ---- runs of all ranges

pub runs-of-all : (n : ℕ) (rows : List ForwardingRow) (size : ℕ) (test : ℕ → Bool) (slice pieces : List (List Run)) (runs : List Run) → AreForwarding n rows → slice ≡ pieces → length rows ≤ size * length pieces → AreRunsByRange (range_begin rows size) test pieces
    → ((at : ℕ → ℕ) (test : ℕ → Bool) → AreBounds at → AreRunsByRange at test slice → AreRuns runs (only_within 0 (at (length slice)) test)) → AreRuns runs test
runs-of-all n rows size test slice pieces runs form is l h joined =
    let P : List (List Run) → Type 0 = λ ps. AreRunsByRange (range_begin rows size) test ps in
    let Q : List (List Run) → Type 0 = λ ps. length rows ≤ size * length ps in
    all-within (range_begin rows size (length slice)) test runs (bounds-end rows size (length slice) (subst Q (sym is) l)) (joined (range_begin rows size) test (bounds-are n rows size form) (subst P (sym is) h))
