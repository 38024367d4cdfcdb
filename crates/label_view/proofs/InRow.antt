-- Rows by place: what they show at their addresses, and runs that are gathered while they go by.
use Rattle.std.proofs.Common.{◌≡◌, ℕ, zero, suc, ◌+◌, ◌-◌, ◌<◌, ◌≤◌, ◌^◌, ◌∙◌, ◌||◌, ⊎_elim, Bool, true, false, Option, List, [], ◌∷◌, length, get_or, slice_set, refl, ap, sym, subst, arith}
use Rattle.std.specs.List.{list_any}
use Rattle.std.proofs.lemmas.List.{get_or-set_same}
use Rattle.std.proofs.lemmas.Bool.{cases_lt, or_from, or_right}
use Rattle.base.specs.Forwarding.{AreForwarding, row_low, row_past, does, target_in_row, target_of}
use Rattle.base.specs.Rows.{CoverFrom, is_within}
use Rattle.base.specs.Runs.{AreApart, AreRuns, holds}
use Rattle.base.specs.Walk.{at_address}
use Rattle.base.specs.declared.forwarding_row.ForwardingRow.{ForwardingRow}
use Rattle.base.specs.declared.ids.LinkId.{LinkId}
use Rattle.base.specs.declared.ids.RouterId.{RouterId}
use Rattle.base.specs.declared.run.Run.{Run}
use Rattle.base.specs.declared.target.Target.{Target}
use Rattle.base.specs.declared.target.Target.TheVariants.{To}
use Rattle.base.proofs.Covers.{holder-at, high-at, ordered-at, within-above, within-below, within-yes}
use Rattle.label_view.specs.Gathered.{Gathered}
use Rattle.label_view.specs.Places.{begin_of, AreRunsFrom, IsInRow, IsInRows, AreGatheredTo}
use Rattle.label_view.proofs.Found.{each-at}

-- any row
abbrev pub some_row : ForwardingRow
some_row = record { low = 0; past = 0; targets = [] }

-- ---- where rows begin

begin-at : (rows : List ForwardingRow) (i : ℕ) (d : ForwardingRow) → i < length rows → begin_of rows i ≡ (get_or rows i d).low
begin-at [] i d l = absurd (omega arith)
begin-at (row ∷ rows) zero d l = refl
begin-at (row ∷ rows) (suc i) d l = begin-at rows i d (omega arith)

begin-next : (start : ℕ) (rows : List ForwardingRow) (i : ℕ) (d : ForwardingRow) → CoverFrom row_low row_past start rows → i < length rows → begin_of rows (suc i) ≡ (get_or rows i d).past
begin-next start [] i d h l = absurd (omega arith)
begin-next start (row ∷ []) zero d h l = sym h.2
begin-next start (row ∷ []) (suc i) d h l = absurd (omega arith)
begin-next start (row ∷ next ∷ rows) zero d h l = h.2.0
begin-next start (row ∷ next ∷ rows) (suc i) d h l = begin-next row.past (next ∷ rows) i d h.2 (omega arith)

begin-end : (rows : List ForwardingRow) (i : ℕ) → length rows ≤ i → begin_of rows i ≡ 2 ^ 32
begin-end [] i l = refl
begin-end (row ∷ rows) zero l = absurd (omega arith)
begin-end (row ∷ rows) (suc i) l = begin-end rows i (omega arith)

begin-first : (rows : List ForwardingRow) → CoverFrom row_low row_past 0 rows → begin_of rows 0 ≡ 0
begin-first [] h = sym h
begin-first (row ∷ rows) h = h.0

-- the row at a place ends after it begins, and at 2^32 at most
pub row-order : (n : ℕ) (rows : List ForwardingRow) (i low past : ℕ) → AreForwarding n rows → i < length rows → low ≡ (get_or rows i some_row).low → past ≡ (get_or rows i some_row).past → low < past
row-order n rows i low past form l is end =
    let o : (get_or rows i some_row).low < (get_or rows i some_row).past = ordered-at row_low row_past 0 rows i some_row form.cover l in
    omega arith

pub row-bound : (n : ℕ) (rows : List ForwardingRow) (i past : ℕ) → AreForwarding n rows → i < length rows → past ≡ (get_or rows i some_row).past → past ≤ 2 ^ 32
row-bound n rows i past form l end =
    let o : (get_or rows i some_row).past ≤ 2 ^ 32 = high-at row_low row_past 0 rows i some_row form.cover l in
    omega arith

pub row-begin : (rows : List ForwardingRow) (i low past : ℕ) → i < length rows → low ≡ (get_or rows i some_row).low → past ≤ begin_of rows i → past ≤ low
row-begin rows i low past l is before =
    let o : begin_of rows i ≡ (get_or rows i some_row).low = begin-at rows i some_row l in
    omega arith

-- rows begin one after another
pub begin-order : (n : ℕ) (rows : List ForwardingRow) (i count : ℕ) → AreForwarding n rows → i + count < length rows → begin_of rows i < begin_of rows (i + suc count)
begin-order n rows i zero form l =
    let low : begin_of rows i ≡ (get_or rows i some_row).low = begin-at rows i some_row (omega arith) in
    let past : begin_of rows (suc i) ≡ (get_or rows i some_row).past = begin-next 0 rows i some_row form.cover (omega arith) in
    let o : (get_or rows i some_row).low < (get_or rows i some_row).past = ordered-at row_low row_past 0 rows i some_row form.cover (omega arith) in
    let e : suc i ≡ i + suc zero = omega arith in
    let P : ℕ → Type 0 = λ k. begin_of rows i < begin_of rows k in
    subst P e (omega arith)
begin-order n rows i (suc count) form l =
    let before : begin_of rows i < begin_of rows (i + suc count) = begin-order n rows i count form (omega arith) in
    let low : begin_of rows (i + suc count) ≡ (get_or rows (i + suc count) some_row).low = begin-at rows (i + suc count) some_row l in
    let past : begin_of rows (suc (i + suc count)) ≡ (get_or rows (i + suc count) some_row).past = begin-next 0 rows (i + suc count) some_row form.cover l in
    let o : (get_or rows (i + suc count) some_row).low < (get_or rows (i + suc count) some_row).past = ordered-at row_low row_past 0 rows (i + suc count) some_row form.cover l in
    let e : suc (i + suc count) ≡ i + suc (suc count) = omega arith in
    let P : ℕ → Type 0 = λ k. begin_of rows i < begin_of rows k in
    subst P e (omega arith)

pub begin-before : (n : ℕ) (rows : List ForwardingRow) (i j : ℕ) → AreForwarding n rows → i < j → j ≤ length rows → begin_of rows i < begin_of rows j
begin-before n rows i j form l inside =
    let e : i + suc (j - suc i) ≡ j = omega arith in
    let P : ℕ → Type 0 = λ k. begin_of rows i < begin_of rows k in
    subst P e (begin-order n rows i (j - suc i) form (omega arith))

-- where the row before a place ends
pub begin-after : (n : ℕ) (rows : List ForwardingRow) (j past : ℕ) → AreForwarding n rows → 0 < j → j ≤ length rows → past ≡ (get_or rows (j - 1) some_row).past → past ≡ begin_of rows j
begin-after n rows j past form some inside end =
    let next : begin_of rows (suc (j - 1)) ≡ (get_or rows (j - 1) some_row).past = begin-next 0 rows (j - 1) some_row form.cover (omega arith) in
    let e : suc (j - 1) ≡ j = omega arith in
    let P : ℕ → Type 0 = λ k. begin_of rows k ≡ (get_or rows (j - 1) some_row).past in
    let at : begin_of rows j ≡ (get_or rows (j - 1) some_row).past = subst P e next in
    omega arith

pub begin-is : (rows : List ForwardingRow) (i low : ℕ) → i < length rows → low ≡ (get_or rows i some_row).low → low ≡ begin_of rows i
begin-is rows i low l is =
    let at : begin_of rows i ≡ (get_or rows i some_row).low = begin-at rows i some_row l in
    omega arith

-- ---- what rows show

-- at an address of a row each router does what the row says
pub does-in-row : (n : ℕ) (rows : List ForwardingRow) (i a : ℕ) (r : RouterId) → AreForwarding n rows → i < length rows → IsInRow rows i a → does rows r a ≡ target_of (get_or rows i some_row) r
does-in-row n rows i a r form l inside =
    let low : begin_of rows i ≡ (get_or rows i some_row).low = begin-at rows i some_row l in
    let past : begin_of rows (suc i) ≡ (get_or rows i some_row).past = begin-next 0 rows i some_row form.cover l in
    let from : begin_of rows i ≤ a = inside.from in
    let to : a < begin_of rows (suc i) = inside.to in
    ap (λ (o : Option ForwardingRow). target_in_row o r) (holder-at row_low row_past 0 rows i some_row a form.cover l (omega arith) (omega arith))

pub target-is : (n : ℕ) (rows : List ForwardingRow) (i a : ℕ) (r : RouterId) (t : Target) → AreForwarding n rows → i < length rows → ((d : ForwardingRow) → t ≡ target_of (get_or rows i d) r) → IsInRow rows i a → at_address (does rows) a r ≡ t
target-is n rows i a r t form l is inside = does-in-row n rows i a r form l inside ∙ sym (is some_row)

-- the row of an address has it
pub in-row : (n : ℕ) (rows : List ForwardingRow) (i a : ℕ) → AreForwarding n rows → i < length rows → ((d : ForwardingRow) → (get_or rows i d).low ≤ a) → ((d : ForwardingRow) → a < (get_or rows i d).past) → IsInRow rows i a
in-row n rows i a form l from to =
    let low : begin_of rows i ≡ (get_or rows i some_row).low = begin-at rows i some_row l in
    let past : begin_of rows (suc i) ≡ (get_or rows i some_row).past = begin-next 0 rows i some_row form.cover l in
    let f : (get_or rows i some_row).low ≤ a = from some_row in
    let u : a < (get_or rows i some_row).past = to some_row in
    record { from = omega arith; to = omega arith }

-- an address of rows side by side is in one of them
pub row-among : (rows : List ForwardingRow) (i count a : ℕ) → begin_of rows i ≤ a → a < begin_of rows (i + count) → (m : ℕ) × ((i ≤ m) × (m < i + count) × IsInRow rows m a)
row-among rows i zero a from to =
    let e : i + zero ≡ i = omega arith in
    let P : ℕ → Type 0 = λ k. a < begin_of rows k in
    let at : a < begin_of rows i = subst P e to in
    absurd (omega arith)
row-among rows i (suc count) a from to =
    let e : i + suc count ≡ suc (i + count) = omega arith in
    let P : ℕ → Type 0 = λ k. a < begin_of rows k in
    ⊎_elim
    (λ (b : a < begin_of rows (i + count)). (let rest = row-among rows i count a from b in (rest.0, (rest.1.0, omega (arith, rest.1.1), rest.1.2))))
    (λ (b : begin_of rows (i + count) ≤ a). (i + count, (omega arith, omega arith, record { from = b; to = subst P e to })))
    (cases_lt a (begin_of rows (i + count)))

-- a router that a row leads to is one of the view's
pub leads-within : (n : ℕ) (rows : List ForwardingRow) (i : ℕ) (r s : RouterId) (k : LinkId) (t : Target) → AreForwarding n rows → i < length rows → ((d : ForwardingRow) → t ≡ target_of (get_or rows i d) r) → t ≡ To s k → s.0 < n
leads-within n rows i r s k t form l is to = (each-at n rows i some_row form.each l).within r s k (sym (is some_row) ∙ to)

-- ---- runs that are gathered

pub gathered-start : (n : ℕ) (g : Gathered) (rows : List ForwardingRow) (test : ℕ → Bool) → AreForwarding n rows → g.runs ≡ [] → g.past ≡ 0 → AreGatheredTo g rows 0 test
gathered-start n g rows test form runs past =
    let first : begin_of rows 0 ≡ 0 = begin-first rows form.cover in
    record {
      before = omega arith;
      exact = λ a l. absurd (omega arith);
      none = λ a l. ap (list_any (holds a)) runs;
    }

or-false : (b : Bool) → (b || false) ≡ b
or-false true = refl
or-false false = refl

next-place : (g : Gathered) (rows : List ForwardingRow) (i : ℕ) (test : ℕ → Bool) → AreGatheredTo g rows (suc i) test → AreGatheredTo g rows (i + 1) test
next-place g rows i test h =
    let e : suc i ≡ i + 1 = omega arith in
    let P : ℕ → Type 0 = λ k. AreGatheredTo g rows k test in
    subst P e h

-- a row whose addresses pass is added, and one whose addresses don't is left out
pub gathered-pass : (n : ℕ) (rows : List ForwardingRow) (i low past : ℕ) (old new : Gathered) (passes : Bool) (test : ℕ → Bool) → AreForwarding n rows → i < length rows → low ≡ (get_or rows i some_row).low → past ≡ (get_or rows i some_row).past → passes ≡ true → new.past ≡ past →
    ((a : ℕ) → list_any (holds a) new.runs ≡ (list_any (holds a) old.runs || is_within low past a)) → AreGatheredTo old rows i test → ((a : ℕ) → IsInRow rows i a → passes ≡ test a) → AreGatheredTo new rows (i + 1) test
gathered-pass n rows i low past old new passes test form l lo hi so end adds so_far is =
    let begin : begin_of rows i ≡ (get_or rows i some_row).low = begin-at rows i some_row l in
    let next : begin_of rows (suc i) ≡ (get_or rows i some_row).past = begin-next 0 rows i some_row form.cover l in
    let order : low < past = row-order n rows i low past form l lo hi in
    next-place new rows i test (record {
      before = omega arith;
      exact = λ a b. ⊎_elim
          (λ (k : a < low). adds a ∙ ap (λ x. list_any (holds a) old.runs || x) (within-below low past a k) ∙ or-false (list_any (holds a) old.runs) ∙ so_far.exact a (omega arith))
          (λ (k : low ≤ a). adds a ∙ or_right (list_any (holds a) old.runs) (is_within low past a) (within-yes low past a k (omega arith)) ∙ sym so ∙ is a (record { from = omega arith; to = b }))
          (cases_lt a low);
      none = λ a b. adds a ∙ or_from (list_any (holds a) old.runs) (is_within low past a) (so_far.none a (omega arith)) (within-above low past a (omega arith));
    })

pub gathered-skip : (n : ℕ) (rows : List ForwardingRow) (i : ℕ) (old : Gathered) (passes : Bool) (test : ℕ → Bool) → AreForwarding n rows → i < length rows → passes ≡ false → AreGatheredTo old rows i test → ((a : ℕ) → IsInRow rows i a → passes ≡ test a) → AreGatheredTo old rows (i + 1) test
gathered-skip n rows i old passes test form l not_so so_far is =
    let begin : begin_of rows i ≡ (get_or rows i some_row).low = begin-at rows i some_row l in
    let next : begin_of rows (suc i) ≡ (get_or rows i some_row).past = begin-next 0 rows i some_row form.cover l in
    let order : (get_or rows i some_row).low < (get_or rows i some_row).past = ordered-at row_low row_past 0 rows i some_row form.cover l in
    let before : old.past ≤ begin_of rows i = so_far.before in
    next-place old rows i test (record {
      before = omega arith;
      exact = λ a b. ⊎_elim
          (λ (k : a < begin_of rows i). so_far.exact a k)
          (λ (k : begin_of rows i ≤ a). so_far.none a k ∙ sym not_so ∙ is a (record { from = k; to = b }))
          (cases_lt a (begin_of rows i));
      none = λ a b. so_far.none a (omega arith);
    })

-- rows side by side whose addresses pass are added at once, and those whose addresses don't are left out
pub gathered-rows : (n : ℕ) (rows : List ForwardingRow) (i j low past : ℕ) (old new : Gathered) (test : ℕ → Bool) → AreForwarding n rows → i < j → j ≤ length rows → low ≡ begin_of rows i → past ≡ begin_of rows j → new.past ≡ past →
    ((a : ℕ) → list_any (holds a) new.runs ≡ (list_any (holds a) old.runs || is_within low past a)) → AreGatheredTo old rows i test → ((a : ℕ) → IsInRows rows i j a → true ≡ test a) → AreGatheredTo new rows j test
gathered-rows n rows i j low past old new test form l inside begin next end adds so_far is =
    let order : begin_of rows i < begin_of rows j = begin-before n rows i j form l inside in
    record {
      before = omega arith;
      exact = λ a b. ⊎_elim
          (λ (k : a < low). adds a ∙ ap (λ x. list_any (holds a) old.runs || x) (within-below low past a k) ∙ or-false (list_any (holds a) old.runs) ∙ so_far.exact a (omega arith))
          (λ (k : low ≤ a). adds a ∙ or_right (list_any (holds a) old.runs) (is_within low past a) (within-yes low past a k (omega arith)) ∙ is a (record { from = omega arith; to = b }))
          (cases_lt a low);
      none = λ a b. adds a ∙ or_from (list_any (holds a) old.runs) (is_within low past a) (so_far.none a (omega arith)) (within-above low past a (omega arith));
    }

pub gathered-past : (n : ℕ) (rows : List ForwardingRow) (i j : ℕ) (old : Gathered) (test : ℕ → Bool) → AreForwarding n rows → i < j → j ≤ length rows → AreGatheredTo old rows i test → ((a : ℕ) → IsInRows rows i j a → false ≡ test a) → AreGatheredTo old rows j test
gathered-past n rows i j old test form l inside so_far is =
    let order : begin_of rows i < begin_of rows j = begin-before n rows i j form l inside in
    let before : old.past ≤ begin_of rows i = so_far.before in
    record {
      before = omega arith;
      exact = λ a b. ⊎_elim
          (λ (k : a < begin_of rows i). so_far.exact a k)
          (λ (k : begin_of rows i ≤ a). so_far.none a k ∙ is a (record { from = k; to = b }))
          (cases_lt a (begin_of rows i));
      none = λ a b. so_far.none a (omega arith);
    }

-- rows side by side are gone over
pub gathered-on : (g : Gathered) (rows : List ForwardingRow) (from k : ℕ) (test : ℕ → Bool) → AreGatheredTo g rows (from + k + 1) test → AreGatheredTo g rows (from + (k + 1)) test
gathered-on g rows from k test h =
    let e : from + k + 1 ≡ from + (k + 1) = omega arith in
    let P : ℕ → Type 0 = λ i. AreGatheredTo g rows i test in
    subst P e h

-- after the last row the runs are those of all addresses that pass
pub gathered-all : (rows : List ForwardingRow) (i : ℕ) (g : Gathered) (runs : List Run) (test : ℕ → Bool) → length rows ≤ i → AreGatheredTo g rows i test → runs ≡ g.runs → AreApart runs → AreRuns runs test
gathered-all rows i g runs test l h is apart =
    let end : begin_of rows i ≡ 2 ^ 32 = begin-end rows i l in
    record { apart = apart; exact = λ a b. ap (list_any (holds a)) is ∙ h.exact a (omega arith) }

-- ---- the runs of rows

-- by their bounds
pub runs-are : (n : ℕ) (rows : List ForwardingRow) (i count : ℕ) (runs : List Run) → AreForwarding n rows → i + count ≤ length rows → ((k : ℕ) (d : Run) (r : ForwardingRow) → k < count → ((get_or runs k d).lo ≡ (get_or rows (i + k) r).low) × ((get_or runs k d).hi + 1 ≡ (get_or rows (i + k) r).past)) → AreRunsFrom rows i count runs
runs-are n rows i count runs form l h k d m =
    let inside : i + k < length rows = omega arith in
    let is = h k d some_row m in
    let begin : begin_of rows (i + k) ≡ (get_or rows (i + k) some_row).low = begin-at rows (i + k) some_row inside in
    let next : begin_of rows (suc (i + k)) ≡ (get_or rows (i + k) some_row).past = begin-next 0 rows (i + k) some_row form.cover inside in
    let P : ℕ → Type 0 = λ j. (get_or runs k d).hi + 1 ≡ begin_of rows j in
    let after : suc (i + k) ≡ i + k + 1 = omega arith in
    (is.0 ∙ sym begin, subst P after (is.1 ∙ sym next))

-- of one row
pub one-run : (n : ℕ) (rows : List ForwardingRow) (i low past : ℕ) (runs : List Run) (run : Run) → AreForwarding n rows → i < length rows → 0 < length runs → ((d : ForwardingRow) → low ≡ (get_or rows i d).low) → ((d : ForwardingRow) → past ≡ (get_or rows i d).past) → run.lo ≡ low → run.hi ≡ past - 1 → AreRunsFrom rows i 1 (slice_set runs 0 run)
one-run n rows i low past runs run form l some begin end lo hi zero d m =
    let first : low ≡ begin_of rows i = begin-is rows i low l (begin some_row) in
    let next : begin_of rows (suc i) ≡ (get_or rows i some_row).past = begin-next 0 rows i some_row form.cover l in
    let order : low < past = row-order n rows i low past form l (begin some_row) (end some_row) in
    let is : get_or (slice_set runs 0 run) 0 d ≡ run = get_or-set_same runs 0 run d some in
    let P : ℕ → Type 0 = λ k. run.lo ≡ begin_of rows k in
    let Q : ℕ → Type 0 = λ k. run.hi + 1 ≡ begin_of rows k in
    let from : run.lo ≡ begin_of rows (i + 0) = subst P (omega arith) (lo ∙ first) in
    let after : run.hi + 1 ≡ begin_of rows (suc i) = omega (arith, hi, order, next, end some_row) in
    let to : run.hi + 1 ≡ begin_of rows (i + 0 + 1) = subst Q (omega arith) after in
    (ap (λ (r : Run). r.lo) is ∙ from, ap (λ (r : Run). r.hi + 1) is ∙ to)
one-run n rows i low past runs run form l some begin end lo hi (suc k) d m = absurd (omega arith)
