-- Rows of a part: they cover the addresses once, and show what the whole rows show.
use Rattle.std.proofs.Common.{◌≡◌, ℕ, zero, suc, ◌+◌, ◌-◌, ◌<◌, ◌≤◌, ◌^◌, ◌∙◌, ⊎_elim, Bool, true, false, cond, ltb, Option, Some, List, [], ◌∷◌, ◌++◌, length, take, drop, min, replicate, get_or, set, refl, ap, sym, subst, arith}
use Rattle.std.proofs.Math.Nat.{min-le_left, min-le_right}
use Rattle.std.proofs.lemmas.Bool.{cases_lt, cond-true, cond-false, lt-ltb, le-ltb}
use Rattle.std.proofs.lemmas.List.{ext_get_or, get_or-replicate, get_or-set_same, length-append, length-drop, length-take-le, get_or-take, get_or-drop, get_or_append_left, get_or-append_right}
use Rattle.base.specs.Forwarding.{AreEachForwarding, AreForwarding, IsForwarding, row_low, row_past, forwarding_at, target_in_row, target_of}
use Rattle.base.specs.Rows.{CoverFrom, is_within}
use Rattle.base.specs.declared.forwarding_row.ForwardingRow.{ForwardingRow}
use Rattle.base.specs.declared.ids.LinkId.{LinkId}
use Rattle.base.specs.declared.ids.RouterId.{RouterId}
use Rattle.base.specs.declared.target.Target.{Target}
use Rattle.base.specs.declared.target.Target.TheVariants.{Local, NoRoute, To}
use Rattle.base.proofs.Covers.{few-rows, holder-first, holder-rest, starts-below, within-above, within-yes}
use Rattle.label_view.specs.Places.{IsInRow, begin_of}
use Rattle.label_view.proofs.InRow.{in-row}
use Rattle.par_scan.specs.Parts.{ShowsPart, idle_row, idle_rows, part_of}

abbrev Cover : ℕ → List ForwardingRow → Type 0
Cover start rows = CoverFrom row_low row_past start rows

-- ---- where rows begin

pub begin-from : (start : ℕ) (rows : List ForwardingRow) (i : ℕ) → Cover start rows → start ≤ begin_of rows i
begin-from start [] i h = omega (arith, h)
begin-from start (row ∷ rows) zero h = omega (arith, h.0)
begin-from start (row ∷ rows) (suc i) h =
    let rest : row.past ≤ begin_of rows i = begin-from row.past rows i h.2 in
    let e : row.low ≡ start = h.0 in
    let o : row.low < row.past = h.1 in
    omega arith

pub begin-rises : (start : ℕ) (rows : List ForwardingRow) (i j : ℕ) → Cover start rows → i ≤ j → begin_of rows i ≤ begin_of rows j
begin-rises start [] i j h l = omega arith
begin-rises start (row ∷ rows) zero j h l =
    let from : start ≤ begin_of (row ∷ rows) j = begin-from start (row ∷ rows) j h in
    let e : row.low ≡ start = h.0 in
    omega arith
begin-rises start (row ∷ rows) (suc i) zero h l = absurd (omega arith)
begin-rises start (row ∷ rows) (suc i) (suc j) h l = begin-rises row.past rows i j h.2 (omega arith)

pub begin-bound : (start : ℕ) (rows : List ForwardingRow) (i : ℕ) → Cover start rows → begin_of rows i ≤ 2 ^ 32
begin-bound start [] i h = omega arith
begin-bound start (row ∷ rows) zero h =
    let from : start ≤ 2 ^ 32 = starts-below row_low row_past start (row ∷ rows) h in
    let e : row.low ≡ start = h.0 in
    omega arith
begin-bound start (row ∷ rows) (suc i) h = begin-bound row.past rows i h.2

pub begin-first : (rows : List ForwardingRow) → Cover 0 rows → begin_of rows 0 ≡ 0
begin-first [] h = sym h
begin-first (row ∷ rows) h = h.0

pub begin-end : (rows : List ForwardingRow) (i : ℕ) → length rows ≤ i → begin_of rows i ≡ 2 ^ 32
begin-end [] i l = refl
begin-end (row ∷ rows) zero l = absurd (omega arith)
begin-end (row ∷ rows) (suc i) l = begin-end rows i (omega arith)

pub begin-at : (rows : List ForwardingRow) (i : ℕ) (d : ForwardingRow) → i < length rows → begin_of rows i ≡ (get_or rows i d).low
begin-at [] i d l = absurd (omega arith)
begin-at (row ∷ rows) zero d l = refl
begin-at (row ∷ rows) (suc i) d l = begin-at rows i d (omega arith)

begin-drop : (rows : List ForwardingRow) (from i : ℕ) → begin_of (drop from rows) i ≡ begin_of rows (from + i)
begin-drop [] zero i = refl
begin-drop [] (suc from) i = refl
begin-drop (row ∷ rows) zero i = ap (begin_of (row ∷ rows)) (let e : i ≡ 0 + i = omega arith in e)
begin-drop (row ∷ rows) (suc from) i = begin-drop rows from i ∙ ap (begin_of (row ∷ rows)) (let e : suc (from + i) ≡ suc from + i = omega arith in e)

-- ---- rows that stay

some-idle : (n low past : ℕ) → low < past → idle_rows n low past ≡ idle_row n low past ∷ []
some-idle n low past l = cond-true _ _ _ (lt-ltb low past l)

none-idle : (n low past : ℕ) → past ≤ low → idle_rows n low past ≡ []
none-idle n low past l = cond-false _ _ _ (le-ltb low past l)

pub idle-stays : (n k : ℕ) (s : RouterId) (l : LinkId) → get_or (replicate n Local) k NoRoute ≡ To s l → ⊥
idle-stays zero k s l e = cc
idle-stays (suc n) zero s l e = cc
idle-stays (suc n) (suc k) s l e = idle-stays n k s l e

pub idle-local : (n k : ℕ) → k < n → get_or (replicate n Local) k NoRoute ≡ Local
idle-local zero k l = absurd (omega arith)
idle-local (suc n) zero l = refl
idle-local (suc n) (suc k) l = idle-local n k (omega arith)

idle-length : (n : ℕ) → length (replicate n Local) ≡ n
idle-length zero = refl
idle-length (suc n) = ap suc (idle-length n)

idle-form : (n low past : ℕ) → IsForwarding n (idle_row n low past)
idle-form n low past = record { all = idle-length n; within = λ r s l e. absurd (idle-stays n r.0 s l e) }

-- ---- the rows cover the addresses once

cover-drop : (start : ℕ) (rows : List ForwardingRow) (from : ℕ) → Cover start rows → Cover (begin_of rows from) (drop from rows)
cover-drop start [] zero h = refl
cover-drop start [] (suc from) h = refl
cover-drop start (row ∷ rows) zero h = (refl, h.1, h.2)
cover-drop start (row ∷ rows) (suc from) h = cover-drop row.past rows from h.2

cover-take : (start : ℕ) (rows : List ForwardingRow) (count : ℕ) (tail : List ForwardingRow) → Cover start rows → Cover (begin_of rows count) tail → Cover start (take count rows ++ tail)
cover-take start [] zero tail h t = (let P : ℕ → Type 0 = λ k. Cover k tail in subst P (sym h) t)
cover-take start [] (suc count) tail h t = (let P : ℕ → Type 0 = λ k. Cover k tail in subst P (sym h) t)
cover-take start (row ∷ rows) zero tail h t = (let P : ℕ → Type 0 = λ k. Cover k tail in subst P h.0 t)
cover-take start (row ∷ rows) (suc count) tail h t = (h.0, h.1, cover-take row.past rows count tail h.2 t)

cover-idle : (n low past : ℕ) (tail : List ForwardingRow) → low ≤ past → Cover past tail → Cover low (idle_rows n low past ++ tail)
cover-idle n low past tail o t = ⊎_elim
    (λ (l : low < past).
    let P : List ForwardingRow → Type 0 = λ rows. Cover low (rows ++ tail) in
    subst P (sym (some-idle n low past l)) (refl, l, t))
    (λ (l : past ≤ low).
    let P : List ForwardingRow → Type 0 = λ rows. Cover low (rows ++ tail) in
    let Q : ℕ → Type 0 = λ k. Cover k tail in
    let e : past ≡ low = omega arith in
    subst P (sym (none-idle n low past l)) (subst Q e t))
    (cases_lt low past)

cover-last : (n low : ℕ) → low ≤ 2 ^ 32 → Cover low (idle_rows n low (2 ^ 32))
cover-last n low o = ⊎_elim
    (λ (l : low < 2 ^ 32).
    let P : List ForwardingRow → Type 0 = λ rows. Cover low rows in
    subst P (sym (some-idle n low (2 ^ 32) l)) (refl, l, refl))
    (λ (l : 2 ^ 32 ≤ low).
    let P : List ForwardingRow → Type 0 = λ rows. Cover low rows in
    let e : low ≡ 2 ^ 32 = omega arith in
    subst P (sym (none-idle n low (2 ^ 32) l)) e)
    (cases_lt low (2 ^ 32))

cover-part : (n : ℕ) (rows : List ForwardingRow) (from count : ℕ) → Cover 0 rows → Cover 0 (part_of n rows from count)
cover-part n rows from count h =
    let P : ℕ → Type 0 = λ k. Cover k (idle_rows n (begin_of rows (from + count)) (2 ^ 32)) in
    cover-idle n 0 (begin_of rows from) _ (omega arith)
    (cover-take (begin_of rows from) (drop from rows) count _ (cover-drop 0 rows from h)
    (subst P (sym (begin-drop rows from count)) (cover-last n (begin_of rows (from + count)) (begin-bound 0 rows (from + count) h))))

-- ---- each row is of so many routers

each-drop : (n : ℕ) (rows : List ForwardingRow) (from : ℕ) → AreEachForwarding n rows → AreEachForwarding n (drop from rows)
each-drop n [] zero h = tt
each-drop n [] (suc from) h = tt
each-drop n (row ∷ rows) zero h = h
each-drop n (row ∷ rows) (suc from) h = each-drop n rows from h.1

each-take : (n : ℕ) (rows : List ForwardingRow) (count : ℕ) (tail : List ForwardingRow) → AreEachForwarding n rows → AreEachForwarding n tail → AreEachForwarding n (take count rows ++ tail)
each-take n [] zero tail h t = t
each-take n [] (suc count) tail h t = t
each-take n (row ∷ rows) zero tail h t = t
each-take n (row ∷ rows) (suc count) tail h t = (h.0, each-take n rows count tail h.1 t)

each-idle : (n low past : ℕ) (tail : List ForwardingRow) → AreEachForwarding n tail → AreEachForwarding n (idle_rows n low past ++ tail)
each-idle n low past tail t =
    let P : List ForwardingRow → Type 0 = λ rows. AreEachForwarding n (rows ++ tail) in
    ⊎_elim
    (λ (l : low < past). subst P (sym (some-idle n low past l)) (idle-form n low past, t))
    (λ (l : past ≤ low). subst P (sym (none-idle n low past l)) t)
    (cases_lt low past)

each-last : (n low past : ℕ) → AreEachForwarding n (idle_rows n low past)
each-last n low past =
    let P : List ForwardingRow → Type 0 = λ rows. AreEachForwarding n rows in
    ⊎_elim
    (λ (l : low < past). subst P (sym (some-idle n low past l)) (idle-form n low past, tt))
    (λ (l : past ≤ low). subst P (sym (none-idle n low past l)) tt)
    (cases_lt low past)

pub part-form : (n : ℕ) (rows : List ForwardingRow) (from count : ℕ) → AreForwarding n rows → AreForwarding n (part_of n rows from count)
part-form n rows from count form = record {
  few = form.few;
  cover = cover-part n rows from count form.cover;
  each = each-idle n 0 (begin_of rows from) _ (each-take n (drop from rows) count _ (each-drop n rows from form.each) (each-last n (begin_of rows (from + count)) (2 ^ 32)));
}

-- ---- the row of an address

holder-idle-in : (n low past : ℕ) (tail : List ForwardingRow) (a : ℕ) → low ≤ a → a < past → forwarding_at (idle_rows n low past ++ tail) a ≡ Some (idle_row n low past)
holder-idle-in n low past tail a l k =
    ap (λ (rows : List ForwardingRow). forwarding_at (rows ++ tail) a) (some-idle n low past (omega arith)) ∙ holder-first row_low row_past (idle_row n low past) tail a (within-yes low past a l k)

holder-idle-out : (n low past : ℕ) (tail : List ForwardingRow) (a : ℕ) → is_within low past a ≡ false → forwarding_at (idle_rows n low past ++ tail) a ≡ forwarding_at tail a
holder-idle-out n low past tail a out = ⊎_elim
    (λ (l : low < past). ap (λ (rows : List ForwardingRow). forwarding_at (rows ++ tail) a) (some-idle n low past l) ∙ holder-rest row_low row_past (idle_row n low past) tail a out)
    (λ (l : past ≤ low). ap (λ (rows : List ForwardingRow). forwarding_at (rows ++ tail) a) (none-idle n low past l))
    (cases_lt low past)

holder-last : (n low a : ℕ) → low ≤ a → a < 2 ^ 32 → forwarding_at (idle_rows n low (2 ^ 32)) a ≡ Some (idle_row n low (2 ^ 32))
holder-last n low a l k =
    ap (λ (rows : List ForwardingRow). forwarding_at rows a) (some-idle n low (2 ^ 32) (omega arith)) ∙ holder-first row_low row_past (idle_row n low (2 ^ 32)) [] a (within-yes low (2 ^ 32) a l k)

holder-drop : (start : ℕ) (rows : List ForwardingRow) (from a : ℕ) → Cover start rows → begin_of rows from ≤ a → forwarding_at (drop from rows) a ≡ forwarding_at rows a
holder-drop start [] zero a h l = refl
holder-drop start [] (suc from) a h l = refl
holder-drop start (row ∷ rows) zero a h l = refl
holder-drop start (row ∷ rows) (suc from) a h l =
    let f : row.past ≤ begin_of rows from = begin-from row.past rows from h.2 in
    holder-drop row.past rows from a h.2 l ∙ sym (holder-rest row_low row_past row rows a (within-above row.low row.past a (omega arith)))

holder-take : (start : ℕ) (rows : List ForwardingRow) (count : ℕ) (tail : List ForwardingRow) (a : ℕ) → Cover start rows → start ≤ a → a < begin_of rows count → forwarding_at (take count rows ++ tail) a ≡ forwarding_at rows a
holder-take start [] count tail a h l k = absurd (omega (arith, h))
holder-take start (row ∷ rows) zero tail a h l k = absurd (omega (arith, h.0))
holder-take start (row ∷ rows) (suc count) tail a h l k =
    let e : row.low ≡ start = h.0 in
    ⊎_elim
    (λ (k' : a < row.past).
    let w : is_within row.low row.past a ≡ true = within-yes row.low row.past a (omega arith) k' in
    holder-first row_low row_past row (take count rows ++ tail) a w ∙ sym (holder-first row_low row_past row rows a w))
    (λ (out : row.past ≤ a).
    let w : is_within row.low row.past a ≡ false = within-above row.low row.past a out in
    holder-rest row_low row_past row (take count rows ++ tail) a w ∙ holder-take row.past rows count tail a h.2 out k ∙ sym (holder-rest row_low row_past row rows a w))
    (cases_lt a row.past)

holder-past : (start : ℕ) (rows : List ForwardingRow) (count : ℕ) (tail : List ForwardingRow) (a : ℕ) → Cover start rows → begin_of rows count ≤ a → forwarding_at (take count rows ++ tail) a ≡ forwarding_at tail a
holder-past start [] zero tail a h l = refl
holder-past start [] (suc count) tail a h l = refl
holder-past start (row ∷ rows) zero tail a h l = refl
holder-past start (row ∷ rows) (suc count) tail a h l =
    let f : row.past ≤ begin_of rows count = begin-from row.past rows count h.2 in
    holder-rest row_low row_past row (take count rows ++ tail) a (within-above row.low row.past a (omega arith)) ∙ holder-past row.past rows count tail a h.2 l

shows-count : (n : ℕ) (rows : List ForwardingRow) (from count : ℕ) → AreForwarding n rows → ShowsPart n rows (part_of n rows from count) (begin_of rows from) (begin_of rows (from + count))
shows-count n rows from count form =
    let low : ℕ = begin_of rows from in
    let past : ℕ = begin_of rows (from + count) in
    let mid : List ForwardingRow = drop from rows in
    let last : List ForwardingRow = idle_rows n past (2 ^ 32) in
    let c : Cover low mid = cover-drop 0 rows from form.cover in
    let end : begin_of mid count ≡ past = begin-drop rows from count in
    let order : low ≤ past = begin-rises 0 rows from (from + count) form.cover (omega arith) in
    record {
      inside = λ r a l k. ap (λ (o : Option ForwardingRow). target_in_row o r)
          (holder-idle-out n 0 low (take count mid ++ last) a (within-above 0 low a l) ∙ holder-take low mid count last a c l (omega arith) ∙ holder-drop 0 rows from a form.cover l);
      outside = λ r a b o. ⊎_elim
          (λ (l : a < low). ap (λ (o : Option ForwardingRow). target_in_row o r) (holder-idle-in n 0 low (take count mid ++ last) a (omega arith) l))
          (λ (l : past ≤ a). ap (λ (o : Option ForwardingRow). target_in_row o r) (holder-idle-out n 0 low (take count mid ++ last) a (within-above 0 low a (omega arith)) ∙ holder-past low mid count last a c (omega arith) ∙ holder-last n past a l b))
          o;
    }

pub shows-part : (n : ℕ) (rows : List ForwardingRow) (from to : ℕ) → AreForwarding n rows → from ≤ to → ShowsPart n rows (part_of n rows from (to - from)) (begin_of rows from) (begin_of rows to)
shows-part n rows from to form o =
    let e : from + (to - from) ≡ to = omega arith in
    let P : ℕ → Type 0 = λ k. ShowsPart n rows (part_of n rows from (to - from)) (begin_of rows from) (begin_of rows k) in
    subst P e (shows-count n rows from (to - from) form)

-- ---- rows by place

abbrev one_if : Bool → ℕ
one_if b = cond b 1 0

before-length : (n low past : ℕ) → length (idle_rows n low past) ≡ one_if (ltb low past)
before-length n low past = ⊎_elim
    (λ (l : low < past). ap length (some-idle n low past l) ∙ sym (cond-true (ltb low past) 1 0 (lt-ltb low past l)))
    (λ (l : past ≤ low). ap length (none-idle n low past l) ∙ sym (cond-false (ltb low past) 1 0 (le-ltb low past l)))
    (cases_lt low past)

pub part-length : (n : ℕ) (rows : List ForwardingRow) (from count low past before after : ℕ) → from + count ≤ length rows → low ≡ begin_of rows from → past ≡ begin_of rows (from + count) → before ≡ one_if (ltb 0 low) → after ≡ one_if (ltb past (2 ^ 32)) → length (part_of n rows from count) ≡ before + count + after
part-length n rows from count low past before after l is_low is_past b f =
    let B : length (idle_rows n 0 (begin_of rows from)) ≡ before = before-length n 0 (begin_of rows from) ∙ ap (λ k. one_if (ltb 0 k)) (sym is_low) ∙ sym b in
    let A : length (idle_rows n (begin_of rows (from + count)) (2 ^ 32)) ≡ after = before-length n (begin_of rows (from + count)) (2 ^ 32) ∙ ap (λ k. one_if (ltb k (2 ^ 32))) (sym is_past) ∙ sym f in
    let D : length (drop from rows) ≡ length rows - from = length-drop from rows in
    let M : length (take count (drop from rows)) ≡ count = length-take-le count (drop from rows) (omega arith) in
    let S : length (take count (drop from rows) ++ idle_rows n (begin_of rows (from + count)) (2 ^ 32)) ≡ length (take count (drop from rows)) + length (idle_rows n (begin_of rows (from + count)) (2 ^ 32)) = length-append _ _ in
    let W : length (part_of n rows from count) ≡ length (idle_rows n 0 (begin_of rows from)) + length (take count (drop from rows) ++ idle_rows n (begin_of rows (from + count)) (2 ^ 32)) = length-append _ _ in
    omega arith

-- the row before, the rows between, and the row after
pub part-first : (n : ℕ) (rows : List ForwardingRow) (from count low : ℕ) (d : ForwardingRow) → low ≡ begin_of rows from → 0 < low → get_or (part_of n rows from count) 0 d ≡ idle_row n 0 low
part-first n rows from count low d is l =
    let tail : List ForwardingRow = take count (drop from rows) ++ idle_rows n (begin_of rows (from + count)) (2 ^ 32) in
    ap (λ (xs : List ForwardingRow). get_or (xs ++ tail) 0 d) (some-idle n 0 (begin_of rows from) (omega arith)) ∙ ap (idle_row n 0) (sym is)

pub part-between : (n : ℕ) (rows : List ForwardingRow) (from count low before i : ℕ) (d : ForwardingRow) → from + count ≤ length rows → low ≡ begin_of rows from → before ≡ one_if (ltb 0 low) → before ≤ i → i - before < count → get_or (part_of n rows from count) i d ≡ get_or rows (from + (i - before)) d
part-between n rows from count low before i d l is_low b o k =
    let last : List ForwardingRow = idle_rows n (begin_of rows (from + count)) (2 ^ 32) in
    let B : length (idle_rows n 0 (begin_of rows from)) ≡ before = before-length n 0 (begin_of rows from) ∙ ap (λ k. one_if (ltb 0 k)) (sym is_low) ∙ sym b in
    let D : length (drop from rows) ≡ length rows - from = length-drop from rows in
    let M : length (take count (drop from rows)) ≡ count = length-take-le count (drop from rows) (omega arith) in
    get_or-append_right (idle_rows n 0 (begin_of rows from)) (take count (drop from rows) ++ last) before i d B o
    ∙ get_or_append_left (take count (drop from rows)) last d (i - before) (omega arith)
    ∙ get_or-take count (drop from rows) (i - before) d k
    ∙ get_or-drop from rows (i - before) d

pub part-last : (n : ℕ) (rows : List ForwardingRow) (from count low past before i : ℕ) (d : ForwardingRow) → from + count ≤ length rows → low ≡ begin_of rows from → past ≡ begin_of rows (from + count) → before ≡ one_if (ltb 0 low) → before + count ≤ i → i < length (part_of n rows from count) → (get_or (part_of n rows from count) i d ≡ idle_row n past (2 ^ 32)) × (past < 2 ^ 32)
part-last n rows from count low past before i d l is_low is_past b o k =
    let last : List ForwardingRow = idle_rows n (begin_of rows (from + count)) (2 ^ 32) in
    let B : length (idle_rows n 0 (begin_of rows from)) ≡ before = before-length n 0 (begin_of rows from) ∙ ap (λ k. one_if (ltb 0 k)) (sym is_low) ∙ sym b in
    let D : length (drop from rows) ≡ length rows - from = length-drop from rows in
    let M : length (take count (drop from rows)) ≡ count = length-take-le count (drop from rows) (omega arith) in
    let L : length (part_of n rows from count) ≡ before + count + one_if (ltb past (2 ^ 32)) = part-length n rows from count low past before (one_if (ltb past (2 ^ 32))) l is_low is_past b refl in
    ⊎_elim
    (λ (some : past < 2 ^ 32).
    let one : one_if (ltb past (2 ^ 32)) ≡ 1 = cond-true (ltb past (2 ^ 32)) 1 0 (lt-ltb past (2 ^ 32) some) in
    let at : i - before - count ≡ 0 = omega arith in (
      get_or-append_right (idle_rows n 0 (begin_of rows from)) (take count (drop from rows) ++ last) before i d B (omega arith)
          ∙ get_or-append_right (take count (drop from rows)) last count (i - before) d M (omega arith)
          ∙ ap (λ (xs : List ForwardingRow). get_or xs (i - before - count) d) (some-idle n (begin_of rows (from + count)) (2 ^ 32) (omega arith))
          ∙ ap (λ j. get_or (idle_row n (begin_of rows (from + count)) (2 ^ 32) ∷ []) j d) at
          ∙ ap (λ j. idle_row n j (2 ^ 32)) (sym is_past),
      some,
    ))
    (λ (none : 2 ^ 32 ≤ past).
    let zero : one_if (ltb past (2 ^ 32)) ≡ 0 = cond-false (ltb past (2 ^ 32)) 1 0 (le-ltb past (2 ^ 32) none) in
    absurd (omega arith))
    (cases_lt past (2 ^ 32))

pub few-between : (rows : List ForwardingRow) (from to : ℕ) → Cover 0 rows → from ≤ to → to ≤ length rows → from + (to - from) ≤ 2 ^ 32
few-between rows from to h o l =
    let few : 0 + length rows ≤ 2 ^ 32 = few-rows row_low row_past 0 rows h in
    omega arith

pub ends-at : (rows : List ForwardingRow) (from to past : ℕ) → from ≤ to → past ≡ begin_of rows to → past ≡ begin_of rows (from + (to - from))
ends-at rows from to past o is = is ∙ ap (begin_of rows) (let e : to ≡ from + (to - from) = omega arith in e)

-- what is done with the addresses of the rows before and after
pub idle-target : (n low past : ℕ) (row : ForwardingRow) (r : RouterId) → r.0 < n → row ≡ idle_row n low past → Local ≡ target_of row r
idle-target n low past row r l is = sym (ap (λ (x : ForwardingRow). target_of x r) is ∙ idle-local n r.0 l)

pub target-before : (n : ℕ) (rows : List ForwardingRow) (from count low before i : ℕ) (d : ForwardingRow) (r : RouterId) → low ≡ begin_of rows from → before ≡ one_if (ltb 0 low) → i < before → r.0 < n → Local ≡ target_of (get_or (part_of n rows from count) i d) r
target-before n rows from count low before i d r is_low b k l = ⊎_elim
    (λ (some : 0 < low).
    let one : one_if (ltb 0 low) ≡ 1 = cond-true (ltb 0 low) 1 0 (lt-ltb 0 low some) in
    let at : 0 ≡ i = omega arith in
    let P : ℕ → Type 0 = λ j. Local ≡ target_of (get_or (part_of n rows from count) j d) r in
    subst P at (idle-target n 0 low _ r l (part-first n rows from count low d is_low some)))
    (λ (none : low ≤ 0).
    let zero : one_if (ltb 0 low) ≡ 0 = cond-false (ltb 0 low) 1 0 (le-ltb 0 low none) in
    absurd (omega arith))
    (cases_lt 0 low)

pub target-after : (n : ℕ) (rows : List ForwardingRow) (from count low past before i : ℕ) (d : ForwardingRow) (r : RouterId) → from + count ≤ length rows → low ≡ begin_of rows from → past ≡ begin_of rows (from + count) → before ≡ one_if (ltb 0 low) → before + count ≤ i → i < length (part_of n rows from count) → r.0 < n → Local ≡ target_of (get_or (part_of n rows from count) i d) r
target-after n rows from count low past before i d r l is_low is_past b o k few =
    idle-target n past (2 ^ 32) _ r few (part-last n rows from count low past before i d l is_low is_past b o k).0

-- what is read of a column: the one target of a row before or after, or those of rows between
pub one-idle : (part : List ForwardingRow) (i : ℕ) (r : RouterId) (out : List Target) → 0 < length out → ((d : ForwardingRow) → Local ≡ target_of (get_or part i d) r) → (k : ℕ) (d : ForwardingRow) (e : Target) → k < 1 → get_or (set out 0 Local) k e ≡ target_of (get_or part (i + k) d) r
one-idle part i r out l is = λ k d e b.
    let first : k ≡ 0 = omega arith in
    let at : i ≡ i + k = omega arith in
    ap (λ j. get_or (set out 0 Local) j e) first ∙ get_or-set_same out 0 Local e l ∙ is d ∙ ap (λ j. target_of (get_or part j d) r) at

pub column-between : (n : ℕ) (rows : List ForwardingRow) (from count low before i read most : ℕ) (r : RouterId) (out : List Target) → from + count ≤ length rows → low ≡ begin_of rows from → before ≡ one_if (ltb 0 low) → before ≤ i → i - before < count → most ≡ min read (count - (i - before)) → ((k : ℕ) (d : ForwardingRow) (e : Target) → k < read → get_or out k e ≡ target_of (get_or rows (from + (i - before) + k) d) r) → (k : ℕ) (d : ForwardingRow) (e : Target) → k < most → get_or out k e ≡ target_of (get_or (part_of n rows from count) (i + k) d) r
column-between n rows from count low before i read most r out l is_low b o c few is = λ k d e m.
    let left : min read (count - (i - before)) ≤ read = min-le_left read (count - (i - before)) in
    let right : min read (count - (i - before)) ≤ count - (i - before) = min-le_right read (count - (i - before)) in
    let at : from + (i - before) + k ≡ from + (i + k - before) = omega arith in
    is k d e (omega arith)
    ∙ ap (λ j. target_of (get_or rows j d) r) at
    ∙ ap (λ (row : ForwardingRow). target_of row r) (sym (part-between n rows from count low before (i + k) d l is_low b (omega arith) (omega arith)))

-- what is read of a row
idle-targets : (n low past : ℕ) (row : ForwardingRow) (out : List Target) → length out ≡ n → ((k : ℕ) → k < length out → get_or out k Local ≡ Local) → row ≡ idle_row n low past → out ≡ row.targets
idle-targets n low past row out w all is =
    let same : length out ≡ length (replicate n Local) = w ∙ sym (idle-length n) in
    ext_get_or Local out (replicate n Local) same (λ k b. all k b ∙ sym (get_or-replicate n k Local Local (omega arith)))
    ∙ sym (ap (λ (x : ForwardingRow). x.targets) is)

pub row-before : (n : ℕ) (rows : List ForwardingRow) (from count low before i : ℕ) (out : List Target) → low ≡ begin_of rows from → before ≡ one_if (ltb 0 low) → i < before → length out ≡ n → ((k : ℕ) → k < length out → get_or out k Local ≡ Local) → (d : ForwardingRow) → out ≡ (get_or (part_of n rows from count) i d).targets
row-before n rows from count low before i out is_low b k w all = λ d. ⊎_elim
    (λ (some : 0 < low).
    let one : one_if (ltb 0 low) ≡ 1 = cond-true (ltb 0 low) 1 0 (lt-ltb 0 low some) in
    let at : 0 ≡ i = omega arith in
    let P : ℕ → Type 0 = λ j. out ≡ (get_or (part_of n rows from count) j d).targets in
    subst P at (idle-targets n 0 low _ out w all (part-first n rows from count low d is_low some)))
    (λ (none : low ≤ 0).
    let zero : one_if (ltb 0 low) ≡ 0 = cond-false (ltb 0 low) 1 0 (le-ltb 0 low none) in
    absurd (omega arith))
    (cases_lt 0 low)

pub row-between : (n : ℕ) (rows : List ForwardingRow) (from count low before i : ℕ) (out : List Target) → from + count ≤ length rows → low ≡ begin_of rows from → before ≡ one_if (ltb 0 low) → before ≤ i → i - before < count → ((d : ForwardingRow) → out ≡ (get_or rows (from + (i - before)) d).targets) → (d : ForwardingRow) → out ≡ (get_or (part_of n rows from count) i d).targets
row-between n rows from count low before i out l is_low b o c is = λ d. is d ∙ ap (λ (row : ForwardingRow). row.targets) (sym (part-between n rows from count low before i d l is_low b o c))

pub row-after : (n : ℕ) (rows : List ForwardingRow) (from count low past before i : ℕ) (out : List Target) → from + count ≤ length rows → low ≡ begin_of rows from → past ≡ begin_of rows (from + count) → before ≡ one_if (ltb 0 low) → before + count ≤ i → i < length (part_of n rows from count) → length out ≡ n → ((k : ℕ) → k < length out → get_or out k Local ≡ Local) → (d : ForwardingRow) → out ≡ (get_or (part_of n rows from count) i d).targets
row-after n rows from count low past before i out l is_low is_past b o k w all = λ d. idle-targets n past (2 ^ 32) _ out w all (part-last n rows from count low past before i d l is_low is_past b o k).0

-- ---- the row of an address

pub place-from : (n : ℕ) (rows : List ForwardingRow) (from place a low : ℕ) → AreForwarding n rows → low ≡ begin_of rows from → low ≤ a → place < length rows → ((d : ForwardingRow) → (get_or rows place d).low ≤ a) → ((d : ForwardingRow) → a < (get_or rows place d).past) → from ≤ place
place-from n rows from place a low form is l k f t =
    let h : IsInRow rows place a = in-row n rows place a form k f t in
    ⊎_elim
    (λ (bad : place < from).
    let to : a < begin_of rows (suc place) = h.to in
    let up : begin_of rows (suc place) ≤ begin_of rows from = begin-rises 0 rows (suc place) from form.cover (omega arith) in
    absurd (omega arith))
    (λ (good : from ≤ place). good)
    (cases_lt place from)

pub place-to : (n : ℕ) (rows : List ForwardingRow) (past_place place a past : ℕ) → AreForwarding n rows → past ≡ begin_of rows past_place → a < past → place < length rows → ((d : ForwardingRow) → (get_or rows place d).low ≤ a) → ((d : ForwardingRow) → a < (get_or rows place d).past) → place < past_place
place-to n rows past_place place a past form is l k f t =
    let h : IsInRow rows place a = in-row n rows place a form k f t in
    ⊎_elim
    (λ (good : place < past_place). good)
    (λ (bad : past_place ≤ place).
    let from : begin_of rows place ≤ a = h.from in
    let up : begin_of rows past_place ≤ begin_of rows place = begin-rises 0 rows past_place place form.cover bad in
    absurd (omega arith))
    (cases_lt place past_place)

pub place-row : (n : ℕ) (rows : List ForwardingRow) (from count low before place : ℕ) (d : ForwardingRow) → from + count ≤ length rows → low ≡ begin_of rows from → before ≡ one_if (ltb 0 low) → from ≤ place → place < from + count → get_or (part_of n rows from count) (place - from + before) d ≡ get_or rows place d
place-row n rows from count low before place d l is_low b f t =
    let e : from + (place - from + before - before) ≡ place = omega arith in
    part-between n rows from count low before (place - from + before) d l is_low b (omega arith) (omega arith) ∙ ap (λ j. get_or rows j d) e
