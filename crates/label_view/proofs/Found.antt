-- Rows in a list: the one of an address by looking at each, and what is known of each.
use Rattle.std.proofs.Common.{◌≡◌, ℕ, ◌+◌, ◌<◌, ◌≤◌, ◌^◌, ◌∙◌, ⊎_elim, zero, suc, List, [], ◌∷◌, length, get_or, ap, sym, subst, arith, lit<}
use Rattle.std.proofs.lemmas.Bool.{cases_lt}
use Rattle.std.proofs.lemmas.List.{get_or_read}
use Rattle.base.specs.Forwarding.{AreEachForwarding, IsForwarding, row_low, row_past}
use Rattle.base.specs.Rows.{CoverFrom}
use Rattle.base.specs.declared.forwarding_row.ForwardingRow.{ForwardingRow}
use Rattle.base.specs.declared.target.Target.{Target}
use Rattle.label_view.specs.Listed.{Listed}
use Rattle.base.proofs.Covers.{some-row, first-low, next-low, last-high}

abbrev pub Cover : List ForwardingRow → Type 0
Cover rows = CoverFrom row_low row_past 0 rows

pub first-place : (rows : List ForwardingRow) → Cover rows → 0 < length rows
first-place rows h = some-row row_low row_past 0 rows h (lit< tt)

pub first-from : (rows : List ForwardingRow) (a : ℕ) (d : ForwardingRow) → Cover rows → row_low (get_or rows 0 d) ≤ a
first-from rows a d h =
    let e : row_low (get_or rows 0 d) ≡ 0 = first-low row_low row_past 0 rows d h (first-place rows h) in
    omega arith

-- past a row that ends at the address or below it there is another one
pub next-inside : (rows : List ForwardingRow) (place a : ℕ) (row : ForwardingRow) → Cover rows → place < length rows → a < 2 ^ 32 → row ≡ get_or rows place row → row.past ≤ a → place + 1 < length rows
next-inside rows place a row h l b is to =
    let q : row.past ≡ row_past (get_or rows place row) = ap row_past is in
    ⊎_elim
    (λ (k : suc place < length rows). let s : place + 1 < length rows = omega arith in s)
    (λ (k : length rows ≤ suc place).
    let e : row_past (get_or rows place row) ≡ 2 ^ 32 = last-high row_low row_past 0 rows place row h (omega arith) in
    absurd (omega arith))
    (cases_lt (suc place) (length rows))

pub next-from : (rows : List ForwardingRow) (place a : ℕ) (row : ForwardingRow) → Cover rows → place + 1 < length rows → row ≡ get_or rows place row → row.past ≤ a → (d : ForwardingRow) → row_low (get_or rows (place + 1) d) ≤ a
next-from rows place a row h l is to d =
    let q : row.past ≡ row_past (get_or rows place d) = ap row_past (get_or_read rows place row (omega arith) is d) in
    let e : row_low (get_or rows (suc place) d) ≡ row_past (get_or rows place d) = next-low row_low row_past 0 rows place d h (omega arith) in
    let s : suc place ≡ place + 1 = omega arith in
    let P : ℕ → Type 0 = λ k. row_low (get_or rows k d) ≤ a in
    subst P s (omega arith)

pub ends-past : (rows : List ForwardingRow) (place a : ℕ) (row : ForwardingRow) → place < length rows → row ≡ get_or rows place row → a < row.past → (d : ForwardingRow) → a < row_past (get_or rows place d)
ends-past rows place a row l is to d =
    let P : ForwardingRow → Type 0 = λ r. a < row_past r in
    subst P (get_or_read rows place row l is d) to

pub each-at : (routers : ℕ) (rows : List ForwardingRow) (i : ℕ) (d : ForwardingRow) → AreEachForwarding routers rows → i < length rows → IsForwarding routers (get_or rows i d)
each-at routers [] i d h l = absurd (omega arith)
each-at routers (r ∷ rs) zero d h l = h.0
each-at routers (r ∷ rs) (suc i) d h l = each-at routers rs i d h.1 (omega arith)

-- a router of the view has a target in each row
pub target-inside : (view : Listed) (routers : ℕ) (rows slice : List ForwardingRow) (i r : ℕ) (row : ForwardingRow) (targets : List Target) → record { routers = routers; rows = rows } ≡ view → AreEachForwarding routers rows → slice ≡ rows → i < length view.rows → r < view.routers → row ≡ get_or slice i row → targets ≡ row.targets → r < length targets
target-inside view routers rows slice i r row targets e h v l b is t =
    let P : List ForwardingRow → Type 0 = λ xs. i < length xs in
    let Q : List ForwardingRow → Type 0 = λ xs. row ≡ get_or xs i row in
    let a : routers ≡ view.routers = ap (λ (x : Listed). x.routers) e in
    let k : rows ≡ view.rows = ap (λ (x : Listed). x.rows) e in
    let s : row ≡ get_or rows i row = subst Q v is in
    let label : IsForwarding routers (get_or rows i row) = each-at routers rows i row h (subst P (sym k) l) in
    let n : length row.targets ≡ routers = ap (λ (x : ForwardingRow). length x.targets) s ∙ label.all in
    let m : length targets ≡ length row.targets = ap (λ (xs : List Target). length xs) t in
    omega arith

-- a row of the view has a target of each of its routers
pub row-whole : (view : Listed) (routers : ℕ) (rows slice : List ForwardingRow) (i : ℕ) (row : ForwardingRow) (out targets : List Target) → record { routers = routers; rows = rows } ≡ view → AreEachForwarding routers rows → slice ≡ rows → i < length view.rows → length out ≡ view.routers → row ≡ get_or slice i row → targets ≡ row.targets → length out ≡ length targets
row-whole view routers rows slice i row out targets e h v l w is t =
    let P : List ForwardingRow → Type 0 = λ xs. i < length xs in
    let Q : List ForwardingRow → Type 0 = λ xs. row ≡ get_or xs i row in
    let a : routers ≡ view.routers = ap (λ (x : Listed). x.routers) e in
    let k : rows ≡ view.rows = ap (λ (x : Listed). x.rows) e in
    let s : row ≡ get_or rows i row = subst Q v is in
    let label : IsForwarding routers (get_or rows i row) = each-at routers rows i row h (subst P (sym k) l) in
    let n : length row.targets ≡ routers = ap (λ (x : ForwardingRow). length x.targets) s ∙ label.all in
    let m : length targets ≡ length row.targets = ap (λ (xs : List Target). length xs) t in
    omega arith
