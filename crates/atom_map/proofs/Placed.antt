-- A search by halving, and two parts in the place of one.
use Rattle.std.proofs.Common.{◌≡◌, ℕ, ◌+◌, ◌<◌, ◌≤◌, ◌^◌, ◌∙◌, ◌-◌, ⊎_elim, sym, suc, List, [], ◌∷◌, ◌++◌, length, get_or, set, take, drop, min, ap, subst, append_assoc, arith, lit<}
use Rattle.std.specs.List.{insert}
use Rattle.std.proofs.lemmas.Bool.{cases_lt}
use Rattle.std.proofs.lemmas.List.{get_or-drop, get_or-take, get_or_default, length-drop, length-take, take_more, set_at, length-take-le}
use Rattle.atom_map.specs.Atoms.{AreAtoms, atom_low, atom_past, row_of}
use Rattle.atom_map.specs.declared.atom_row.AtomRow.{AtomRow}
use Rattle.base.proofs.Covers.{few-rows, some-row, first-low, halved}
use Rattle.atom_map.specs.Index.{IsAtomPlace, IsLeft}

pub some-atom : (rows : List AtomRow) → AreAtoms rows → 0 < length rows
some-atom rows h = some-row atom_low atom_past 0 rows h.cover (lit< tt)

pub first-from : (rows : List AtomRow) (a : ℕ) (d : AtomRow) → AreAtoms rows → atom_low (get_or rows 0 d) ≤ a
first-from rows a d h =
    let e : atom_low (get_or rows 0 d) ≡ 0 = first-low atom_low atom_past 0 rows d h.cover (some-atom rows h) in
    omega arith

-- the atoms that don't begin above an address end after the one that has it
pub some-past : (rows : List AtomRow) (a past : ℕ) → AreAtoms rows → ((d : AtomRow) → past < length rows → a < (get_or rows past d).low) → 0 < past
some-past rows a past h after =
    ⊎_elim
    (λ (y : 0 < past). y)
    (λ (y : past ≤ 0).
    let z : past ≡ 0 = omega arith in
    let P : ℕ → Type 0 = λ n. (d : AtomRow) → n < length rows → a < (get_or rows n d).low in
    let none : AtomRow = row_of (record { 0 = 0 }) 0 0 in
    let above : a < atom_low (get_or rows 0 none) = subst P z after none (some-atom rows h) in
    let below : atom_low (get_or rows 0 none) ≤ a = first-from rows a none h in
    absurd (omega arith))
    (cases_lt 0 past)

pub left-of : (rows : List AtomRow) (a past place : ℕ) → 0 < past → place ≡ past - 1 → past ≤ length rows → ((d : AtomRow) → 0 < past → (get_or rows (past - 1) d).low ≤ a) → ((d : AtomRow) → past < length rows → a < (get_or rows past d).low) → IsLeft rows a place past
left-of rows a past place some e inside before after =
    let P : ℕ → Type 0 = λ n. (d : AtomRow) → (get_or rows n d).low ≤ a in
    record {
      order = omega arith;
      inside = inside;
      from = subst P (sym e) (λ d. before d some);
      next = after;
    }

pub found-to : (rows : List AtomRow) (place past a : ℕ) (d : AtomRow) → AreAtoms rows → IsLeft rows a place past → past ≤ suc place → a < 2 ^ 32 → a < atom_past (get_or rows place d)
found-to rows place past a d h left near b = halved atom_low atom_past rows place past d a h.cover left.order near left.inside b (left.next d)

-- one element in the place of another, and one after it
pub two-for-one : {X : Type 0} (xs : List X) (i : ℕ) (d lower upper : X) → i < length xs → set (insert xs (i + 1) upper) i lower ≡ take i xs ++ lower ∷ upper ∷ drop (i + 1) xs
two-for-one {X} xs i d lower upper l =
    ap (λ (ys : List X). set (ys ++ upper ∷ drop (i + 1) xs) i lower) (take_more xs i d l)
    ∙ ap (λ (ys : List X). set ys i lower) (append_assoc (take i xs) (get_or xs i d ∷ []) (upper ∷ drop (i + 1) xs))
    ∙ set_at (take i xs) (get_or xs i d) (upper ∷ drop (i + 1) xs) lower i (length-take-le i xs (omega arith))

-- what stands in a part of the atoms stands among all
pub run-read : (rows run : List AtomRow) (near below : ℕ) (d e : AtomRow) → take (length run) (drop near rows) ≡ run → below < length run → get_or rows (near + below) d ≡ get_or run below e
run-read rows run near below d e is l =
    sym (get_or-take (length run) (drop near rows) below d l ∙ get_or-drop near rows below d)
    ∙ ap (λ (xs : List AtomRow). get_or xs below d) is
    ∙ get_or_default run below d e l

pub run-inside : (rows run : List AtomRow) (near below : ℕ) → take (length run) (drop near rows) ≡ run → below < length run → near + below < length rows
run-inside rows run near below is l =
    let e : length (take (length run) (drop near rows)) ≡ length run = ap (λ (xs : List AtomRow). length xs) is in
    let m : length (take (length run) (drop near rows)) ≡ min (length run) (length (drop near rows)) = length-take (length run) (drop near rows) in
    let n : length (drop near rows) ≡ length rows - near = length-drop near rows in
    omega arith

pub run-few : (rows run : List AtomRow) (near below : ℕ) → AreAtoms rows → take (length run) (drop near rows) ≡ run → below < length run → near + below < 2 ^ 32
run-few rows run near below h is l =
    let inside : near + below < length rows = run-inside rows run near below is l in
    let few : 0 + length rows ≤ 2 ^ 32 = few-rows atom_low atom_past 0 rows h.cover in
    omega arith

-- and so does the atom of an address
pub run-place : (rows run : List AtomRow) (near below a : ℕ) → take (length run) (drop near rows) ≡ run → IsAtomPlace run below a → IsAtomPlace rows (near + below) a
run-place rows run near below a is p = record {
  inside = run-inside rows run near below is p.inside;
  from = λ d. subst (λ (x : AtomRow). atom_low x ≤ a) (sym (run-read rows run near below d d is p.inside)) (p.from d);
  to = λ d. subst (λ (x : AtomRow). a < atom_past x) (sym (run-read rows run near below d d is p.inside)) (p.to d);
}
