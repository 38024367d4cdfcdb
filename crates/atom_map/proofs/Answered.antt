-- What the calls answer, from what a search found.
use Rattle.std.proofs.Common.{◌≡◌, ℕ, ◌+◌, ◌<◌, ◌≤◌, ◌^◌, ◌∙◌, suc, true, false, eqb, Some, option_map, Contains, List, [], ◌∷◌, ◌++◌, length, get_or, set, map, take, drop, ap, sym, subst, append_assoc, arith}
use Rattle.std.specs.List.{insert}
use Rattle.std.proofs.lemmas.Bool.{eq-eqb}
use Rattle.std.proofs.lemmas.List.Folds.{list_any_at}
use Rattle.atom_map.specs.Atoms.{AreAtoms, atom_of, bounds_of, atoms_in, atom_low, atom_past, row_at, row_of, is_boundary, lower_part, upper_part, cut_rows}
use Rattle.atom_map.specs.declared.atom_row.AtomRow.{AtomRow}
use Rattle.base.specs.declared.ids.AtomId.{AtomId}
use Rattle.base.proofs.Covers.{high-at}
use Rattle.atom_map.proofs.Cuts.{cut-at, length-after-cut}
use Rattle.atom_map.specs.Index.{AgreeBelow, IsAtomAt, IsIndexed, IsNoted, IsPartedAt, first_below}
use Rattle.atom_map.proofs.Begun.{atom-at, below-at, contained, cut-indexed, few-atoms, no-boundary, number-at}
use Rattle.atom_map.proofs.Meeting.{atoms-met, from-place}
use Rattle.atom_map.proofs.Placed.{two-for-one}

-- the atom at a place has the address
pub record Found (rows : List AtomRow) (place a : ℕ) (row : AtomRow) : Type 0 where
  pub atoms : AreAtoms rows
  pub inside : place < length rows
  pub is : row ≡ get_or rows place row
  pub from : atom_low (get_or rows place row) ≤ a
  pub to : a < atom_past (get_or rows place row)

pub atoms-same : (self items : List AtomRow) → items ≡ self → AreAtoms items → AreAtoms self
atoms-same self items e h = let A : List AtomRow → Type 0 = λ xs. AreAtoms xs in subst A e h

pub found-in : (self rows : List AtomRow) (place a : ℕ) (row : AtomRow) → rows ≡ self → AreAtoms rows → place < length rows → ((d : AtomRow) → row ≡ get_or rows place d) → ((d : AtomRow) → (get_or rows place d).low ≤ a) → ((d : AtomRow) → a < (get_or rows place d).past) → Found self place a row
found-in self rows place a row e h inside is from to =
    let F : List AtomRow → Type 0 = λ xs. Found xs place a row in
    subst F e (record { atoms = h; inside = inside; is = is row; from = from row; to = to row })

-- an atom that was found, and what was found of one
pub found-at : (self items : List AtomRow) (place a : ℕ) (row : AtomRow) → items ≡ self → AreAtoms items → IsAtomAt self place a row → Found self place a row
found-at self items place a row e h s = record {
  atoms = atoms-same self items e h;
  inside = s.inside;
  is = s.is row;
  from = subst (λ (r : AtomRow). atom_low r ≤ a) (s.is row) s.from;
  to = subst (λ (r : AtomRow). a < atom_past r) (s.is row) s.to;
}

pub atom-read : (rows : List AtomRow) (place a : ℕ) (row : AtomRow) → place < length rows → ((d : AtomRow) → row ≡ get_or rows place d) → ((d : AtomRow) → (get_or rows place d).low ≤ a) → ((d : AtomRow) → a < (get_or rows place d).past) → IsAtomAt rows place a row
atom-read rows place a row l is from to = record {
  inside = l;
  is = is;
  from = subst (λ (r : AtomRow). atom_low r ≤ a) (sym (is row)) (from row);
  to = subst (λ (r : AtomRow). a < atom_past r) (sym (is row)) (to row);
}

pub from-spot : (rows : List AtomRow) (place a : ℕ) (row d : AtomRow) → IsAtomAt rows place a row → (get_or rows place d).low ≤ a
from-spot rows place a row d s = subst (λ (r : AtomRow). atom_low r ≤ a) (s.is d) s.from

pub to-spot : (rows : List AtomRow) (place a : ℕ) (row d : AtomRow) → IsAtomAt rows place a row → a < (get_or rows place d).past
to-spot rows place a row d s = subst (λ (r : AtomRow). a < atom_past r) (s.is d) s.to

pub atom-found : (self : List AtomRow) (place a : ℕ) (row : AtomRow) → Found self place a row → option_map atom_of (row_at self a) ≡ Some row.atom
atom-found self place a row f = atom-at self place a row f.atoms f.inside f.is f.from f.to

pub below-found : (self : List AtomRow) (place a : ℕ) (row : AtomRow) → Found self place a row → row.atom.0 < length self
below-found self place a row f =
    let P : AtomRow → Type 0 = λ r. r.atom.0 < length self in
    subst P (sym f.is) (below-at (length self) self place row f.atoms.below f.inside)

pub high-found : (self : List AtomRow) (place a : ℕ) (row : AtomRow) → Found self place a row → row.past ≤ 2 ^ 32
high-found self place a row f =
    let P : AtomRow → Type 0 = λ r. atom_past r ≤ 2 ^ 32 in
    subst P (sym f.is) (high-at atom_low atom_past 0 self place row f.atoms.cover f.inside)

-- the bounds of a number
pub bounds-found : (self rows : List AtomRow) (lows : List ℕ) (place low : ℕ) (row : AtomRow) (atom : AtomId) → rows ≡ self → IsIndexed rows lows → Found self place low row → atom.0 < length self → ((d : ℕ) → low ≡ get_or lows atom.0 d) → Contains self (row_of atom row.low row.past)
bounds-found self rows lows place low row atom e x f l start =
    let I : List AtomRow → Type 0 = λ xs. IsIndexed xs lows in
    let h : IsIndexed self lows = subst I e x in
    let n : (get_or self place row).atom.0 ≡ atom.0 = number-at self lows atom.0 place low row h l (start 0) f.inside f.from f.to in
    contained self place row atom f.inside f.is (ap (λ (r : AtomRow). r.atom.0) f.is ∙ n)

pub order-found : (self : List AtomRow) (place a : ℕ) (row : AtomRow) → Found self place a row → row.low < row.past
order-found self place a row f =
    let P : AtomRow → Type 0 = λ r. atom_low r < atom_past r in
    let from : atom_low (get_or self place row) ≤ a = f.from in
    let to : a < atom_past (get_or self place row) = f.to in
    subst P (sym f.is) (omega arith)

-- the atoms of an interval
no-row : AtomRow
no-row = row_of (record { 0 = 0 }) 0 0

pub met-found : (self rows : List AtomRow) (got : List AtomId) (place lo hi : ℕ) → rows ≡ self → AreAtoms rows → place < length rows → ((d : AtomRow) → (get_or rows place d).low ≤ lo) → ((d : AtomRow) → lo < (get_or rows place d).past) → lo < hi → got ≡ map atom_of (first_below hi (drop place rows)) → got ≡ atoms_in self lo hi
met-found self rows got place lo hi e h inside from to o is =
    is
    ∙ atoms-met lo hi rows place no-row h o inside (from no-row) (to no-row)
    ∙ ap (λ (xs : List AtomRow). atoms_in xs lo hi) e

-- two parts in the place of an atom
pub parted : (rows made : List AtomRow) (place at : ℕ) (new : AtomId) (row d : AtomRow) → place < length rows → ((d : AtomRow) → row ≡ get_or rows place d) → made ≡ set (insert rows (place + 1) (upper_part at new row)) place (lower_part at row) → IsPartedAt rows made place at new d
parted rows made place at new row d l is e =
    e
    ∙ two-for-one rows place row (lower_part at row) (upper_part at new row) l
    ∙ ap (λ (r : AtomRow). take place rows ++ lower_part at r ∷ upper_part at new r ∷ drop (place + 1) rows) (is d)

-- a cut in the midst of an atom
strict : (self : List AtomRow) (place at : ℕ) (row : AtomRow) → Found self place at row → (row.low ≡ at → ⊥) → atom_low (get_or self place row) < at
strict self place at row f apart =
    let q : row.low ≡ atom_low (get_or self place row) = ap atom_low f.is in
    let from : atom_low (get_or self place row) ≤ at = f.from in
    omega arith

pub few-found : (self : List AtomRow) (place at : ℕ) (row : AtomRow) → Found self place at row → (row.low ≡ at → ⊥) → length self < 2 ^ 32
few-found self place at row f apart = few-atoms self place at row f.atoms f.inside (strict self place at row f apart) f.to

pub boundary-found : (self : List AtomRow) (place at : ℕ) (row : AtomRow) → Found self place at row → row.low ≡ at → is_boundary self at ≡ true
boundary-found self place at row f e = list_any_at (λ (r : AtomRow). eqb r.low at) self place row f.inside (eq-eqb (atom_low (get_or self place row)) at (sym (ap atom_low f.is) ∙ e))

pub no-boundary-found : (self : List AtomRow) (place at : ℕ) (row : AtomRow) → Found self place at row → (row.low ≡ at → ⊥) → is_boundary self at ≡ false
no-boundary-found self place at row f apart = no-boundary self place at row f.atoms f.inside (strict self place at row f apart) f.to

pub is-cut : (self items got : List AtomRow) (place at : ℕ) (row : AtomRow) (new : AtomId) → items ≡ self → Found self place at row → ((d : AtomRow) → got ≡ take place items ++ lower_part at (get_or items place d) ∷ upper_part at new (get_or items place d) ∷ drop (place + 1) items) → got ≡ cut_rows self at new
is-cut self items got place at row new e f is =
    let s : place + 1 ≡ suc place = omega arith in
    is row
    ∙ ap (λ (xs : List AtomRow). take place xs ++ lower_part at (get_or xs place row) ∷ upper_part at new (get_or xs place row) ∷ drop (place + 1) xs) e
    ∙ ap (λ k. take place self ++ lower_part at (get_or self place row) ∷ upper_part at new (get_or self place row) ∷ drop k self) s
    ∙ sym (cut-at 0 self place row at new f.atoms.cover f.inside f.from f.to)

pub indexed-found : (self items got : List AtomRow) (lows more : List ℕ) (place at : ℕ) (row : AtomRow) (new : AtomId) → items ≡ self → IsIndexed items lows → Found self place at row → (row.low ≡ at → ⊥) → at < 2 ^ 32 → new.0 ≡ length items → got ≡ cut_rows self at new → AgreeBelow lows more (length items) → IsNoted more (length items) at → IsIndexed got more
indexed-found self items got lows more place at row new e x f apart b n is agree noted =
    let I : List AtomRow → Type 0 = λ xs. IsIndexed xs lows in
    let P : List AtomRow → Type 0 = λ xs. IsIndexed xs more in
    let A : ℕ → Type 0 = λ k. AgreeBelow lows more k in
    let N : ℕ → Type 0 = λ k. IsNoted more k at in
    subst P (sym is) (cut-indexed self lows more place at row new (subst I e x) b f.inside (strict self place at row f apart) f.to (n ∙ ap length e) (subst A (ap length e) agree) (subst N (ap length e) noted))

pub length-found : (self got : List AtomRow) (at : ℕ) (new : AtomId) → AreAtoms self → at < 2 ^ 32 → got ≡ cut_rows self at new → length got ≡ suc (length self)
length-found self got at new h b is = ap (λ (xs : List AtomRow). length xs) is ∙ length-after-cut 0 self at new h.cover (omega arith) b

-- one more atom with its bounds
pub one-more-told : (rows : List AtomRow) (i : ℕ) (row : AtomRow) (old new : List (AtomId × ℕ × ℕ)) → i < length rows → ((d : AtomRow) → row ≡ get_or rows i d) → old ++ map bounds_of (drop i rows) ≡ map bounds_of rows → new ≡ old ++ bounds_of row ∷ [] → new ++ map bounds_of (drop (i + 1) rows) ≡ map bounds_of rows
one-more-told rows i row old new l is e n =
    let rest : List (AtomId × ℕ × ℕ) = map bounds_of (drop (i + 1) rows) in
    ap (λ (xs : List (AtomId × ℕ × ℕ)). xs ++ rest) n
    ∙ append_assoc old (bounds_of row ∷ []) rest
    ∙ ap (λ (xs : List AtomRow). old ++ map bounds_of xs) (sym (from-place rows i row l is))
    ∙ e
