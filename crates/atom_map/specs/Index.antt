-- Atoms, and beside them where the atom of each number begins.
use Rattle.std.specs.Prelude.{ℕ, List, [], ◌∷◌, ◌++◌, ◌+◌, Some, length, take, drop, ◌≡◌, ◌<◌, ◌≤◌, ◌^◌, nat_lt, slice_index_or, if◌then◌else◌}
use Rattle.atom_map.specs.Atoms.{AreAtoms, lower_part, row_at, row_of, upper_part}
use Rattle.atom_map.specs.declared.atom_row.AtomRow.{AtomRow}
use Rattle.base.specs.declared.ids.AtomId.{AtomId}

-- one atom, number 0, of all addresses
abbrev pub one_atom : List AtomRow
one_atom = row_of (record { 0 = 0 }) 0 (2 ^ 32) ∷ []

-- the first atoms, up to the first that begins at this address or above it
abbrev pub first_below : ℕ → List AtomRow → List AtomRow
first_below hi [] = []
first_below hi (r ∷ rs) = if nat_lt r.low hi then r ∷ first_below hi rs else []

-- the atom of this number begins at this address
pub record Begins (rows : List AtomRow) (number : ℕ) (first : ℕ) : Type 0 where
  pub row : AtomRow
  pub at : row_at rows first ≡ Some row
  pub low : row.low ≡ first
  pub is : row.atom.0 ≡ number

-- the atom of each number begins where the list of beginnings says; what that has beyond them means nothing
pub record IsIndexed (rows : List AtomRow) (lows : List ℕ) : Type 0 where
  pub atoms : AreAtoms rows
  pub long : length rows ≤ length lows
  pub begins : (number : ℕ) → number < length rows → Begins rows number (slice_index_or lows number 0)

-- the atom of an address `a` is one of those from `place` up to, and without, `past`: the first of them doesn't begin
-- above it, and what follows the last does
pub record IsLeft (rows : List AtomRow) (a place past : ℕ) : Type 0 where
  pub order : place < past
  pub inside : past ≤ length rows
  pub from : (d : AtomRow) → (slice_index_or rows place d).low ≤ a
  pub next : (d : AtomRow) → past < length rows → a < (slice_index_or rows past d).low

-- the atom of an address `a` stands at this place
pub record IsAtomPlace (rows : List AtomRow) (place a : ℕ) : Type 0 where
  pub inside : place < length rows
  pub from : (d : AtomRow) → (slice_index_or rows place d).low ≤ a
  pub to : (d : AtomRow) → a < (slice_index_or rows place d).past

-- and it is this one
pub record IsAtomAt (rows : List AtomRow) (place a : ℕ) (row : AtomRow) : Type 0 where
  pub inside : place < length rows
  pub is : (d : AtomRow) → row ≡ slice_index_or rows place d
  pub from : row.low ≤ a
  pub to : a < row.past

-- what stands in a list before a place, another has too
pub record AgreeBelow (old new : List ℕ) (number : ℕ) : Type 0 where
  pub long : number ≤ length new
  pub same : (k d : ℕ) → k < number → slice_index_or new k d ≡ slice_index_or old k d

-- and the other has this at the place
pub record IsNoted (new : List ℕ) (number at : ℕ) : Type 0 where
  pub long : number < length new
  pub there : (d : ℕ) → slice_index_or new number d ≡ at

-- the two parts of an atom stand in its place
abbrev pub IsPartedAt : List AtomRow → List AtomRow → ℕ → ℕ → AtomId → AtomRow → Type 0
IsPartedAt old new place at number d = new ≡ take place old ++ lower_part at (slice_index_or old place d) ∷ upper_part at number (slice_index_or old place d) ∷ drop (place + 1) old
