-- Atoms: the addresses cut into half-closed intervals between boundaries, each with a number (Delta-net, NSDI 2017).
use Rattle.std.specs.Prelude.{ℕ, Bool, List, [], ◌∷◌, Option, None, Some, length, map, filter, option_map, ◌≡◌, ◌<◌, ◌&&◌, ◌==◌, true, false, nat_lt, if◌then◌else◌}
use Rattle.std.specs.List.{list_any}
use Rattle.base.specs.Rows.{is_within, CoverFrom, holder}
use Rattle.atom_map.specs.declared.atom_row.AtomRow.{AtomRow}
use Rattle.base.specs.declared.ids.AtomId.{AtomId}

abbrev pub atom_low : AtomRow → ℕ
atom_low r = r.low

abbrev pub atom_past : AtomRow → ℕ
atom_past r = r.past

abbrev pub atom_of : AtomRow → AtomId
atom_of r = r.atom

-- an atom of this number with these bounds
abbrev pub row_of : AtomId → ℕ → ℕ → AtomRow
row_of atom low high = record { atom = atom; low = low; past = high }

-- an atom with its two bounds
abbrev pub bounds_of : AtomRow → AtomId × ℕ × ℕ
bounds_of r = (r.atom, r.low, r.past)

-- whether an atom has an address
abbrev pub has_address : ℕ → AtomRow → Bool
has_address a r = is_within r.low r.past a

-- the atom of an address, with its bounds
abbrev pub row_at : List AtomRow → ℕ → Option AtomRow
row_at rows a = holder atom_low atom_past rows a

-- whether an atom begins at an address
abbrev pub is_boundary : List AtomRow → ℕ → Bool
is_boundary rows at = list_any (λ r. r.low == at) rows

-- whether an atom has one of the addresses from `lo` up to, and without, `hi`
abbrev pub meets : ℕ → ℕ → AtomRow → Bool
meets lo hi r = nat_lt lo hi && (nat_lt r.low hi && nat_lt lo r.past)

-- the atoms that have one of these addresses, in order
abbrev pub atoms_in : List AtomRow → ℕ → ℕ → List AtomId
atoms_in rows lo hi = map atom_of (filter (meets lo hi) rows)

-- each has a number below this
abbrev pub AreBelow : ℕ → List AtomRow → Type 0
AreBelow n [] = Unit {0}
AreBelow n (r ∷ rs) = (r.atom.0 < n) × AreBelow n rs

-- none has this number
abbrev pub HasNone : AtomId → List AtomRow → Type 0
HasNone atom [] = Unit {0}
HasNone atom (r ∷ rs) = (r.atom ≡ atom → ⊥) × HasNone atom rs

-- no number comes twice
abbrev pub AreOnce : List AtomRow → Type 0
AreOnce [] = Unit {0}
AreOnce (r ∷ rs) = HasNone r.atom rs × AreOnce rs

-- atoms in order, which cover the addresses from 0 to 2^32 once, and whose numbers are those below their count
pub record AreAtoms (rows : List AtomRow) : Type 0 where
  pub cover : CoverFrom atom_low atom_past 0 rows
  pub below : AreBelow (length rows) rows
  pub once : AreOnce rows

-- an atom's part below an address, which keeps its number
abbrev pub lower_part : ℕ → AtomRow → AtomRow
lower_part at r = record { atom = r.atom; low = r.low; past = at }

-- an atom's part from an address on, which has a number of its own
abbrev pub upper_part : ℕ → AtomId → AtomRow → AtomRow
upper_part at new r = record { atom = new; low = at; past = r.past }

-- the atoms, where the one that has an address is cut in two there
abbrev pub cut_rows : List AtomRow → ℕ → AtomId → List AtomRow
cut_rows [] at new = []
cut_rows (r ∷ rs) at new = if has_address at r then lower_part at r ∷ upper_part at new r ∷ rs else r ∷ cut_rows rs at new

-- the part that an address `a` of an atom is in, where the atom is cut if it has the address `at`
abbrev pub part_of : ℕ → AtomId → ℕ → AtomRow → AtomRow
part_of at new a r = if has_address at r then (if nat_lt a at then lower_part at r else upper_part at new r) else r

-- what a cut at an address answers, and what it makes of the atoms: at a boundary nothing; else the atom that ends
-- there now and the one that begins there, whose number is the count of the atoms before
abbrev pub IsCut : List AtomRow → List AtomRow → ℕ → Option (AtomId × AtomId) → Type 0
IsCut old new at None = (is_boundary old at ≡ true) × (new ≡ old)
IsCut old new at (Some p) = (is_boundary old at ≡ false)
    × (p.1.0 ≡ length old)
    × (new ≡ cut_rows old at p.1)
    × (option_map atom_of (row_at old at) ≡ Some p.0)
