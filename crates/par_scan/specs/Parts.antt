-- A part of rows, as rows of their own.
use Rattle.std.specs.Prelude.{ℕ, List, [], ◌∷◌, ◌++◌, ◌≡◌, ◌⊎◌, ◌+◌, ◌<◌, ◌≤◌, ◌^◌, nat_lt, if◌then◌else◌, take, drop, replicate, slice_index_or}
use Rattle.base.specs.Forwarding.{does}
use Rattle.base.specs.declared.forwarding_row.ForwardingRow.{ForwardingRow}
use Rattle.base.specs.declared.ids.RouterId.{RouterId}
use Rattle.base.specs.declared.target.Target.{Target}
use Rattle.base.specs.declared.target.Target.TheVariants.{Local, NoRoute}
use Rattle.label_view.specs.Places.{begin_of}

-- a row whose addresses stay at each of so many routers
abbrev pub idle_row : ℕ → ℕ → ℕ → ForwardingRow
idle_row n low past = record { low = low; past = past; targets = replicate n Local }

-- the same, if it has any address
abbrev pub idle_rows : ℕ → ℕ → ℕ → List ForwardingRow
idle_rows n low past = if nat_lt low past then idle_row n low past ∷ [] else []

-- so many rows from a place on; the addresses of all others stay where they are
abbrev pub part_of : ℕ → List ForwardingRow → ℕ → ℕ → List ForwardingRow
part_of n rows from count =
    idle_rows n 0 (begin_of rows from)
    ++ (take count (drop from rows) ++ idle_rows n (begin_of rows (from + count)) (2 ^ 32))

-- what one of so many routers does with an address that stays there; no other has a route
abbrev pub idle_at : ℕ → RouterId → Target
idle_at n r = slice_index_or (replicate n Local) r.0 NoRoute

-- rows show of the addresses from `low` up to, and without, `past` what others show, and all other addresses stay
pub record ShowsPart (n : ℕ) (rows part : List ForwardingRow) (low past : ℕ) : Type 0 where
  pub inside : (r : RouterId) (a : ℕ) → low ≤ a → a < past → does part r a ≡ does rows r a
  pub outside : (r : RouterId) (a : ℕ) → a < 2 ^ 32 → (a < low) ⊎ (past ≤ a) → does part r a ≡ idle_at n r
