-- What all routers do with all addresses, as rows: intervals with what each router does with their addresses.
use Rattle.std.specs.Prelude.{ℕ, List, [], ◌∷◌, Option, None, Some, length, ◌≡◌, ◌<◌, ◌≤◌, slice_index_or}
use Rattle.base.specs.Rows.{CoverFrom, holder}
use Rattle.base.specs.declared.ids.LinkId.{LinkId}
use Rattle.base.specs.declared.ids.RouterId.{RouterId}
use Rattle.base.specs.declared.forwarding_row.ForwardingRow.{ForwardingRow}
use Rattle.base.specs.declared.target.Target.{Target}
use Rattle.base.specs.declared.target.Target.TheVariants.{NoRoute, To}

abbrev pub row_low : ForwardingRow → ℕ
row_low row = row.low

abbrev pub row_past : ForwardingRow → ℕ
row_past row = row.past

-- what a router does with the addresses of a row; a router that the row doesn't have has no route
abbrev pub target_of : ForwardingRow → RouterId → Target
target_of row r = slice_index_or row.targets r.0 NoRoute

-- the row that has an address
abbrev pub forwarding_at : List ForwardingRow → ℕ → Option ForwardingRow
forwarding_at rows a = holder row_low row_past rows a

-- a row of so many routers, each of which goes on to one of them, if to any
pub record IsForwarding (routers : ℕ) (row : ForwardingRow) : Type 0 where
  pub all : length row.targets ≡ routers
  pub within : (r s : RouterId) (l : LinkId) → target_of row r ≡ To s l → s.0 < routers

abbrev pub AreEachForwarding : ℕ → List ForwardingRow → Type 0
AreEachForwarding routers [] = Unit {0}
AreEachForwarding routers (row ∷ rows) = IsForwarding routers row × AreEachForwarding routers rows

-- rows of so many routers, in order, which cover the addresses from 0 to 2^32 once
pub record AreForwarding (routers : ℕ) (rows : List ForwardingRow) : Type 0 where
  pub few : routers ≤ 1024
  pub cover : CoverFrom row_low row_past 0 rows
  pub each : AreEachForwarding routers rows

-- what a router does by the row that has an address; where no row has it, it has no route
abbrev pub target_in_row : Option ForwardingRow → RouterId → Target
target_in_row None r = NoRoute
target_in_row (Some row) r = target_of row r

-- what each router does with each address, by the rows
abbrev pub does : List ForwardingRow → RouterId → ℕ → Target
does rows r a = target_in_row (forwarding_at rows a) r
