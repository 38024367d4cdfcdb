-- Rows: the routes of one prefix in each of four tables that stand side by side. Each table has a slot in each row,
-- which may be without routes. A table beyond the fourth has slots without routes.
use Rattle.std.specs.Prelude.{ℕ, Bool, true, false, length, ◌<◌, List, [], ◌∷◌, insert, map, slice_index_or, ◌≡◌, ◌≢◌}
use Rattle.base.specs.Cidr.{Cidr}
use Rattle.dn_model.specs.declared.entry.Route.{Route}
use Rattle.dn_model.specs.declared.table_op.TableOp.{TableOp}
use Rattle.dn_model.specs.declared.table_op.TableOp.TheVariants.{Put, Clear}
use Rattle.route_table.specs.Slots.{PrefixRoutes, key_of, routes_of}
use Rattle.route_table.specs.Whole.{IsWhole}
use Rattle.route_table.specs.declared.rows.PrefixRow.{PrefixRow}

abbrev pub row_key : PrefixRow → ℕ
row_key row = key_of row.prefix

-- the slot of one of the tables in a row
abbrev pub slot_in : ℕ → PrefixRow → PrefixRoutes
slot_in lane row = record { prefix = row.prefix; targets = slice_index_or row.lanes lane [] }

-- the slots of one of the tables, one row after another
abbrev pub slots_in : ℕ → List PrefixRow → List PrefixRoutes
slots_in lane rows = map (slot_in lane) rows

-- the routes of each of the tables
abbrev pub tables_in : List PrefixRow → List (List Route)
tables_in rows = routes_of (slots_in 0 rows) ∷ routes_of (slots_in 1 rows) ∷ routes_of (slots_in 2 rows) ∷ routes_of (slots_in 3 rows) ∷ []

-- what always holds of rows: the slots of each of the tables are in order, and the lengths of their prefixes are known
abbrev pub AreWhole : List PrefixRow → List Bool → Type 0
AreWhole rows lengths = (lane : ℕ) → IsWhole (slots_in lane rows) lengths

-- each table but this one has the slots that it had
abbrev pub KeepsSlots : ℕ → List PrefixRow → List PrefixRow → Type 0
KeepsSlots lane old new = (k : ℕ) → k ≢ lane → slots_in k new ≡ slots_in k old

-- each table but this one has the routes that it had
abbrev pub KeepsRoutes : ℕ → List PrefixRow → List PrefixRow → Type 0
KeepsRoutes lane old new = (k : ℕ) → k ≢ lane → routes_of (slots_in k new) ≡ routes_of (slots_in k old)

-- each table but this one has the slots that it had, and one more at a place, without routes
abbrev pub AddsSlots : ℕ → List PrefixRow → List PrefixRow → ℕ → Cidr → Type 0
AddsSlots lane old new place p = (k : ℕ) → k ≢ lane → slots_in k new ≡ insert (slots_in k old) place (record { prefix = p; targets = [] })

-- one of the tables has a route in a row
pub record IsHeld (row : PrefixRow) : Type 0 where
  pub lane : ℕ
  pub inside : lane < 4
  pub some : 0 < length (slot_in lane row).targets

-- what is told of an update in a row: that it puts a route, which may be the first of the row; or that it puts one where one
-- of the tables has one, or clears
abbrev pub TellsFirst : PrefixRow → TableOp → Bool → Type 0
TellsFirst row (Put p m w) true = Unit {0}
TellsFirst row (Put p m w) false = IsHeld row
TellsFirst row (Clear p m) true = ⊥
TellsFirst row (Clear p m) false = Unit {0}
