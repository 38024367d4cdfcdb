-- Rows by place: where each begins, and runs that are gathered while they go by.
use Rattle.std.specs.Prelude.{ℕ, zero, suc, Bool, false, List, [], ◌∷◌, ◌≡◌, ◌+◌, ◌<◌, ◌≤◌, ◌^◌, slice_index_or}
use Rattle.std.specs.List.{list_any}
use Rattle.base.specs.Runs.{holds}
use Rattle.base.specs.declared.forwarding_row.ForwardingRow.{ForwardingRow}
use Rattle.base.specs.declared.run.Run.{Run}
use Rattle.label_view.specs.Gathered.{Gathered}

-- where the row at a place begins; after the last, where the addresses end
abbrev pub begin_of : List ForwardingRow → ℕ → ℕ
begin_of [] i = 2 ^ 32
begin_of (row ∷ rows) zero = row.low
begin_of (row ∷ rows) (suc i) = begin_of rows i

-- the row at a place has an address: it begins there or before, and the next one after it
pub record IsInRow (rows : List ForwardingRow) (i a : ℕ) : Type 0 where
  pub from : begin_of rows i ≤ a
  pub to : a < begin_of rows (suc i)

-- the rows from a place up to, and without, another have an address
pub record IsInRows (rows : List ForwardingRow) (i j a : ℕ) : Type 0 where
  pub from : begin_of rows i ≤ a
  pub to : a < begin_of rows j

-- these are the runs of addresses of so many rows side by side, from the one at a place on
abbrev pub AreRunsFrom : List ForwardingRow → ℕ → ℕ → List Run → Type 0
AreRunsFrom rows from count runs = (k : ℕ) (d : Run) → k < count
    → ((slice_index_or runs k d).lo ≡ begin_of rows (from + k))
    × ((slice_index_or runs k d).hi + 1 ≡ begin_of rows (from + k + 1))

-- what is gathered is of the rows before a place, and has exactly those of their addresses that pass a test
pub record AreGatheredTo (gathered : Gathered) (rows : List ForwardingRow) (i : ℕ) (test : ℕ → Bool) : Type 0 where
  pub before : gathered.past ≤ begin_of rows i
  pub exact : (a : ℕ) → a < begin_of rows i → list_any (holds a) gathered.runs ≡ test a
  pub none : (a : ℕ) → begin_of rows i ≤ a → list_any (holds a) gathered.runs ≡ false
