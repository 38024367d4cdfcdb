-- The rows that changes meet, and looks at them.
use Rattle.std.specs.Prelude.{ℕ, Bool, List, ◌+◌, ◌*◌, ◌≤◌, ◌&&◌, nat_le, nat_lt, count_by, take}
use Rattle.std.specs.List.{list_any}
use Rattle.base.specs.declared.change.Change.{Change}
use Rattle.base.specs.declared.forwarding_row.ForwardingRow.{ForwardingRow}

-- whether a row and the run of a change have an address in common
abbrev pub meets : Change → ForwardingRow → Bool
meets c row = nat_lt c.run.lo row.past && nat_le row.low c.run.hi

-- whether a row and the run of one of these changes do
abbrev pub meets_some : List Change → ForwardingRow → Bool
meets_some changes row = list_any (λ c. meets c row) changes

-- how many rows the runs of changes meet, each counted once
abbrev pub rows_met : List ForwardingRow → List Change → ℕ
rows_met rows changes = count_by (meets_some changes) rows

-- of the rows from one place up to another those that pass a test were looked at, each at so many routers at most
pub record AreLookedAt (width : ℕ) (rows : List ForwardingRow) (test : ForwardingRow → Bool) (from to old new : ℕ)
    : Type 0 where
  pub most : new + width * count_by test (take from rows) ≤ old + width * count_by test (take to rows)
