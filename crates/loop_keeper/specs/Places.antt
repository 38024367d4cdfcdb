-- Places of the rows that changes meet.
use Rattle.std.specs.Prelude.{ℕ, List, ◌≡◌, ◌-◌, ◌<◌, ◌≤◌, length, slice_index_or}
use Rattle.base.specs.declared.change.Change.{Change}
use Rattle.base.specs.declared.forwarding_row.ForwardingRow.{ForwardingRow}

-- the run of a change meets the rows from one place to another: its first address is in the one, its last in the other
pub record AreMet (rows : List ForwardingRow) (c : Change) (first last : ℕ) : Type 0 where
  pub begins : first < length rows
  pub inside : last < length rows
  pub from : (d : ForwardingRow) → (slice_index_or rows first d).low ≤ c.run.lo
  pub to : (d : ForwardingRow) → c.run.lo < (slice_index_or rows first d).past
  pub low : (d : ForwardingRow) → (slice_index_or rows last d).low ≤ c.run.hi
  pub past : (d : ForwardingRow) → c.run.hi < (slice_index_or rows last d).past

-- the row before a place, if there is one, does not begin above an address
pub record IsReached (rows : List ForwardingRow) (place a : ℕ) : Type 0 where
  pub inside : place ≤ length rows
  pub low : (d : ForwardingRow) → 0 < place → (slice_index_or rows (place - 1) d).low ≤ a

-- changes of one router, one run behind the other
pub record AreInTurn (changes : List Change) : Type 0 where
  pub router : (j k : ℕ) (d : Change) → j < length changes → k < length changes
      → (slice_index_or changes j d).router ≡ (slice_index_or changes k d).router
  pub rise : (j k : ℕ) (d : Change) → j < k → k < length changes
      → (slice_index_or changes j d).run.hi < (slice_index_or changes k d).run.lo
