-- Rows cut into ranges of one size.
use Rattle.std.specs.Prelude.{ℕ, List, ◌*◌, nat_lt, if◌then◌else◌, length}
use Rattle.base.specs.declared.forwarding_row.ForwardingRow.{ForwardingRow}
use Rattle.label_view.specs.Places.{begin_of}

-- where the range with this number begins, among so many rows: the last ends with them
abbrev pub place_at : ℕ → ℕ → ℕ → ℕ
place_at rows size k = if nat_lt (size * k) rows then size * k else rows

-- the first address of the range with this number
abbrev pub range_begin : List ForwardingRow → ℕ → ℕ → ℕ
range_begin rows size k = begin_of rows (place_at (length rows) size k)
