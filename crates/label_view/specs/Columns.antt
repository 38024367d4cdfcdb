-- What is read of a router's column.
use Rattle.std.specs.Prelude.{ℕ, List, ◌≡◌, ◌+◌, ◌<◌, length, slice_index_or}
use Rattle.base.specs.Forwarding.{target_of}
use Rattle.base.specs.declared.forwarding_row.ForwardingRow.{ForwardingRow}
use Rattle.base.specs.declared.ids.RouterId.{RouterId}
use Rattle.base.specs.declared.target.Target.{Target}

-- these are what a router does with the addresses of rows side by side, from the one at a place on
abbrev pub AreOfColumn : List ForwardingRow → RouterId → ℕ → List Target → Type 0
AreOfColumn rows r from targets = (k : ℕ) (d : ForwardingRow) (e : Target) → k < length targets
    → slice_index_or targets k e ≡ target_of (slice_index_or rows (from + k) d) r
