-- Where a search ends.
use Rattle.std.specs.Prelude.{ℕ, ◌+◌, ◌-◌, ◌<◌, ◌≤◌, List, length, slice_index_or}
use Rattle.version_pages.specs.Keys.{first_key}
use Rattle.version_pages.specs.Shape.{Shape}

-- the element before the place has a key below this one, and the one at the place has not
pub record EndsBelow {T : Type 0} (key_of : T → ℕ) (items : List T) (key at : ℕ) : Type 0 where
  pub inside : at ≤ length items
  pub before : (d : T) → 0 < at → key_of (slice_index_or items (at - 1) d) < key
  pub after : (d : T) → at < length items → key ≤ key_of (slice_index_or items at d)

-- a search has come so far: the element before `low` has a key below this one, and the one at `high` has not
pub record IsBetween {T : Type 0} (key_of : T → ℕ) (items : List T) (key low high : ℕ) : Type 0 where
  pub order : low ≤ high
  pub inside : high ≤ length items
  pub before : (d : T) → 0 < low → key_of (slice_index_or items (low - 1) d) < key
  pub after : (d : T) → high < length items → key ≤ key_of (slice_index_or items high d)

-- the child's first element has a key below this one, if it is not the first child, and the first element of the next one
-- has not
pub record EndsIn {T : Type 0} (key_of : T → ℕ) (kids : List (Shape T)) (key k : ℕ) : Type 0 where
  pub inside : k < length kids
  pub here : (e : Shape T) → 0 < k → first_key key_of (slice_index_or kids k e).items < key
  pub next : (e : Shape T) → k + 1 < length kids → key ≤ first_key key_of (slice_index_or kids (k + 1) e).items
