-- What is known of a place where a search for a slot ends.
use Rattle.std.specs.Prelude.{ℕ, List, slice_index_or, ◌≡◌, ◌-◌, ◌<◌}
use Rattle.route_table.specs.Slots.{PrefixRoutes}

-- the prefix of the slot before a place begins at this address
pub record IsBaseBefore (slots : List PrefixRoutes) (place base : ℕ) : Type 0 where
  pub some : 0 < place
  pub base_is : (d : PrefixRoutes) → (slice_index_or slots (place - 1) d).prefix.base ≡ base
