-- What always holds of a table: its slots are in order, and the lengths of their prefixes are known.
use Rattle.std.specs.Prelude.{Bool, List}
use Rattle.route_table.specs.Above.{HasLength}
use Rattle.route_table.specs.Slots.{AreSlots, PrefixRoutes}

pub record IsWhole (slots : List PrefixRoutes) (lengths : List Bool) : Type 0 where
  pub form : AreSlots slots
  pub kept : HasLength slots lengths
