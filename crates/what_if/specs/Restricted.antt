-- A view with links down.
use Rattle.std.specs.Prelude.{List, map}
use Rattle.base.specs.Links.{without}
use Rattle.base.specs.declared.forwarding_row.ForwardingRow.{ForwardingRow}
use Rattle.base.specs.declared.ids.LinkId.{LinkId}

-- a view, and the links that are down
pub record Restricted (V : Type 0) : Type 0 where
  pub view : V
  pub links : List LinkId

-- what the routers do with the addresses of a row, where these links are down
abbrev pub row_without : List LinkId → ForwardingRow → ForwardingRow
row_without links row = record { low = row.low; past = row.past; targets = map (without links) row.targets }

abbrev pub rows_without : List LinkId → List ForwardingRow → List ForwardingRow
rows_without links rows = map (row_without links) rows
