-- What routers do with addresses, row by row, as it is read.
use Rattle.std.specs.Prelude.{ℕ, List}
use Rattle.base.specs.declared.forwarding_row.ForwardingRow.{ForwardingRow}

-- how many routers there are, and the rows in order
pub record View : Type 0 where
  pub routers : ℕ
  pub rows : List ForwardingRow
