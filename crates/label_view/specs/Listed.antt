-- Rows of so many routers.
use Rattle.std.specs.Prelude.{ℕ, List}
use Rattle.base.specs.declared.forwarding_row.ForwardingRow.{ForwardingRow}

pub record Listed : Type 0 where
  pub routers : ℕ
  pub rows : List ForwardingRow
