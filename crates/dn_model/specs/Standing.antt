-- Rows that stand for a network's history.
use Rattle.std.specs.Prelude.{ℕ, List, length, ◌≡◌, ◌<◌, ◌^◌}
use Rattle.dn_model.specs.Table.{does_after}
use Rattle.dn_model.specs.declared.entry.Entry.{Entry}
use Rattle.base.specs.declared.ids.RouterId.{RouterId}
use Rattle.base.specs.declared.forwarding_row.ForwardingRow.{ForwardingRow}
use Rattle.dn_model.specs.declared.topology.Topology.{Topology}
use Rattle.base.specs.Forwarding.{AreForwarding, does}

-- Rows stand for a network's history: they are in order and cover the addresses once, and show for each router and
-- address what the router does with it after the history.
pub record StandsFor (t : Topology) (rows : List ForwardingRow) (history : List Entry) : Type 0 where
  pub form : AreForwarding (length t.routers) rows
  pub exact : (r : RouterId) (a : ℕ) → a < 2 ^ 32 → does rows r a ≡ does_after t history r a
