-- What always holds of what a version keeps: its atoms and its routes say the same, and it has no objects yet. Which links
-- are down doesn't matter to it.
use Rattle.std.specs.Prelude.{ℕ, List, [], true, length, slice_index_or, Contains, ◌≡◌, ◌+◌, ◌<◌, ◌≤◌, ◌^◌}
use Rattle.base.specs.Cidr.{size}
use Rattle.dn_model.specs.Routes.{IsTable}
use Rattle.base.specs.Rows.{CoverFrom}
use Rattle.dn_model.specs.Rules.{OwnersOf}
use Rattle.dn_model.specs.Table.{target_in}
use Rattle.net_engine.specs.Version.{Atom, Kept, begins_at, first_of, past_of, rules_at, target_at}
use Rattle.dn_model.specs.declared.entry.Route.{Route}
use Rattle.base.specs.declared.ids.RouterId.{RouterId}
use Rattle.dn_model.specs.declared.topology.Topology.{Topology}
use Rattle.net_engine.specs.Net.{AreWide}
use Rattle.net_engine.specs.Updates.{IsWayOf}

-- atoms begin at both ends of a route's prefix
pub record HasEnds (atoms : List Atom) (x : Route) : Type 0 where
  pub first : begins_at atoms x.prefix.base ≡ true
  pub past : x.prefix.base + size x.prefix < 2 ^ 32 → begins_at atoms (x.prefix.base + size x.prefix) ≡ true

-- One router's routes and the atoms say the same: the routes are a table whose ways the network has; atoms begin at
-- the ends of their prefixes; at each address its rules there are those of the routes that cover the address, and it
-- does what the table does.
pub record Agrees (t : Topology) (atoms : List Atom) (r : RouterId) (routes : List Route) : Type 0 where
  pub table : IsTable routes
  pub ways : (x : Route) → Contains routes x → IsWayOf t x.way
  pub ends : (x : Route) → Contains routes x → HasEnds atoms x
  pub owners : (a : ℕ) → a < 2 ^ 32 → OwnersOf (rules_at atoms r a) routes a
  pub does : (a : ℕ) → a < 2 ^ 32 → target_at atoms r a ≡ target_in [] routes a

pub record IsWhole (kept : Kept) : Type 0 where
  pub few : length kept.topology.routers ≤ 1024
  pub cover : CoverFrom first_of past_of 0 kept.atoms
  pub wide : AreWide (length kept.topology.routers) kept.atoms
  pub tables : length kept.routes ≡ length kept.topology.routers
  pub objects : kept.objects ≡ []
  pub agree : (r : RouterId) → r.0 < length kept.topology.routers → Agrees kept.topology kept.atoms r (slice_index_or kept.routes r.0 [])
