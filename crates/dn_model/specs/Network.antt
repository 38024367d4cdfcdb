-- A network at a moment: what each of its routers does, with links that are down or taken as down.
use Rattle.std.specs.Prelude.{ℕ, List, ◌++◌, ◌≡◌, length, slice_get}
use Rattle.std.specs.Option.{option_map_or}
use Rattle.base.specs.Walk.{at_address, LeadsWithin}
use Rattle.dn_model.specs.Downs.{downs}
use Rattle.dn_model.specs.Moment.{AreMoments, does_then}
use Rattle.dn_model.specs.declared.entry.Entry.{Entry}
use Rattle.dn_model.specs.declared.network.Network.{Network}
use Rattle.dn_model.specs.declared.topology.Topology.{Topology}
use Rattle.base.specs.declared.ids.LinkId.{LinkId}
use Rattle.base.specs.declared.ids.RouterId.{RouterId}
use Rattle.base.specs.declared.target.Target.{Target}
use Rattle.base.specs.declared.target.Target.TheVariants.{NoRoute}

-- how many routers there are
abbrev pub routers_in : Network → ℕ
routers_in net = length net.routers.items

-- what each router does with each address; one that isn't there leads nowhere
abbrev pub does_in : Network → RouterId → ℕ → Target
does_in net r a = option_map_or (λ m. does_then net.down.items m a) (slice_get net.routers.items r.0) NoRoute

-- each router goes on to one of the network, if to any
abbrev pub IsClosed : Network → Type 0
IsClosed net = (a : ℕ) → LeadsWithin (routers_in net) (at_address (does_in net) a)

-- the network after a history, with these links taken as down besides those that are down after it
pub record IsNetwork (t : Topology) (history : List Entry) (taken : List LinkId) (net : Network) : Type 0 where
  pub routers : AreMoments t history net.routers.items
  pub down : net.down.items ≡ downs history ++ taken
