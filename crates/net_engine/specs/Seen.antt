-- What a network and a version are seen as, by their fields, and what always holds of them between updates.
use Rattle.std.specs.Prelude.{[], length, ◌≡◌}
use Rattle.std.specs.Arc.{arc_value}
use Rattle.net_engine.specs.Version.{Kept}
use Rattle.net_engine.specs.Net.{Net}
use Rattle.net_engine.specs.Paired.{ArePaired, net_of}
use Rattle.net_engine.specs.Whole.{IsWhole}
use Rattle.net_engine.specs.declared.net.Net.{Net as NetFields}
use Rattle.net_engine.specs.declared.state.State.{State}

-- the number of routers and the atoms in order
abbrev pub net_in : NetFields → Net
net_in n = net_of n.routers n.atoms n.labels n.tables

-- its atoms stand beside what routers do
abbrev pub IsPaired : NetFields → Type 0
IsPaired n = ArePaired n.routers n.atoms n.labels n.tables

-- the topology, the atoms in order, the routes, and the links that are down; objects are not kept yet
abbrev pub kept_in : State → Kept
kept_in s = record {
  topology = arc_value s.topology;
  atoms = (net_in s.net).atoms;
  routes = s.net.tables;
  objects = [];
  down = s.down;
}

-- its atoms and its routes say the same, and the atoms stand beside what routers do
pub record IsSound (s : State) : Type 0 where
  pub whole : IsWhole (kept_in s)
  pub paired : IsPaired s.net
  pub routers : s.net.routers ≡ length (arc_value s.topology).routers
