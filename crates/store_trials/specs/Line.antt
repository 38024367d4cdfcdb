-- Networks of three routers and two links, and what is posted of them.
use Rattle.std.specs.Prelude.{List, length, ◌≡◌}
use Rattle.std.specs.List.{All}
use Rattle.dn_model.specs.Entry.{IsEntryOf, IsTargetOf}
use Rattle.version_store.specs.Events.{IsEventOf}
use Rattle.version_store.specs.Kept.{IsTaken}
use Rattle.version_store.specs.declared.play.Event.{Event}
use Rattle.base.specs.declared.target.Target.{Target}
use Rattle.dn_model.specs.declared.entry.Entry.{Entry}
use Rattle.dn_model.specs.declared.topology.Topology.{Topology}

-- a network of three routers and two links
pub record IsLine (t : Topology) : Type 0 where
  pub routers : length t.routers ≡ 3
  pub links : length t.links ≡ 2

-- what a route may do in each of these networks
abbrev pub IsTargetOfLine : Target → Type 0
IsTargetOfLine target = (t : Topology) → IsLine t → IsTargetOf t target

-- an entry that a store of each of these networks takes
abbrev pub IsOfLine : Entry → Type 0
IsOfLine e = (t : Topology) → IsLine t → IsTaken t e

-- entries of each of these networks
abbrev pub AreOfLine : List Entry → Type 0
AreOfLine es = (t : Topology) → IsLine t → All (IsEntryOf t) es

-- events that a store of each of these networks plays
abbrev pub AreEventsOfLine : List Event → Type 0
AreEventsOfLine events = (t : Topology) → IsLine t → All (IsEventOf t) events
