-- A network's history, and the version that goes with it.
use Rattle.std.specs.Prelude.{List, [], ◌∷◌, ◌++◌, length, ◌≡◌, ◌<◌}
use Rattle.std.specs.List.{All}
use Rattle.dn_model.specs.Entry.{IsEntryOf}
use Rattle.net_engine.specs.Version.{Kept, KeptStandsFor}
use Rattle.dn_model.specs.declared.entry.Entry.{Entry}
use Rattle.dn_model.specs.declared.topology.Topology.{Topology}

-- a network and its updates so far
pub record Past : Type 0 where
  pub topology : Topology
  pub entries : List Entry

-- one update more
abbrev pub more : Past → Entry → Past
more p e = record { topology = p.topology; entries = p.entries ++ e ∷ [] }

-- The version is the network's and stands for the updates so far, which are the network's, and the network has a router.
pub record IsCourse (t : Topology) (history : List Entry) (version : Kept) : Type 0 where
  pub some : 0 < length t.routers
  pub topology : version.topology ≡ t
  pub own : All (IsEntryOf t) history
  pub stands : KeptStandsFor version history
