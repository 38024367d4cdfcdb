-- Interfaces found by their device and number.
use Rattle.std.specs.Prelude.{ℕ, Bool, List, [], ◌∷◌, ◌++◌, ◌==◌, ◌&&◌, ◌||◌}
use Rattle.std.specs.HashSet.{HashSet, contains}
use Rattle.std.specs.declared.hash.FoldHasher.{FoldHasher}
use Rattle.std.specs.declared.hash.BuildHasherDefault.{BuildHasherDefault}
use Rattle.dn_model.specs.declared.topology.RouterTable.{RouterTable}
use Rattle.dn_model.specs.declared.topology.TopoEnd.{TopoEnd}
use Rattle.dn_model.specs.Topology.{device_in}
use Rattle.dn_formats.specs.TopologyText.{has_end}

-- the ends that are taken, and whose table each router is
pub record Taken : Type 0 where
  pub tables : List RouterTable
  pub ends : List TopoEnd

-- whether a set of interfaces, each by the place of its device and its number, has the one that an end is
abbrev pub contains_end : HashSet (ℕ × ℕ) (BuildHasherDefault FoldHasher) → List RouterTable → TopoEnd → Bool
contains_end found tables e =
    contains (λ a b. (a.0 == b.0) && (a.1 == b.1)) found ((device_in tables e.router).0, e.index)

-- whether one of two ends is taken, where the first is taken before the second
abbrev pub is_pair_taken : Taken → TopoEnd × TopoEnd → Bool
is_pair_taken taken both =
    has_end taken.tables taken.ends both.0 || has_end taken.tables (taken.ends ++ both.0 ∷ []) both.1

-- the same and more ends
abbrev pub with_ends : Taken → List TopoEnd → Taken
with_ends taken more = record { tables = taken.tables; ends = taken.ends ++ more }
