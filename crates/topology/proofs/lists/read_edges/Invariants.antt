use Rattle.std.proofs.Common.{◌≡◌, ◌++◌, map}
use Rattle.dn_model.specs.Topology.{all_ends}
use Rattle.toml.specs.View.{view}
use Rattle.topology.proofs.Runs.{EdgesSoFar}
use Rattle.topology.proofs.lists.read_edges.Given as goal

abbrev pub invariant-loop-entry : goal.invariant-loop-entry
invariant-loop-entry l = record {
  so_far : EdgesSoFar l.routers l.tables l.links (map view l.entries) l.entry-index l.edges;
  held : l.taken ≡ record { tables = l.tables; ends = all_ends l.links ++ l.edges };
}
