use Rattle.std.proofs.Common.{◌≡◌, map}
use Rattle.dn_model.specs.Topology.{all_ends}
use Rattle.toml.specs.View.{view}
use Rattle.topology.proofs.Runs.{LinksSoFar}
use Rattle.topology.proofs.lists.read_links.Given as goal

abbrev pub invariant-loop-entry : goal.invariant-loop-entry
invariant-loop-entry l = record {
  so_far : LinksSoFar l.routers l.tables (map view l.entries) l.entry-index l.links;
  held : l.taken ≡ record { tables = l.tables; ends = all_ends l.links };
}
