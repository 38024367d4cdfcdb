use Rattle.std.proofs.Common.{map}
use Rattle.toml.specs.View.{view}
use Rattle.topology.proofs.Runs.{RoutersSoFar}
use Rattle.topology.proofs.lists.read_routers.Given as goal

abbrev pub invariant-loop-entry : goal.invariant-loop-entry
invariant-loop-entry l = RoutersSoFar (map view l.entries) l.entry-index l.names
