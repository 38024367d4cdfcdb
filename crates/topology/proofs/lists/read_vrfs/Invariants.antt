use Rattle.std.proofs.Common.{map}
use Rattle.toml.specs.View.{view}
use Rattle.topology.proofs.VrfRuns.{VrfsSoFar}
use Rattle.topology.proofs.lists.read_vrfs.Given as goal

abbrev pub invariant-loop-entry : goal.invariant-loop-entry
invariant-loop-entry l = VrfsSoFar l.fn.names (map view l.entries) l.entry-index l.names l.tables
