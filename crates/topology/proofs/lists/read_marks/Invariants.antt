use Rattle.std.proofs.Common.{map}
use Rattle.toml.specs.View.{view}
use Rattle.topology.proofs.MarkRuns.{MarksSoFar}
use Rattle.topology.proofs.lists.read_marks.Given as goal

abbrev pub invariant-loop-entry : goal.invariant-loop-entry
invariant-loop-entry l = MarksSoFar l.routers (map view l.entries) l.entry-index l.marks
