use Rattle.edge_labels.specs.Rows.{AreFirstSets}
use Rattle.edge_labels.proofs.label_graph.first_sets.Given as goal

abbrev pub invariant-loop-router : goal.invariant-loop-router
invariant-loop-router l = AreFirstSets l._router l.sets
