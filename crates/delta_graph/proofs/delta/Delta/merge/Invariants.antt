use Rattle.std.proofs.Common.{drop}
use Rattle.delta_graph.proofs.Merging.{Merges}
use Rattle.delta_graph.proofs.delta.Delta.merge.Given as goal

abbrev pub invariant-loop-change : goal.invariant-loop-change
invariant-loop-change l = Merges l.change-items (drop l.change-index l.change-items) l.self l.merged
