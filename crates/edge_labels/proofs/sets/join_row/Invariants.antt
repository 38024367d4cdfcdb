use Rattle.std.proofs.Common.{take}
use Rattle.edge_labels.specs.Rows.{AreRowJoined}
use Rattle.edge_labels.proofs.sets.join_row.Given as goal

abbrev pub invariant-loop-code : goal.invariant-loop-code
invariant-loop-code l = AreRowJoined l.fn.sets l.sets (take l.code-index l.row) l.atom.0
