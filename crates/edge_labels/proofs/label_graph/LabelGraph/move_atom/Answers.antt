use Rattle.std.proofs.Common.{◌∙◌}
use Rattle.edge_labels.proofs.MovedLemmas.{moved-same}
use Rattle.edge_labels.proofs.label_graph.LabelGraph.move_atom.Goals as goal

pub returns-then-is_same : goal.returns-then-is_same
returns-then-is_same c = moved-same c.args.self c.args.r.0 c.args.atom.0 c.args.after (c.requires.before ∙ c.is_same.ensures c.if-is_same.true)
