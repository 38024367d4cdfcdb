use Rattle.edge_labels.proofs.GraphLemmas.{first-kept}
use Rattle.target_rows.proofs.TargetLemmas.{first-seen}
use Rattle.edge_labels.proofs.label_graph.LabelGraph.new.Goals as goal

pub invariant_of-result : goal.invariant_of-result
invariant_of-result c = first-kept c.args.routers c.in_ok-codes.field-0.codes c.in_ok-codes.field-0.book c.in_ok-sets.sets c.empty.result c.in_ok-codes.ensures c.in_ok-sets.ensures c.empty.ensures

pub returns : goal.returns
returns c = first-seen c.args.routers c.in_ok-codes.field-0.codes c.in_ok-codes.field-0.book c.in_ok-codes.ensures
