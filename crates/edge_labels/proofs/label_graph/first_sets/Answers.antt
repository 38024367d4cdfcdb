use Rattle.std.proofs.Common.{◌∙◌}
use Rattle.edge_labels.proofs.GraphLemmas.{first-sets-more, first-sets-none, zero-alone}
use Rattle.edge_labels.proofs.label_graph.first_sets.Goals as goal

pub loop-router-init : goal.loop-router-init
loop-router-init c = first-sets-none _ c.new-sets.ensures

pub loop-router-preserved : goal.loop-router-preserved
loop-router-preserved c = first-sets-more c.loop-router._router c.loop-router.sets c.push.new.self c.in_ok-of.field-0 c.loop-router.invariant c.in_ok-push.ensures (λ a. c.in_ok-of.ensures.exact a ∙ zero-alone a)
