use Rattle.std.proofs.Common.{rules}
use Rattle.edge_labels.proofs.Swapped.{swapped}
use Rattle.edge_labels.proofs.sets.swap.Goals as goal

pub returns-clause-new : goal.returns-clause-new
returns-clause-new c = swapped _ _ _ _ _ _ _ (λ x y r k. search rules) c.change.ensures.changed
