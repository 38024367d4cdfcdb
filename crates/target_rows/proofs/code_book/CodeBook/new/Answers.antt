use Rattle.std.proofs.Common.{ap, ◌∙◌}
use Rattle.target_rows.proofs.EdgeOrder.{indexed-none}
use Rattle.target_rows.proofs.code_book.CodeBook.new.Goals as goal

pub invariant_of-result : goal.invariant_of-result
invariant_of-result c = indexed-none _ _ (ap (λ v. v.items) c.in_ok-edges.ensures.ok ∙ c.new-3.ensures.items) (ap (λ m. m.entries) c.in_ok-index.ensures.ok ∙ c.new.ensures.empty)
