use Rattle.std.proofs.Common.{rules}
use Rattle.std.proofs.lemmas.List.Sorted.{IsNonDecreasingBy-from_sort_by_key}
use Rattle.dn_run.proofs.backs.in_order.Goals as goal

pub returns-clause-rises : goal.returns-clause-rises
returns-clause-rises g c = IsNonDecreasingBy-from_sort_by_key (λ b. b.1.feed_no) _ c.sort_unstable_by_key.ensures.sorted (λ a r f' k. search rules)
