use Rattle.std.proofs.Common.{◌≡◌, ℕ, rules}
use Rattle.std.proofs.lemmas.Fn.{always_returns_same}
use Rattle.loop_check.specs.CycleOrder.{order_key}
use Rattle.loop_check.proofs.Sorting.{sorted-order}
use Rattle.loop_check.proofs.cycle_order.sort_cycles.Goals as goal

pub returns-clause-order : goal.returns-clause-order
returns-clause-order c = λ does h.
    sorted-order does c.args.cycles.now.items c.sort_unstable_by_key.new.self.items c.sort_unstable_by_key.ensures.permutation
    (c.sort_unstable_by_key.ensures.sorted order_key (always_returns_same _ (λ a (r : ℕ × ℕ). r ≡ order_key a.0.now) _ (λ a r q k. search rules))) h
