use Rattle.std.proofs.Common.{◌∙◌, ◌-◌, ap, arith}
use Rattle.atom_map.proofs.Bounded.{page-place}
use Rattle.atom_map.proofs.bounds.places_at_hand.Goals as goal

pub returns-clause-first : goal.returns-clause-first
returns-clause-first c = page-place c.args.lows.now c.page_near-from.result.0.now c.page_near-from.result.1 c.saturating_sub-left.result c.in_ok-first.first c.args.lo c.page_near-from.ensures.page (c.saturating_sub-left.ensures ∙ ap (λ n. n - c.page_near-from.result.1) c.len.ensures) (omega arith) c.in_ok-first.ensures

pub returns-clause-last : goal.returns-clause-last
returns-clause-last c = page-place c.args.lows.now c.page_near-from.result.0.now c.page_near-from.result.1 c.saturating_sub-left.result c.in_ok-last.last c.args.hi c.page_near-from.ensures.page (c.saturating_sub-left.ensures ∙ ap (λ n. n - c.page_near-from.result.1) c.len.ensures) (omega arith) c.in_ok-last.ensures
