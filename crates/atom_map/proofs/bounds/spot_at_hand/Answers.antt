use Rattle.std.proofs.Common.{◌+◌, ◌∙◌, ◌-◌, ap, sym, arith}
use Rattle.atom_map.proofs.Bounded.{page-place, page-read, spot-found}
use Rattle.atom_map.proofs.bounds.spot_at_hand.Goals as goal

pub returns : goal.returns
returns c = spot-found c.args.lows.now (c.page_near-first.result.1 + c.in_ok-below.below) c.args.a _
    (page-place c.args.lows.now c.page_near-first.result.0.now c.page_near-first.result.1 c.saturating_sub-left.result c.in_ok-below.below c.args.a c.page_near-first.ensures.page (c.saturating_sub-left.ensures ∙ ap (λ n. n - c.page_near-first.result.1) c.len.ensures) (omega arith) c.in_ok-below.ensures)
    (λ n. sym (page-read c.args.lows.now c.page_near-first.result.0.now c.page_near-first.result.1 c.in_ok-below.below n 0 c.page_near-first.ensures.page c.in_ok-below.ensures.inside))
