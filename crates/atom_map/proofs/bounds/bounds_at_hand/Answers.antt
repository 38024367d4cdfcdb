use Rattle.std.proofs.Common.{◌≡◌, ◌+◌, ◌<◌, ◌∙◌, length, get_or, ap, sym, arith}
use Rattle.atom_map.proofs.Bounded.{low-of, page-inside, page-read, past-there}
use Rattle.atom_map.proofs.bounds.bounds_at_hand.Goals as goal

pub returns-in-len2-up-clause-low : goal.returns-in-len2-up-clause-low
returns-in-len2-up-clause-low c = λ d.
    let some : 0 < length c.run_from.result.now = omega (arith, c.in-len2-up.len_at_least) in
    let inside : c.args.i + 0 < length c.args.lows.now = page-inside c.args.lows.now c.run_from.result.now c.args.i 0 c.run_from.ensures.run some in
    let here : c.args.i + 0 ≡ c.args.i = omega arith in
    c.from.ensures
    ∙ sym (page-read c.args.lows.now c.run_from.result.now c.args.i 0 0 0 c.run_from.ensures.run some)
    ∙ ap (λ j. get_or c.args.lows.now j 0) here
    ∙ sym (low-of c.args.lows.now c.args.i d 0 (omega arith))

pub returns-in-len2-up-clause-past : goal.returns-in-len2-up-clause-past
returns-in-len2-up-clause-past c = λ d.
    let more : 1 < length c.run_from.result.now = omega (arith, c.in-len2-up.len_at_least) in
    past-there c.args.lows.now c.args.i d c.from-in-len2-up.result (page-inside c.args.lows.now c.run_from.result.now c.args.i 1 c.run_from.ensures.run more)
    (c.from-in-len2-up.ensures ∙ sym (page-read c.args.lows.now c.run_from.result.now c.args.i 1 0 0 c.run_from.ensures.run more))
