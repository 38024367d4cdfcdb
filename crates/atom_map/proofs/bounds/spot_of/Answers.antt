use Rattle.std.proofs.Common.{◌-◌, ◌<◌, rules, arith}
use Rattle.atom_map.proofs.Bounded.{place-before, some-begun, spot-found}
use Rattle.atom_map.proofs.bounds.spot_of.Goals as goal

pub overflow_sub-place : goal.overflow_sub-place
overflow_sub-place c = some-begun c.args.lows.now c.args.a c.count_below-begun.result c.requires (λ n l. let k = c.count_below-begun.ensures.after n l in search rules)

pub returns : goal.returns
returns c =
    let some : 0 < c.count_below-begun.result = some-begun c.args.lows.now c.args.a c.count_below-begun.result c.requires (λ n l. let k = c.count_below-begun.ensures.after n l in search rules) in
    spot-found c.args.lows.now (c.count_below-begun.result - 1) c.args.a c.low_at.result
    (place-before c.args.lows.now c.count_below-begun.result c.args.a some (omega arith) c.count_below-begun.ensures.inside
    (λ n l. let k = c.count_below-begun.ensures.before n l in search rules)
    (λ n l. let k = c.count_below-begun.ensures.after n l in search rules))
    c.low_at.ensures
