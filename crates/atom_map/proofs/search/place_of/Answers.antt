use Rattle.std.proofs.Common.{ℕ, ◌<◌, ◌-◌, refl, arith, rules}
use Rattle.atom_map.specs.Index.{IsLeft}
use Rattle.atom_map.proofs.Placed.{found-to, left-of, some-past}
use Rattle.atom_map.proofs.search.place_of.Goals as goal

pub overflow_sub-result : goal.overflow_sub-result
overflow_sub-result c = some-past c.args.rows.now c.args.a c.count_below-past.result c.requires (λ d l. let k = c.count_below-past.ensures.after d l in search rules)

pub returns-clause-to : goal.returns-clause-to
returns-clause-to c =
    let past : ℕ = c.count_below-past.result in
    let some : 0 < c.count_below-past.result = overflow_sub-result c in
    let left : IsLeft c.args.rows.now c.args.a (c.count_below-past.result - 1) c.count_below-past.result =
    left-of c.args.rows.now c.args.a c.count_below-past.result (c.count_below-past.result - 1) some refl c.count_below-past.ensures.inside
    (λ d l. let k = c.count_below-past.ensures.before d l in search rules)
    (λ d l. let k = c.count_below-past.ensures.after d l in search rules) in
    λ d. found-to c.args.rows.now (c.count_below-past.result - 1) c.count_below-past.result c.args.a d c.requires left (omega arith) (omega arith)
