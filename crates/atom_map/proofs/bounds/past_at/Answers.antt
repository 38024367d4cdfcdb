use Rattle.std.proofs.Common.{◌≡◌, ◌≤◌, ◌<◌, ◌∙◌, ◌^◌, false, true, length, refl, arith}
use Rattle.atom_map.proofs.Bounded.{few-lows, past-last, past-there}
use Rattle.atom_map.proofs.bounds.past_at.Goals as goal

pub overflow_add-i : goal.overflow_add-i
overflow_add-i c =
    let few : length c.args.lows.now ≤ 2 ^ 32 = few-lows c.args.lows.now c.requires.form in
    let inside : c.args.i < length c.args.lows.now = c.requires.inside in
    omega arith

pub returns-in-Some : goal.returns-in-Some
returns-in-Some c = λ d. past-there c.args.lows.now c.args.i d c.from.result (c.in-Some.ensures.inside.0 refl) (c.from.ensures ∙ c.in-Some.ensures.element 0)

pub returns-in-None : goal.returns-in-None
returns-in-None c = λ d. past-last c.args.lows.now c.args.i d c.requires.inside (λ l. let t : false ≡ true = c.in-None.ensures.inside.1 l in cc)
