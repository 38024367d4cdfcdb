use Rattle.std.proofs.Common.{◌-◌, ◌<◌, length, arith}
use Rattle.std.proofs.lemmas.List.{get_or_default}
use Rattle.base.specs.Delta.{IsApart}
use Rattle.delta_graph.proofs.Pushing.{ends-last}
use Rattle.delta_graph.proofs.delta.is_behind.Goals as goal

pub returns-then-stands_off : goal.returns-then-stands_off
returns-then-stands_off c = λ _.
    let some : 0 < length c.args.changes.now = omega arith in
    let off : IsApart _ c.args.change.now = c.stands_off.ensures c.if-stands_off.true in
    ends-last c.args.changes.now _ c.args.change.now some (get_or_default c.args.changes.now (length c.args.changes.now - 1) _ _ (omega (arith, some))) off.order off.two

pub returns : goal.returns
returns c = λ yes.
    let some : 0 < length c.args.changes.now = omega arith in
    ends-last c.args.changes.now _ c.args.change.now some (get_or_default c.args.changes.now (length c.args.changes.now - 1) _ _ (omega (arith, some))) (c.goes_before.ensures.yes yes) (c.goes_on.ensures.refused c.if-goes_on.false)
