use Rattle.std.proofs.Common.{◌-◌, ◌<◌, subst, arith}
use Rattle.std.proofs.lemmas.List.{get_or_default}
use Rattle.base.specs.Delta.{GoesOn}
use Rattle.base.specs.declared.change.Change.{Change}
use Rattle.delta_graph.proofs.Joints.{left-none, left-one}
use Rattle.delta_graph.proofs.Pushing.{ends-at}
use Rattle.delta_graph.proofs.delta.join_left.Goals as goal

pub returns-then-goes_on : goal.returns-then-goes_on
returns-then-goes_on c =
    let some : 0 < c.args.place = c.if-place-gt0.true in
    left-one c.args.changes.now c.args.place (c.args.place - 1) c.args.change _ c.joined.result (omega arith) (omega (arith, c.requires.inside)) c.requires.form (get_or_default c.args.changes.now (c.args.place - 1) _ _ (omega (arith, c.requires.inside))) c.requires.sound (c.goes_on.ensures.yes c.if-goes_on.true)
    (λ s. record { on = c.goes_on.ensures.yes c.if-goes_on.true; first = s; second = c.requires.sound; router = c.joined.ensures.router; lo = c.joined.ensures.lo; hi = c.joined.ensures.hi; before = c.joined.ensures.before; after = c.joined.ensures.after })

pub returns-else-goes_on : goal.returns-else-goes_on
returns-else-goes_on c = left-none c.args.changes.now c.args.place c.args.change c.requires.sound (ends-at c.args.changes.now c.args.place c.args.change c.requires.inside (λ some.
    let P : Change → Type 0 = λ d. GoesOn d c.args.change → ⊥ in
    record { order = c.requires.order some; two = subst P (get_or_default c.args.changes.now (c.args.place - 1) _ c.args.change (omega (arith, c.requires.inside))) (c.goes_on.ensures.refused c.if-goes_on.false) }))
