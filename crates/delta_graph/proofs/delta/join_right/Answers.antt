use Rattle.std.proofs.Common.{subst}
use Rattle.std.proofs.lemmas.List.{get_or_default}
use Rattle.base.specs.Delta.{GoesOn}
use Rattle.base.specs.declared.change.Change.{Change}
use Rattle.delta_graph.proofs.Joints.{right-none, right-one}
use Rattle.delta_graph.proofs.Pushing.{first-at}
use Rattle.delta_graph.proofs.delta.join_right.Goals as goal

pub returns-then-goes_on : goal.returns-then-goes_on
returns-then-goes_on c = right-one c.args.changes.now c.args.place c.args.change _ c.joined.result c.if-place-changes.true c.requires.form (get_or_default c.args.changes.now c.args.place _ _ c.if-place-changes.true) (c.goes_on.ensures.yes c.if-goes_on.true)
    (λ s. record { on = c.goes_on.ensures.yes c.if-goes_on.true; first = c.requires.sound; second = s; router = c.joined.ensures.router; lo = c.joined.ensures.lo; hi = c.joined.ensures.hi; before = c.joined.ensures.before; after = c.joined.ensures.after })

pub returns-else-goes_on : goal.returns-else-goes_on
returns-else-goes_on c = right-none c.args.changes.now c.args.place c.args.change c.requires.sound c.requires.inside (first-at c.args.changes.now c.args.place c.args.change (λ lt.
    let P : Change → Type 0 = λ d. GoesOn c.args.change d → ⊥ in
    record { order = c.requires.order lt; two = subst P (get_or_default c.args.changes.now c.args.place _ c.args.change lt) (c.goes_on.ensures.refused c.if-goes_on.false) }))
