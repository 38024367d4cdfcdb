use Rattle.std.proofs.Common.{◌+◌, ◌<◌, ◌≤◌, ◌∙◌, subst, sym, arith}
use Rattle.net_engine.proofs.Moving.{holds-from}
use Rattle.net_engine.proofs.Relabelling.{does-at-first, relabelled-run, run-moved, same-by-place, some-between}
use Rattle.net_engine.proofs.relabel.turn_run.Goals as goal

pub turn_run-requires-clause-some : goal.turn_run-requires-clause-some
turn_run-requires-clause-some c = some-between c.args.atoms.now c.places-first.result.0 c.places-first.result.1 c.args.turn.run.lo (c.args.turn.run.hi + 1) c.requires.labelled.atoms c.places-first.ensures.first c.places-first.ensures.past (omega (arith, c.requires.order))

pub turn_run-requires-clause-inside : goal.turn_run-requires-clause-inside
turn_run-requires-clause-inside c = subst (λ n. c.places-first.result.1 ≤ n) (sym c.requires.labelled.there) c.places-first.ensures.past.inside

pub turn_run-requires-clause-same : goal.turn_run-requires-clause-same
turn_run-requires-clause-same c = same-by-place c.args.atoms.now c.args.labels.now c.args.turn.router.0 c.places-first.result.0 c.places-first.result.1 c.args.turn.run.lo (c.args.turn.run.hi + 1) c.requires.labelled.atoms c.places-first.ensures.first c.places-first.ensures.past (omega (arith, c.requires.order)) (omega arith)
    (λ a low high. c.requires.same a (holds-from a c.args.turn.run low (omega arith)))

pub returns-clause-moved : goal.returns-clause-moved
returns-clause-moved c =
    let some : c.places-first.result.0 < c.places-first.result.1 = some-between c.args.atoms.now c.places-first.result.0 c.places-first.result.1 c.args.turn.run.lo (c.args.turn.run.hi + 1) c.requires.labelled.atoms c.places-first.ensures.first c.places-first.ensures.past (omega (arith, c.requires.order)) in
    relabelled-run c.args.atoms.now c.args.labels.now c.turn_run.new.self c.args.turn.router.0 c.args.turn.run.lo (c.args.turn.run.hi + 1) c.places-first.result.0 c.places-first.result.1 c.args.turn.after c.requires.labelled c.places-first.ensures.first c.places-first.ensures.past (omega arith)
    (run-moved c.args.atoms.now c.args.labels.now c.turn_run.new.self c.args.turn.router.0 c.places-first.result.0 c.places-first.result.1 c.args.turn.after c.requires.labelled c.requires.router (omega (arith, some)) c.places-first.ensures.past.inside c.in_ok-before.ensures.moved)

pub returns-clause-before : goal.returns-clause-before
returns-clause-before c = c.in_ok-before.ensures.before ∙ sym (does-at-first c.args.atoms.now c.args.labels.now c.args.turn.router.0 c.places-first.result.0 c.args.turn.run.lo c.requires.labelled.atoms c.places-first.ensures.first (omega (arith, c.requires.order)))
