use Rattle.std.proofs.Common.{rules, ◌≡◌, ℕ, true, get_or, take, subst}
use Rattle.std.specs.List.{list_any}
use Rattle.base.specs.Runs.{holds}
use Rattle.net_engine.specs.Paired.{does_at}
use Rattle.net_engine.proofs.Moving.{apart-fresh, apart-order, holds-low, moved-already, moved-none, moved-step, run-low, run-past, same-still, untold-there, was-there}
use Rattle.net_engine.proofs.relabel.reroute.Goals as goal

pub turn_run-requires-clause-order : goal.turn_run-requires-clause-order
turn_run-requires-clause-order c = apart-order c.args.runs.now c.loop-run.run-index _ c.requires.apart c.loop-run-test.true

pub turn_run-requires-clause-first : goal.turn_run-requires-clause-first
turn_run-requires-clause-first c = run-low c.args.atoms.now c.args.runs.now c.loop-run.run-index _ c.requires.ends c.loop-run-test.true

pub turn_run-requires-clause-last : goal.turn_run-requires-clause-last
turn_run-requires-clause-last c = run-past c.args.atoms.now c.args.runs.now c.loop-run.run-index _ c.requires.ends c.loop-run-test.true

pub turn_run-requires-clause-same : goal.turn_run-requires-clause-same
turn_run-requires-clause-same c = same-still c.args.atoms.now c.args.labels.now c.loop-run.labels c.loop-run.delta c.args.aim.router c.args.runs.now c.loop-run.run-index _ c.args.aim.after c.requires.apart c.loop-run-test.true c.requires.same c.loop-run.invariant

pub tell-requires-clause-order : goal.tell-requires-clause-order
tell-requires-clause-order c = apart-order c.args.runs.now c.loop-run.run-index _ c.requires.apart c.loop-run-test.true

pub tell-requires-clause-free : goal.tell-requires-clause-free
tell-requires-clause-free c = λ a h. untold-there c.args.atoms.now c.args.labels.now c.loop-run.labels c.loop-run.delta c.args.aim.router (take c.loop-run.run-index c.args.runs.now) c.args.aim.after a c.loop-run.invariant
    (apart-fresh c.args.runs.now c.loop-run.run-index _ a c.requires.apart c.loop-run-test.true (holds-low a (get_or c.args.runs.now c.loop-run.run-index _) h))

pub loop-run-init : goal.loop-run-init
loop-run-init c = moved-none c.args.atoms.now c.args.labels.now c.emptied-delta.result c.args.aim.router c.args.aim.after c.requires.labelled c.emptied-delta.ensures

pub loop-run-preserved : goal.loop-run-preserved
loop-run-preserved c = moved-step c.args.atoms.now c.args.labels.now c.loop-run.labels c.turn_run.new.labels c.loop-run.delta c.tell.new.delta c.args.aim.router c.args.runs.now c.loop-run.run-index _ c.in_ok-turned.turned.before c.args.aim.after c.requires.apart c.loop-run-test.true
    (was-there c.args.atoms.now c.args.labels.now c.loop-run.labels c.loop-run.delta c.args.aim.router c.args.runs.now c.loop-run.run-index _ c.in_ok-turned.turned.before c.args.aim.after c.requires.apart c.loop-run-test.true c.requires.same c.loop-run.invariant c.in_ok-turned.ensures.before)
    c.loop-run.invariant c.in_ok-turned.ensures.moved c.in_ok-tell.ensures

pub returns-then-eq : goal.returns-then-eq
returns-then-eq c =
    let same : c.in_ok-turned.turned.before ≡ c.args.aim.after = search (rules, c.if-eq.ensures, c.if-eq.true, c.eq.ensures) in
    moved-already c.args.atoms.now c.args.labels.now c.loop-run.labels c.turn_run.new.labels c.loop-run.delta c.args.aim.router c.args.runs.now c.loop-run.run-index _ c.args.aim.after c.requires.apart c.loop-run-test.true
    (subst (λ t. (a : ℕ) → list_any (holds a) c.args.runs.now ≡ true → does_at c.args.atoms.now c.args.labels.now c.args.aim.router.0 a ≡ t) same
    (was-there c.args.atoms.now c.args.labels.now c.loop-run.labels c.loop-run.delta c.args.aim.router c.args.runs.now c.loop-run.run-index _ c.in_ok-turned.turned.before c.args.aim.after c.requires.apart c.loop-run-test.true c.requires.same c.loop-run.invariant c.in_ok-turned.ensures.before))
    c.loop-run.invariant c.in_ok-turned.ensures.moved
