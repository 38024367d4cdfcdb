use Rattle.std.proofs.Common.{◌+◌, ◌<◌, ◌≤◌, ◌^◌, length, arith}
use Rattle.std.proofs.lemmas.Result.{on_ok_weaker}
use Rattle.base.specs.Forwarding.{row_low, row_past}
use Rattle.base.proofs.Covers.{few-rows}
use Rattle.loop_keeper.proofs.Along.{does-along, finds-on, looks-along, reach-later, reach-met}
use Rattle.loop_keeper.proofs.Looking.{looks-none}
use Rattle.loop_keeper.proofs.in_turn.find_along.Goals as goal

pub returns-then-not-goes_on-clause-found : goal.returns-then-not-goes_on-clause-found
returns-then-not-goes_on-clause-found g c = λ tells last. record { more = c.goes_on.ensures.none c.if-not-goes_on.true tells c.args.search.now.found.items; last = last }

pub returns-then-not-goes_on-clause-reach : goal.returns-then-not-goes_on-clause-reach
returns-then-not-goes_on-clause-reach g c = record {
  reached = reach-later (g.V.LabelView.rows c.args.view.now) c.args.reach.now.past c.args.change.now.run.lo c.args.change.now.run.hi c.requires.change.ends c.requires.reach.reached;
  ahead = c.requires.reach.ahead;
}

pub returns-then-not-goes_on-clause-cost : goal.returns-then-not-goes_on-clause-cost
returns-then-not-goes_on-clause-cost g c = λ test passes. looks-none (g.V.LabelView.width c.args.view.now) (g.V.LabelView.rows c.args.view.now) test c.args.reach.now.past c.args.reach.now.past c.args.steps.now (omega arith)

pub returns-then-ends_next-clause-found : goal.returns-then-ends_next-clause-found
returns-then-ends_next-clause-found g c = λ tells last. record { more = c.ends_next.ensures.none c.if-ends_next.true tells c.args.search.now.found.items; last = last }

pub returns-then-ends_next-clause-reach : goal.returns-then-ends_next-clause-reach
returns-then-ends_next-clause-reach g c = record {
  reached = reach-later (g.V.LabelView.rows c.args.view.now) c.args.reach.now.past c.args.change.now.run.lo c.args.change.now.run.hi c.requires.change.ends c.requires.reach.reached;
  ahead = c.ends_next.ensures.ahead;
}

pub returns-then-ends_next-clause-cost : goal.returns-then-ends_next-clause-cost
returns-then-ends_next-clause-cost g c = λ test passes. looks-none (g.V.LabelView.width c.args.view.now) (g.V.LabelView.rows c.args.view.now) test c.args.reach.now.past c.args.reach.now.past c.args.steps.now (omega arith)

pub overflow_add-past : goal.overflow_add-past
overflow_add-past g c =
    let few : 0 + length (g.V.LabelView.rows c.args.view.now) ≤ 2 ^ 32 = few-rows row_low row_past 0 (g.V.LabelView.rows c.args.view.now) c.goes_on.ensures.form.cover in
    let last : c.places_of-places.result.last < length (g.V.LabelView.rows c.args.view.now) = c.places_of-places.ensures.inside in
    omega arith

pub returns-clause-found : goal.returns-clause-found
returns-clause-found g c = on_ok_weaker c.find_between.result
    (λ between tells last. finds-on (g.V.LabelView.width c.args.view.now) (g.V.LabelView.rows c.args.view.now) c.args.change.now c.places_of-places.result.first c.places_of-places.result.last c.max-first.result c.args.reach.now.past c.args.search.now.found.items c.find_between.new.search.found.items c.goes_on.ensures.form c.requires.change c.places_of-places.ensures c.requires.reach.reached (omega (arith, c.max-first.ensures)) (λ k f b. omega (arith, c.max-first.ensures)) last
    (between (does-along (g.V.LabelView.width c.args.view.now) (g.V.LabelView.rows c.args.view.now) c.args.change.now c.places_of-places.result.first c.places_of-places.result.last c.max-first.result c.goes_on.ensures.form c.requires.change c.places_of-places.ensures (omega (arith, c.max-first.ensures)) tells)))
    c.find_between.ensures.found

pub returns-clause-reach : goal.returns-clause-reach
returns-clause-reach g c = record {
  reached = reach-met (g.V.LabelView.rows c.args.view.now) c.args.change.now c.places_of-places.result.first c.places_of-places.result.last c.places_of-places.ensures;
  ahead = c.read_on.ensures;
}

pub returns-clause-cost : goal.returns-clause-cost
returns-clause-cost g c = λ test passes. looks-along (g.V.LabelView.width c.args.view.now) (g.V.LabelView.width c.args.view.now) (g.V.LabelView.rows c.args.view.now) c.args.change.now test c.places_of-places.result.first c.places_of-places.result.last c.max-first.result c.args.reach.now.past c.args.steps.now c.find_between.new.steps c.goes_on.ensures.form c.requires.change c.places_of-places.ensures c.requires.reach.reached (omega (arith, c.max-first.ensures)) (omega (arith, c.max-first.ensures)) passes c.find_between.ensures.cost
