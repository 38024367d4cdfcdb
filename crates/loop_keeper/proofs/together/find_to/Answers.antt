use Rattle.std.proofs.Common.{ℕ, ◌+◌, ◌-◌, ◌*◌, ◌≤◌, subst, arith}
use Rattle.std.specs.Prelude.{min}
use Rattle.std.proofs.lemmas.Result.{on_ok_weaker}
use Rattle.loop_keeper.proofs.Fronts.{finds-to, looks-both}
use Rattle.loop_keeper.proofs.Looking.{looks-most}
use Rattle.loop_keeper.proofs.together.find_to.Goals as goal

pub returns-in_err-find_within-clause-cost : goal.returns-in_err-find_within-clause-cost
returns-in_err-find_within-clause-cost g c = looks-most (g.V.LabelView.width c.args.view.now) c.args.steps.now c.find_within.new.steps (c.min-shared.result - c.args.front.place) (min c.args.front.past c.args.to - c.args.front.place) c.find_within.ensures.cost (omega (arith, c.min-shared.ensures, c.requires.shared))

pub returns-clause-found : goal.returns-clause-found
returns-clause-found g c = on_ok_weaker c.find_between.result
    (λ between does. finds-to (g.V.LabelView.rows c.args.view.now) c.args.front c.args.to c.min-past.result c.min-shared.result c.max-first.result c.args.search.now.found.items c.find_within.new.search.found.items c.find_between.new.search.found.items c.min-past.ensures c.min-shared.ensures (omega (arith, c.max-first.ensures)) c.in_ok-find_within.ensures.found
    (between (λ k f b. does k (omega (arith, c.max-first.ensures)) (omega (arith, c.min-past.ensures)))))
    c.find_between.ensures.found

pub returns-clause-inside : goal.returns-clause-inside
returns-clause-inside g c = on_ok_weaker c.find_between.result (λ between h. between (c.in_ok-find_within.ensures.found.inside h)) c.find_between.ensures.inside

pub returns-clause-cost : goal.returns-clause-cost
returns-clause-cost g c =
    let P : ℕ → Type 0 = λ v. c.find_between.new.steps ≤ c.find_within.new.steps + g.V.LabelView.width c.args.view.now * (v - c.max-first.result) in
    looks-both (g.V.LabelView.width c.args.view.now) c.args.steps.now c.find_within.new.steps c.find_between.new.steps c.args.front.place (min c.args.front.past c.args.to) c.min-shared.result c.max-first.result (omega (arith, c.min-shared.ensures, c.requires.shared)) c.max-first.ensures c.find_within.ensures.cost (subst P c.min-past.ensures c.find_between.ensures.cost)
