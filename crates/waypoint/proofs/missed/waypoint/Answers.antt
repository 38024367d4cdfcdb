use Rattle.std.proofs.Common.{ℕ, ◌≡◌, ◌+◌, ◌*◌, ◌≤◌, length, take, ap, arith}
use Rattle.std.proofs.Math.Nat.{add-mul}
use Rattle.std.proofs.lemmas.List.{length-take-le}
use Rattle.base.specs.Forwarding.{does}
use Rattle.base.specs.Reach.{misses}
use Rattle.label_view.proofs.InRow.{gathered-all, gathered-start}
use Rattle.step_count.proofs.Counting.{steps_most}
use Rattle.waypoint.proofs.missed.waypoint.Goals as goal

pub pages-init : goal.pages-init
pages-init g c = record {
  inside = omega arith;
  runs = gathered-start _ c.new-runs.result _ _ c.atoms-rows.ensures.form c.new-runs.ensures.runs c.new-runs.ensures.past;
  cost = omega arith;
}

pub returns-clause-runs : goal.returns-clause-runs
returns-clause-runs g c =
    let end : length (g.V.LabelView.rows c.args.view.now) ≤ c.pages.from = omega (arith, c.atoms-rows.ensures.value, c.pages-test.false) in
    gathered-all (g.V.LabelView.rows c.args.view.now) c.pages.from c.pages.runs c.in_ok-finish.field-0 (misses (g.V.LabelView.width c.args.view.now) (does (g.V.LabelView.rows c.args.view.now)) c.args.first c.args.to c.args.through) end c.pages.invariant.runs c.in_ok-finish.ensures.value c.in_ok-finish.ensures.apart

pub returns-in_err-add_column-clause-cost : goal.returns-in_err-add_column-clause-cost
returns-in_err-add_column-clause-cost g c =
    let each : length (take c.column-count.result c.column-count.new.out) * g.V.LabelView.width c.args.view.now ≡ c.column-count.result * g.V.LabelView.width c.args.view.now = ap (λ (n : ℕ). n * g.V.LabelView.width c.args.view.now) (length-take-le c.column-count.result c.column-count.new.out c.column-count.ensures.within) in
    let sum : (c.pages.from + c.column-count.result) * g.V.LabelView.width c.args.view.now ≡ c.pages.from * g.V.LabelView.width c.args.view.now + c.column-count.result * g.V.LabelView.width c.args.view.now = add-mul c.pages.from c.column-count.result (g.V.LabelView.width c.args.view.now) in
    let cost : c.add_column.new.steps ≤ c.pages.steps + length (take c.column-count.result c.column-count.new.out) * g.V.LabelView.width c.args.view.now = c.add_column.ensures.cost in
    steps_most (g.V.LabelView.width c.args.view.now) c.args.steps.now c.add_column.new.steps (c.pages.from + c.column-count.result) (length (g.V.LabelView.rows c.args.view.now))
    (omega (arith, each, sum, cost, c.pages.invariant.cost)) c.column-count.ensures.inside
