use Rattle.std.proofs.Common.{ℕ, ◌≡◌, ◌+◌, ◌*◌, ◌≤◌, length, take, ap, arith}
use Rattle.std.proofs.Math.Nat.{add-mul}
use Rattle.std.proofs.lemmas.List.{length-take-le}
use Rattle.std.proofs.lemmas.Result.{IfOk-weaker}
use Rattle.base.specs.Forwarding.{does}
use Rattle.step_count.proofs.Counting.{steps_most}
use Rattle.blackhole.proofs.Telling.{holes-are, none-yet}
use Rattle.blackhole.proofs.holes.blackholes.Goals as goal

pub pages-init : goal.pages-init
pages-init g c = record {
  inside = omega arith;
  falls = none-yet _ c.new-ends.result.items _ _ c.atoms-rows.ensures.form c.new-ends.ensures.items;
  cost = omega arith;
}

pub returns-in_err-add_column-clause-cost : goal.returns-in_err-add_column-clause-cost
returns-in_err-add_column-clause-cost g c =
    let each : length (take c.column-count.result c.column-count.new.out) * g.V.LabelView.width c.args.view.now ≡ c.column-count.result * g.V.LabelView.width c.args.view.now = ap (λ (n : ℕ). n * g.V.LabelView.width c.args.view.now) (length-take-le c.column-count.result c.column-count.new.out c.column-count.ensures.within) in
    let sum : (c.pages.from + c.column-count.result) * g.V.LabelView.width c.args.view.now ≡ c.pages.from * g.V.LabelView.width c.args.view.now + c.column-count.result * g.V.LabelView.width c.args.view.now = add-mul c.pages.from c.column-count.result (g.V.LabelView.width c.args.view.now) in
    let cost : c.add_column.new.steps ≤ c.pages.steps + length (take c.column-count.result c.column-count.new.out) * g.V.LabelView.width c.args.view.now = c.add_column.ensures.cost in
    steps_most (g.V.LabelView.width c.args.view.now) c.args.steps.now c.add_column.new.steps (c.pages.from + c.column-count.result) (length (g.V.LabelView.rows c.args.view.now))
    (omega (arith, each, sum, cost, c.pages.invariant.cost)) c.column-count.ensures.inside

pub returns-clause-holes : goal.returns-clause-holes
returns-clause-holes g c =
    let end : length (g.V.LabelView.rows c.args.view.now) ≤ c.pages.from = omega (arith, c.atoms-rows.ensures.value, c.pages-test.false) in
    IfOk-weaker c.holes_of.result _ _ (λ holes are. holes-are (g.V.LabelView.width c.args.view.now) (does (g.V.LabelView.rows c.args.view.now)) c.args.first (g.V.LabelView.rows c.args.view.now) c.pages.from holes c.pages.ends.items end c.pages.invariant.falls are) c.holes_of.ensures
