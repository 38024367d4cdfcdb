use Rattle.std.proofs.Common.{◌≡◌, ◌≤◌, ◌∙◌, nat_lt, false, ap, sym, arith}
use Rattle.std.proofs.lemmas.Bool.{false≢true}
use Rattle.loop_keeper.proofs.Meeting.{finds-nothing, finds-nowhere, finds-outside}
use Rattle.loop_keeper.proofs.finding.goes_on.Goals as goal

pub returns-then-from-routers-clause-none : goal.returns-then-from-routers-clause-none
returns-then-from-routers-clause-none g c = λ no tells found.
    let far : g.V.LabelView.width c.args.view.now ≤ c.args.change.now.router.0 = omega (arith, c.from.ensures, c.routers.ensures.value, c.if-from-routers.true) in
    finds-nothing (g.V.LabelView.width c.args.view.now) (g.V.LabelView.rows c.args.view.now) c.args.change.now found c.routers.ensures.form far

pub returns-in-To-clause-none : goal.returns-in-To-clause-none
returns-in-To-clause-none g c = λ no tells found.
    let out : nat_lt c.in-To.far.0 (g.V.LabelView.width c.args.view.now) ≡ false =
    ap (λ n. nat_lt n (g.V.LabelView.width c.args.view.now)) (sym c.from-in-To.ensures) ∙ ap (λ n. nat_lt c.from-in-To.result n) (sym c.routers-in-To.ensures.value) ∙ no in
    finds-outside (g.V.LabelView.width c.args.view.now) (g.V.LabelView.rows c.args.view.now) c.args.change.now c.in-To.far c.in-To.field-1 found c.routers.ensures.form tells c.in-To.is out

pub returns-in_default : goal.returns-in_default
returns-in_default g c = record {
  form = c.routers.ensures.form;
  start = λ e. absurd (false≢true e);
  none = λ no tells found. finds-nowhere (g.V.LabelView.width c.args.view.now) (g.V.LabelView.rows c.args.view.now) c.args.change.now found c.routers.ensures.form tells (λ s k e. c.in_default.not-To s k e);
}
