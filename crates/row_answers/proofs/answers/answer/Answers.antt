use Rattle.std.proofs.Common.{◌≡◌, ◌∙◌, length, true, ap, refl, sym, arith}
use Rattle.std.specs.Prelude.{◌==◌}
use Rattle.std.proofs.lemmas.Bool.Decides.{nat_tests}
use Rattle.std.proofs.lemmas.List.{nil_from_length}
use Rattle.dn_model.specs.Answer.{links_of}
use Rattle.row_answers.proofs.Looking.{looks_within, some_rows}
use Rattle.row_answers.proofs.SameAnswers.{answered-plain, answered-down}
use Rattle.row_answers.proofs.answers.answer.Goals as goal

pub returns-then-is_empty-clause-answer : goal.returns-then-is_empty-clause-answer
returns-then-is_empty-clause-answer g c =
    let test : (length c.without.result.now == 0) ≡ true = sym c.is_empty.ensures ∙ c.if-is_empty.true in
    answered-plain c.args.topology.now (g.V.LabelView.rows c.args.view.now) c.args.changes.now c.args.query.now c.shown.result
    (sym c.without.ensures.value ∙ nil_from_length c.without.result.now (grind (arith, nat_tests))) c.shown.ensures.answer

pub returns-clause-answer : goal.returns-clause-answer
returns-clause-answer g c =
    answered-down c.args.topology.now (g.V.LabelView.rows c.args.view.now) c.args.changes.now c.args.query.now c.shown-2.result c.as_slice.result.now _
    (c.as_slice.ensures.value ∙ c.in_ok-down.ensures ∙ ap (links_of c.args.topology.now) c.without-2.ensures.value) c.new-without.ensures.does c.shown-2.ensures.answer

pub returns-then-is_empty-clause-cost : goal.returns-then-is_empty-clause-cost
returns-then-is_empty-clause-cost g c =
    looks_within c.args.query.now.ask c.args.steps.now c.shown.new.steps _ _ (length (g.V.LabelView.rows c.args.view.now)) (g.V.LabelView.width c.args.view.now) c.shown.ensures.cost refl refl
    (some_rows _ _ c.routers-routers.ensures.form)

pub returns-clause-cost : goal.returns-clause-cost
returns-clause-cost g c =
    looks_within c.args.query.now.ask c.args.steps.now c.shown-2.new.steps _ _ (length (g.V.LabelView.rows c.args.view.now)) (g.V.LabelView.width c.args.view.now) c.shown-2.ensures.cost c.new-without.ensures.atoms c.new-without.ensures.width
    (some_rows _ _ c.routers-routers.ensures.form)
