use Rattle.std.proofs.Common.{◌≡◌, ◌∙◌, length, true, ap, sym, arith}
use Rattle.std.specs.Prelude.{◌==◌}
use Rattle.std.proofs.lemmas.Bool.Decides.{nat_tests}
use Rattle.std.proofs.lemmas.List.{nil_from_length}
use Rattle.dn_model.specs.Answer.{links_of}
use Rattle.row_answers.proofs.SameAnswers.{answered-plain, answered-down}
use Rattle.row_answers.proofs.wide.answer_wide.Goals as goal

pub returns-then-is_empty : goal.returns-then-is_empty
returns-then-is_empty g c =
    let test : (length c.without.result.now == 0) ≡ true = sym c.is_empty.ensures ∙ c.if-is_empty.true in
    record {
      answer = answered-plain c.args.topology.now (g.V.LabelView.rows c.args.view.now) c.args.changes.now c.args.query.now c.shown_wide.result
          (sym c.without.ensures.value ∙ nil_from_length c.without.result.now (grind (arith, nat_tests))) c.shown_wide.ensures;
    }

pub returns : goal.returns
returns g c = record {
  answer = answered-down c.args.topology.now (g.V.LabelView.rows c.args.view.now) c.args.changes.now c.args.query.now c.shown_wide-2.result c.as_slice.result.now _
      (c.as_slice.ensures.value ∙ c.in_ok-down.ensures ∙ ap (links_of c.args.topology.now) c.without-2.ensures.value) c.new-without.ensures.does c.shown_wide-2.ensures;
}
