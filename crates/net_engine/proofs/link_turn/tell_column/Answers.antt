use Rattle.std.proofs.Common.{ℕ, ◌≡◌, ◌+◌, arith, subst}
use Rattle.label_view.specs.Places.{begin_of}
use Rattle.net_engine.specs.LinkTurn.{IsTurnTold}
use Rattle.net_engine.proofs.Turning.{rows-skipped}
use Rattle.net_engine.proofs.link_turn.tell_column.Goals as goal

pub rows-init : goal.rows-init
rows-init g c =
    let none : c.args.column.now.from ≡ c.args.column.now.from + 0 = omega arith in
    record {
      inside = c.next_over-k.ensures.inside;
      told =
          rows-skipped (g.V.LabelView.width c.args.view.now) (g.V.LabelView.rows c.args.view.now) c.args.turn.now.before.now c.args.turn.now.after.now c.args.delta.now c.args.column.now.router c.args.column.now.from c.args.column.now.targets.now 0 c.next_over-k.result c.args.turn.now.link c.requires.form c.requires.inside c.requires.column c.next_over-k.ensures.from c.next_over-k.ensures.inside c.requires.alike c.next_over-k.ensures.none
          (subst (λ m. IsTurnTold c.args.turn.now.before.now c.args.turn.now.after.now (g.V.LabelView.rows c.args.view.now) c.args.delta.now c.args.column.now.router.0 (begin_of (g.V.LabelView.rows c.args.view.now) m)) none c.requires.told);
    }

pub rows-preserved : goal.rows-preserved
rows-preserved g c = record {
  inside = c.next_over-k-in-rows.ensures.inside;
  told =
      rows-skipped (g.V.LabelView.width c.args.view.now) (g.V.LabelView.rows c.args.view.now) c.args.turn.now.before.now c.args.turn.now.after.now c.tell_some.new.delta c.args.column.now.router c.args.column.now.from c.args.column.now.targets.now c.in_ok-past.past c.next_over-k-in-rows.result c.args.turn.now.link c.requires.form c.requires.inside c.requires.column c.next_over-k-in-rows.ensures.from c.next_over-k-in-rows.ensures.inside c.requires.alike c.next_over-k-in-rows.ensures.none c.in_ok-past.ensures.told;
}
