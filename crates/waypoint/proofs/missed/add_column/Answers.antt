use Rattle.base.specs.Forwarding.{does}
use Rattle.base.specs.Reach.{misses}
use Rattle.label_view.proofs.InRow.{gathered-on}
use Rattle.step_count.proofs.Counting.{steps_more}
use Rattle.waypoint.proofs.missed.add_column.Goals as goal

pub loop-k-preserved : goal.loop-k-preserved
loop-k-preserved g c = record {
  runs = gathered-on c.push_row_if.new.self (g.V.LabelView.rows c.args.view.now) c.args.column.now.from c.loop-k.k (misses (g.V.LabelView.width c.args.view.now) (does (g.V.LabelView.rows c.args.view.now)) c.args.column.now.router c.args.asked.to c.args.asked.through)
      (c.in_ok-push_row_if.ensures (misses (g.V.LabelView.width c.args.view.now) (does (g.V.LabelView.rows c.args.view.now)) c.args.column.now.router c.args.asked.to c.args.asked.through) c.loop-k.invariant.runs c.row_misses-passes.ensures.misses);
  cost = steps_more (g.V.LabelView.width c.args.view.now) c.args.steps.now c.loop-k.steps c.row_misses-passes.new.steps c.loop-k.k c.loop-k.invariant.cost c.row_misses-passes.ensures.cost;
}
