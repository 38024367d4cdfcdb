use Rattle.std.proofs.Common.{◌∙◌, arith}
use Rattle.step_count.proofs.Counting.{steps_more}
use Rattle.loop_check.proofs.RowRuns.{before-first, known-none}
use Rattle.loop_check.proofs.cycles.loops.Goals as goal

pub loop-i-init : goal.loop-i-init
loop-i-init g c = record {
  targets = c.in_ok-work.ensures.targets ∙ c.routers.ensures.value;
  passed = c.in_ok-work.ensures.passed ∙ c.routers.ensures.value;
  known = known-none (g.V.LabelView.rows c.args.view.now) 0 c.new-known.result.entries c.new-known.ensures.empty;
  before = before-first (g.V.LabelView.width c.args.view.now) (g.V.LabelView.rows c.args.view.now) c.new-known.result.entries c.routers.ensures.form;
  cost = omega arith;
}

pub loop-i-preserved : goal.loop-i-preserved
loop-i-preserved g c = record {
  targets = c.cycles_at.ensures.targets;
  passed = c.cycles_at.ensures.passed;
  known = c.in_ok-add_cycles.ensures.known;
  before = c.in_ok-add_cycles.ensures.before;
  cost = steps_more (g.V.LabelView.width c.args.view.now) c.args.steps.now c.loop-i.steps c.cycles_at.new.steps c.loop-i.i c.loop-i.invariant.cost c.cycles_at.ensures.cost;
}
