use Rattle.std.proofs.Common.{◌≡◌, ◌+◌, ◌*◌, ◌≤◌, vec_len}
use Rattle.loop_check.specs.CycleRuns.{AreKnownTo, HaveAllBefore}
use Rattle.loop_check.proofs.cycles.loops.Given as goal

-- what the rows so far show; each row took at most a look at each router
abbrev pub invariant-loop-i : goal.invariant-loop-i
invariant-loop-i g l = record {
  targets : vec_len l.work.targets ≡ g.V.LabelView.width l.view;
  passed : vec_len l.work.passed ≡ g.V.LabelView.width l.view;
  known : AreKnownTo (g.V.LabelView.rows l.view) l.i l.known.entries;
  before : HaveAllBefore (g.V.LabelView.rows l.view) l.i l.known.entries;
  cost : l.steps ≤ l.initial.steps + l.i * g.V.LabelView.width l.view;
}
