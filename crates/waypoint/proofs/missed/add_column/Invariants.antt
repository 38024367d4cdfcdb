use Rattle.std.proofs.Common.{◌+◌, ◌*◌, ◌≤◌}
use Rattle.base.specs.Forwarding.{does}
use Rattle.base.specs.Reach.{misses}
use Rattle.label_view.specs.Places.{AreGatheredTo}
use Rattle.waypoint.proofs.missed.add_column.Given as goal

-- the runs are of the addresses of the rows so far that miss the waypoint; each row took at most a look at each router
abbrev pub invariant-loop-k : goal.invariant-loop-k
invariant-loop-k g l = record {
  runs : AreGatheredTo l.runs (g.V.LabelView.rows l.view) (l.column.from + l.k) (misses (g.V.LabelView.width l.view) (does (g.V.LabelView.rows l.view)) l.column.router l.asked.to l.asked.through);
  cost : l.steps ≤ l.initial.steps + l.k * g.V.LabelView.width l.view;
}
