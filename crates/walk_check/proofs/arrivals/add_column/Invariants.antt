use Rattle.std.proofs.Common.{◌+◌, ◌*◌, ◌≤◌}
use Rattle.base.specs.Forwarding.{does}
use Rattle.base.specs.Reach.{reaches}
use Rattle.label_view.specs.Places.{AreGatheredTo}
use Rattle.walk_check.proofs.arrivals.add_column.Given as goal

-- the runs are of the addresses of the rows so far that come to the router; each row took at most a look at each router
abbrev pub invariant-loop-k : goal.invariant-loop-k
invariant-loop-k g l = record {
  runs : AreGatheredTo l.runs (g.V.LabelView.rows l.view) (l.column.from + l.k) (reaches (g.V.LabelView.width l.view) (does (g.V.LabelView.rows l.view)) l.column.router l.to);
  cost : l.steps ≤ l.initial.steps + l.k * g.V.LabelView.width l.view;
}
