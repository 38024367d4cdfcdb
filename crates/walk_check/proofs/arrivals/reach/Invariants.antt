use Rattle.std.proofs.Common.{◌+◌, ◌-◌, ◌*◌, ◌≤◌, length}
use Rattle.base.specs.Forwarding.{does}
use Rattle.base.specs.Reach.{reaches}
use Rattle.label_view.specs.Places.{AreGatheredTo}
use Rattle.walk_check.proofs.arrivals.reach.Given as goal

-- the runs are of the addresses of the rows so far that come to the router; each row took at most a look at each router
abbrev pub invariant-pages : goal.invariant-pages
invariant-pages g l = record {
  inside : l.from ≤ length (g.V.LabelView.rows l.view);
  runs : AreGatheredTo l.runs (g.V.LabelView.rows l.view) l.from (reaches (g.V.LabelView.width l.view) (does (g.V.LabelView.rows l.view)) l.first l.to);
  cost : l.steps ≤ l.initial.steps + l.from * g.V.LabelView.width l.view;
}

abbrev pub decreases-pages : goal.decreases-pages
decreases-pages g l = length (g.V.LabelView.rows l.view) - l.from
