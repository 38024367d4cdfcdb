use Rattle.std.proofs.Common.{◌+◌, ◌-◌, ◌*◌, ◌≤◌, length}
use Rattle.base.specs.Forwarding.{does}
use Rattle.base.specs.Reach.{misses}
use Rattle.label_view.specs.Places.{AreGatheredTo}
use Rattle.waypoint.proofs.missed.waypoint.Given as goal

-- the runs are of the addresses of the rows so far that miss the waypoint; each row took at most a look at each router
abbrev pub invariant-pages : goal.invariant-pages
invariant-pages g l = record {
  inside : l.from ≤ length (g.V.LabelView.rows l.view);
  runs : AreGatheredTo l.runs (g.V.LabelView.rows l.view) l.from (misses (g.V.LabelView.width l.view) (does (g.V.LabelView.rows l.view)) l.first l.fn.to l.fn.through);
  cost : l.steps ≤ l.initial.steps + l.from * g.V.LabelView.width l.view;
}

abbrev pub decreases-pages : goal.decreases-pages
decreases-pages g l = length (g.V.LabelView.rows l.view) - l.from
