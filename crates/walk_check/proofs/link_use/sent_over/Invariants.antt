use Rattle.std.proofs.Common.{◌+◌, ◌-◌, ◌≤◌, length}
use Rattle.base.specs.Forwarding.{does}
use Rattle.base.specs.Reach.{goes_over}
use Rattle.label_view.specs.Places.{AreGatheredTo}
use Rattle.walk_check.proofs.link_use.sent_over.Given as goal

-- the runs are of the addresses of the rows so far that the router sends over the link; each row took a look
abbrev pub invariant-pages : goal.invariant-pages
invariant-pages g l = record {
  inside : l.from ≤ length (g.V.LabelView.rows l.view);
  runs : AreGatheredTo l.runs (g.V.LabelView.rows l.view) l.from (goes_over (does (g.V.LabelView.rows l.view)) l.router l.link);
  cost : l.steps ≤ l.initial.steps + l.from;
}

abbrev pub decreases-pages : goal.decreases-pages
decreases-pages g l = length (g.V.LabelView.rows l.view) - l.from
