use Rattle.std.proofs.Common.{◌≡◌, ◌+◌}
use Rattle.base.specs.Forwarding.{does}
use Rattle.base.specs.Reach.{goes_over}
use Rattle.label_view.specs.Places.{AreGatheredTo}
use Rattle.walk_check.proofs.link_use.add_column.Given as goal

-- the runs are of the addresses of the rows so far that the router sends over the link; each row took a look
abbrev pub invariant-loop-k : goal.invariant-loop-k
invariant-loop-k g l = record {
  runs : AreGatheredTo l.runs (g.V.LabelView.rows l.view) (l.column.from + l.k) (goes_over (does (g.V.LabelView.rows l.view)) l.column.router l.link);
  cost : l.steps ≡ l.initial.steps + l.k;
}
