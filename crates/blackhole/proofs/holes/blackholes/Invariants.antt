use Rattle.std.proofs.Common.{◌+◌, ◌-◌, ◌*◌, ◌≤◌, length}
use Rattle.base.specs.Forwarding.{does}
use Rattle.base.specs.Holes.{falls}
use Rattle.blackhole.specs.Gathering.{AreFalls}
use Rattle.blackhole.proofs.holes.blackholes.Given as goal

-- what falls where in the rows so far; each row took at most a look at each router
abbrev pub invariant-pages : goal.invariant-pages
invariant-pages g l = record {
  inside : l.from ≤ length (g.V.LabelView.rows l.view);
  falls : AreFalls l.ends.items (g.V.LabelView.rows l.view) l.from (falls (g.V.LabelView.width l.view) (does (g.V.LabelView.rows l.view)) l.first);
  cost : l.steps ≤ l.initial.steps + l.from * g.V.LabelView.width l.view;
}

abbrev pub decreases-pages : goal.decreases-pages
decreases-pages g l = length (g.V.LabelView.rows l.view) - l.from
