use Rattle.std.proofs.Common.{◌+◌, ◌-◌, ◌*◌, ◌≤◌, length}
use Rattle.base.specs.Forwarding.{does}
use Rattle.base.specs.Holes.{falls}
use Rattle.blackhole.specs.Gathering.{AreFalls}
use Rattle.blackhole.proofs.holes.add_column.Given as goal

-- what falls where in the rows so far; each row took at most a look at each router
abbrev pub invariant-rows : goal.invariant-rows
invariant-rows g l = record {
  inside : l.k ≤ length l.column.targets.now;
  falls : AreFalls l.ends.items (g.V.LabelView.rows l.view) (l.column.from + l.k) (falls (g.V.LabelView.width l.view) (does (g.V.LabelView.rows l.view)) l.column.router);
  cost : l.steps ≤ l.initial.steps + l.k * g.V.LabelView.width l.view;
}

abbrev pub decreases-rows : goal.decreases-rows
decreases-rows g l = length l.column.targets.now - l.k
