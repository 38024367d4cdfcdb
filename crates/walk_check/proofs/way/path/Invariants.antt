use Rattle.std.proofs.Common.{◌≡◌, ◌+◌, ◌<◌, ◌++◌}
use Rattle.base.specs.Forwarding.{does}
use Rattle.base.specs.Walk.{at_address, walk, walk_end}
use Rattle.walk_check.proofs.way.path.Given as goal

-- what was walked, and the walk from here on, make the whole walk; each hop was a look
abbrev pub invariant-loop-left : goal.invariant-loop-left
invariant-loop-left g l = record {
  within : l.router.0 < g.V.LabelView.width l.view;
  hops : l.hops.items ++ walk (at_address (does (g.V.LabelView.rows l.view)) l.a) l.left l.router ≡ walk (at_address (does (g.V.LabelView.rows l.view)) l.a) (g.V.LabelView.width l.view) l.fn.first;
  end : walk_end (at_address (does (g.V.LabelView.rows l.view)) l.a) l.left l.router ≡ walk_end (at_address (does (g.V.LabelView.rows l.view)) l.a) (g.V.LabelView.width l.view) l.fn.first;
  cost : l.steps + l.left ≡ l.initial.steps + g.V.LabelView.width l.view;
}

abbrev pub decreases-loop-left : goal.decreases-loop-left
decreases-loop-left g l = l.left
