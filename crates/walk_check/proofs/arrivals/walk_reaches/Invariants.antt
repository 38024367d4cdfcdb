use Rattle.std.proofs.Common.{◌≡◌, ℕ, ◌+◌, ◌<◌}
use Rattle.std.specs.List.{list_any}
use Rattle.base.specs.Forwarding.{does}
use Rattle.base.specs.Reach.{is_router}
use Rattle.base.specs.Walk.{at_address, walk}
use Rattle.label_view.specs.Places.{IsInRow}
use Rattle.walk_check.proofs.arrivals.walk_reaches.Given as goal

-- the walk from here on meets the router where the whole walk does, and each hop was a look
abbrev pub invariant-loop-left : goal.invariant-loop-left
invariant-loop-left g l = record {
  within : l.router.0 < g.V.LabelView.width l.view;
  rest : (a : ℕ) → IsInRow (g.V.LabelView.rows l.view) l.i a → list_any (is_router l.to) (walk (at_address (does (g.V.LabelView.rows l.view)) a) l.left l.router) ≡ list_any (is_router l.to) (walk (at_address (does (g.V.LabelView.rows l.view)) a) l.hops l.fn.first);
  cost : l.steps + l.left ≡ l.initial.steps + l.hops;
}

abbrev pub decreases-loop-left : goal.decreases-loop-left
decreases-loop-left g l = l.left
