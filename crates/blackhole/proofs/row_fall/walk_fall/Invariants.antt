use Rattle.std.proofs.Common.{◌≡◌, ℕ, ◌+◌, ◌<◌}
use Rattle.base.specs.Forwarding.{does}
use Rattle.base.specs.Walk.{at_address}
use Rattle.base.specs.declared.ids.RouterId.{RouterId}
use Rattle.base.specs.declared.target.Target.{Target}
use Rattle.label_view.specs.Places.{IsInRow}
use Rattle.blackhole.specs.Falls.{walk_falls}
use Rattle.blackhole.proofs.row_fall.walk_fall.Given as goal

-- the walk from here on falls where the whole walk does, and each hop was a look
abbrev pub invariant-loop-left : goal.invariant-loop-left
invariant-loop-left g l = record {
  within : l.router.0 < g.V.LabelView.width l.view;
  rest : (last : RouterId) (cause : Target) (a : ℕ) → IsInRow (g.V.LabelView.rows l.view) l.i a → walk_falls (at_address (does (g.V.LabelView.rows l.view)) a) l.left l.router last cause ≡ walk_falls (at_address (does (g.V.LabelView.rows l.view)) a) l.hops l.fn.first last cause;
  cost : l.steps + l.left ≡ l.initial.steps + l.hops;
}

abbrev pub decreases-loop-left : goal.decreases-loop-left
decreases-loop-left g l = l.left
