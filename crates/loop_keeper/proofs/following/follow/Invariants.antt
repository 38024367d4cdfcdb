use Rattle.std.proofs.Common.{◌≡◌, ◌+◌, ◌<◌, length, slice_index_or}
use Rattle.base.specs.Forwarding.{target_of}
use Rattle.base.specs.declared.ids.LinkId.{LinkId}
use Rattle.base.specs.declared.ids.RouterId.{RouterId}
use Rattle.base.specs.declared.target.Target.TheVariants.{To}
use Rattle.label_view.proofs.InRow.{some_row}
use Rattle.loop_keeper.specs.Starts.{DoesSo}
use Rattle.loop_keeper.proofs.Ways.{HasWay}
use Rattle.loop_keeper.proofs.following.follow.Given as goal

-- the routers passed so far, what the last of them does, and a look for each hop
abbrev pub invariant-hops : goal.invariant-hops
invariant-hops g l = record {
  within : (s : RouterId) (k : LinkId) → l.target ≡ To s k → s.0 < g.V.LabelView.width l.view;
  count : length l.path.items + l.left ≡ g.V.LabelView.width l.view + 1;
  some : 0 < length l.path.items;
  way : DoesSo (g.V.LabelView.rows l.view) l.start l.i → HasWay (target_of (slice_index_or (g.V.LabelView.rows l.view) l.i some_row)) l.start.router l.target l.path.items;
  cost : l.steps + l.left ≡ l.initial.steps + g.V.LabelView.width l.view;
}

abbrev pub decreases-hops : goal.decreases-hops
decreases-hops g l = l.left
