use Rattle.std.proofs.Common.{◌≡◌, ℕ, ◌<◌, ◌≤◌, List, false, length, slice_index_or}
use Rattle.std.specs.Prelude.{Contains}
use Rattle.base.specs.declared.ids.RouterId.{RouterId}
use Rattle.loop_check.specs.Following.{is_among}
use Rattle.loop_keeper.specs.Kept.{Kept}
use Rattle.loop_keeper.proofs.editing.is_met.Given as goal

-- none so far has the router
abbrev pub invariant-loop-place : goal.invariant-loop-place
invariant-loop-place l = (k : ℕ) (d : Kept) (rs : List RouterId) → l.first ≤ k → k < l.place → k < length l.segments → Contains (slice_index_or l.segments k d).cycles rs → is_among rs l.change.router ≡ false
