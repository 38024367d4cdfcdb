use Rattle.std.proofs.Common.{◌≡◌, ℕ, ◌<◌, List, slice_index_or}
use Rattle.base.specs.declared.ids.RouterId.{RouterId}
use Rattle.loop_keeper.proofs.segment.has_cycle.Given as goal

-- none so far has these routers
abbrev pub invariant-loop-one : goal.invariant-loop-one
invariant-loop-one l = (k : ℕ) (d : List RouterId) → k < l.one-index → slice_index_or l.cycles k d ≡ l.routers → ⊥
