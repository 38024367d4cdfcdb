use Rattle.std.proofs.Common.{ℕ, ◌<◌, List, slice_index_or}
use Rattle.base.specs.Cycles.{first_router}
use Rattle.base.specs.declared.ids.RouterId.{RouterId}
use Rattle.loop_check.proofs.first_order.place_of.Given as goal

-- the first routers of all so far come before
abbrev pub invariant-loop-i : goal.invariant-loop-i
invariant-loop-i l = (k : ℕ) (d : List RouterId) → k < l.i → first_router (slice_index_or l.cycles k d) < l.first
