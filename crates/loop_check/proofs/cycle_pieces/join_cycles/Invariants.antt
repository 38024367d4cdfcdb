use Rattle.std.proofs.Common.{ℕ}
use Rattle.base.specs.declared.ids.RouterId.{RouterId}
use Rattle.base.specs.declared.target.Target.{Target}
use Rattle.loop_check.specs.CyclesByRange.{AreCyclePieces}
use Rattle.loop_check.specs.Shares.{AreShares}
use Rattle.loop_check.proofs.cycle_pieces.join_cycles.Given as goal

-- the shares of the cycles of the ranges so far
abbrev pub invariant-loop-k : goal.invariant-loop-k
invariant-loop-k l = (does : RouterId → ℕ → Target) (h : AreCyclePieces does l.pieces) → AreShares (h.at l.k) does l.known.entries
