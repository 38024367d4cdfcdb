use Rattle.std.proofs.Common.{ℕ}
use Rattle.base.specs.Holes.{falls}
use Rattle.base.specs.Runs.{AreRuns}
use Rattle.base.specs.declared.ids.RouterId.{RouterId}
use Rattle.base.specs.declared.target.Target.{Target}
use Rattle.par_scan.specs.HolesByRange.{AreHolePieces}
use Rattle.loop_check.specs.Bounds.{only_within}
use Rattle.par_scan.proofs.hole_pieces.all_runs.Given as goal

-- the runs of the ranges so far
abbrev pub invariant-loop-k : goal.invariant-loop-k
invariant-loop-k l = (n : ℕ) (does : RouterId → ℕ → Target) (first : RouterId) (h : AreHolePieces n does first l.pieces) → AreRuns l.runs.items (only_within 0 (h.at l.k) (falls n does first l.last l.cause))
