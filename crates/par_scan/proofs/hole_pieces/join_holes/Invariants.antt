use Rattle.std.proofs.Common.{ℕ}
use Rattle.base.specs.declared.ids.RouterId.{RouterId}
use Rattle.base.specs.declared.target.Target.{Target}
use Rattle.par_scan.specs.HolesByRange.{AreHolePieces}
use Rattle.par_scan.proofs.HoleParts.{AreAllTold}
use Rattle.par_scan.proofs.hole_pieces.join_holes.Given as goal

-- the holes of the ranges so far are told
abbrev pub invariant-loop-k : goal.invariant-loop-k
invariant-loop-k l = (n : ℕ) (does : RouterId → ℕ → Target) (first : RouterId) → AreHolePieces n does first l.pieces → AreAllTold n does first l.pieces l.k l.holes.items
