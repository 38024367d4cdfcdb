use Rattle.std.proofs.Common.{◌≡◌, drop}
use Rattle.par_scan.specs.HolesByRange.{hole_runs}
use Rattle.par_scan.proofs.hole_order.runs_at.Given as goal

-- none so far is it
abbrev pub invariant-loop-i : goal.invariant-loop-i
invariant-loop-i l = hole_runs l.last l.cause (drop l.i l.holes) ≡ hole_runs l.last l.cause l.holes
