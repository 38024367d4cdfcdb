use Rattle.std.proofs.Common.{ℕ, Bool}
use Rattle.base.specs.Runs.{AreRuns}
use Rattle.loop_check.specs.Bounds.{AreBounds, AreRunsByRange, only_within}
use Rattle.par_scan.proofs.more_runs.join_runs.Given as goal

-- the runs of the ranges so far
abbrev pub invariant-loop-k : goal.invariant-loop-k
invariant-loop-k l = (at : ℕ → ℕ) (test : ℕ → Bool) → AreBounds at → AreRunsByRange at test l.pieces → AreRuns l.runs.items (only_within 0 (at l.k) test)
