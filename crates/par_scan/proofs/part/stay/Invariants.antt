use Rattle.std.proofs.Common.{◌≡◌, ℕ, ◌<◌, slice_index_or}
use Rattle.base.specs.declared.target.Target.TheVariants.{Local}
use Rattle.par_scan.proofs.part.stay.Given as goal

-- addresses stay so far
abbrev pub invariant-loop-target : goal.invariant-loop-target
invariant-loop-target l = (k : ℕ) → k < l.target-index → slice_index_or l.targets k Local ≡ Local
