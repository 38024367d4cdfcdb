use Rattle.std.proofs.Common.{ℕ, ◌<◌, IsTrue, slice_index_or}
use Rattle.base.specs.CyclesFrom.{is_before}
use Rattle.base.specs.declared.cycle.Cycle.{Cycle}
use Rattle.dn_model.proofs.plain_loops.place_of.Given as goal

-- all so far come before
abbrev pub invariant-loop-i : goal.invariant-loop-i
invariant-loop-i l = (k : ℕ) (d : Cycle) → k < l.i → IsTrue (is_before (slice_index_or l.cycles k d) l.cycle)
