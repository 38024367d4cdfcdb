use Rattle.std.proofs.Common.{ℕ, ◌<◌, IsTrue, slice_index_or}
use Rattle.base.specs.HolesFrom.{is_before}
use Rattle.base.specs.declared.hole.Hole.{Hole}
use Rattle.dn_model.proofs.plain_holes.place_of.Given as goal

-- all so far come before
abbrev pub invariant-loop-i : goal.invariant-loop-i
invariant-loop-i l = (k : ℕ) (d : Hole) → k < l.i → IsTrue (is_before (slice_index_or l.holes k d) l.hole)
