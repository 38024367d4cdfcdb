use Rattle.std.proofs.Common.{◌≡◌, ◌<◌, ◌≤◌, ℕ, true, false}
use Rattle.std.specs.Prelude.{slice_index_or}
use Rattle.route_table.specs.Above.{shares}
use Rattle.route_table.proofs.lengths.Lengths.common.Given as goal

-- at no greater length that a prefix has do both have one prefix
abbrev pub invariant-shorter : goal.invariant-shorter
invariant-shorter l = record {
  fits : l.shorter ≤ l.len;
  greater : (k : ℕ) → l.shorter ≤ k → k < l.len → slice_index_or l.self k true ≡ true → shares l.a l.other k ≡ false;
}

abbrev pub decreases-shorter : goal.decreases-shorter
decreases-shorter l = l.shorter
