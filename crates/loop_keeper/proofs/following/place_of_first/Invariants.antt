use Rattle.std.proofs.Common.{ℕ, ◌<◌, ◌≤◌, length, slice_index_or}
use Rattle.base.specs.declared.ids.RouterId.{RouterId}
use Rattle.loop_keeper.proofs.following.place_of_first.Given as goal

-- no router so far comes before the one at the place
abbrev pub invariant-loop-k : goal.invariant-loop-k
invariant-loop-k l = record {
  inside : l.place < length l.path;
  least : (j : ℕ) (d : RouterId) → j < l.k → (slice_index_or l.path l.place d).0 ≤ (slice_index_or l.path j d).0;
}
