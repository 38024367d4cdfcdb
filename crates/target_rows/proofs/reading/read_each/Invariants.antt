use Rattle.std.proofs.Common.{◌-◌, ◌≡◌, ℕ, ◌*◌, ◌<◌, ◌≤◌, length, get_or}
use Rattle.base.specs.declared.target.Target.{Target}
use Rattle.target_rows.specs.ChunkRows.{meant_at}
use Rattle.target_rows.proofs.reading.read_each.Given as goal

abbrev pub invariant-chunks : goal.invariant-chunks
invariant-chunks l = record {
  few : l.k ≤ l.count;
  room : length l.out ≡ length l.fn.out;
  targets : (j : ℕ) (e : Target) → j < l.k → get_or l.out j e ≡ meant_at l.edges l.run (j * l.stride) l.lane;
}

abbrev pub decreases-chunks : goal.decreases-chunks
decreases-chunks l = l.count - l.k
