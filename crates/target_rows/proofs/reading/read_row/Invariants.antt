use Rattle.std.proofs.Common.{◌-◌, ◌≡◌, ℕ, ◌+◌, ◌/◌, ◌%◌, ◌<◌, ◌≤◌, length, get_or}
use Rattle.base.specs.declared.target.Target.{Target}
use Rattle.target_rows.specs.ChunkRows.{meant_at}
use Rattle.target_rows.proofs.reading.read_row.Given as goal

abbrev pub invariant-pages : goal.invariant-pages
invariant-pages l = record {
  few : l.done ≤ length l.out;
  room : length l.out ≡ length l.fn.out;
  targets : (r : ℕ) (e : Target) → r < l.done → get_or l.out r e ≡ meant_at l.edges l.chunks (l.from + r / 8) (r % 8);
}

abbrev pub decreases-pages : goal.decreases-pages
decreases-pages l = length l.out - l.done
