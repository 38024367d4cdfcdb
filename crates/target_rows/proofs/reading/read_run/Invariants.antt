use Rattle.std.proofs.Common.{◌-◌, ◌≡◌, ℕ, ◌/◌, ◌%◌, ◌<◌, ◌≤◌, length, get_or}
use Rattle.base.specs.declared.target.Target.{Target}
use Rattle.target_rows.specs.ChunkRows.{meant_at}
use Rattle.target_rows.proofs.reading.read_run.Given as goal

abbrev pub invariant-codes : goal.invariant-codes
invariant-codes l = record {
  order : l.done ≤ l.r;
  few : l.r ≤ l.past;
  room : length l.out ≡ length l.fn.out;
  front : (q : ℕ) (e : Target) → q < l.done → get_or l.out q e ≡ get_or l.fn.out q e;
  targets : (q : ℕ) (e : Target) → l.done ≤ q → q < l.r → get_or l.out q e ≡ meant_at l.edges l.run (q / 8 - l.done / 8) (q % 8);
}

abbrev pub decreases-codes : goal.decreases-codes
decreases-codes l = l.past - l.r
