use Rattle.std.proofs.Common.{◌≡◌, ◌≤◌, ◌-◌, length, take, drop}
use Rattle.target_rows.proofs.chunk_rows.read_row.Given as goal

abbrev pub invariant-pages : goal.invariant-pages
invariant-pages l = record {
  few : l.done ≤ length l.row;
  long : length l.row ≡ length l.fn.row;
  front : take l.done l.row ≡ take l.done (drop l.from l.chunks);
}

abbrev pub decreases-pages : goal.decreases-pages
decreases-pages l = length l.row - l.done
