use Rattle.std.proofs.Common.{◌≤◌, ◌-◌}
use Rattle.target_rows.specs.ChunkRows.{IsColumnWritten}
use Rattle.target_rows.proofs.chunk_rows.write_column.Given as goal

abbrev pub invariant-pages : goal.invariant-pages
invariant-pages l = record {
  few : l.done ≤ l.count;
  written : IsColumnWritten l.routers l.r.0 l.first l.fn.chunks l.chunks l.done l.code;
}

abbrev pub decreases-pages : goal.decreases-pages
decreases-pages l = l.count - l.done
