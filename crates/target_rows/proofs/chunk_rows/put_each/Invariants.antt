use Rattle.std.proofs.Common.{◌≡◌, ◌≤◌, ◌*◌, ◌-◌}
use Rattle.target_rows.specs.ChunkRows.{AreWritten}
use Rattle.target_rows.proofs.chunk_rows.put_each.Given as goal

abbrev pub invariant-chunks : goal.invariant-chunks
invariant-chunks l = record {
  few : l.count ≤ l.most;
  place : l.at ≡ l.count * l.stride;
  written : AreWritten l.fn.run l.run 0 l.stride l.lane l.count l.code;
}

abbrev pub decreases-chunks : goal.decreases-chunks
decreases-chunks l = l.most - l.count
