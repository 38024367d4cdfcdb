use Rattle.std.proofs.Common.{◌≡◌, replicate}
use Rattle.target_rows.specs.ChunkRows.{no_codes}
use Rattle.target_rows.proofs.chunk_rows.empty_chunks.Given as goal

abbrev pub invariant-loop-chunk : goal.invariant-loop-chunk
invariant-loop-chunk l = l.chunks ≡ replicate l._chunk no_codes
