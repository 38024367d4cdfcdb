use Rattle.std.proofs.Common.{◌+◌, arith}
use Rattle.target_rows.proofs.ChunkLemmas.{place-inside}
use Rattle.target_rows.proofs.RunLemmas.{column-more, column-none}
use Rattle.target_rows.proofs.chunk_rows.write_column.Goals as goal

pub pages-init : goal.pages-init
pages-init c = record {
  few = omega arith;
  written = column-none c.args.column.routers c.args.column.r.0 c.args.column.first c.args.chunks.now c.args.code;
}

pub write_some-requires-clause-chunk : goal.write_some-requires-clause-chunk
write_some-requires-clause-chunk c =
    let column = c.args.column in
    omega (arith, place-inside (column.first + c.pages.done) (column.first + column.count) column.r.0 column.routers (omega arith) c.requires.router, c.pages.invariant.written.long, c.place_in-place.ensures.chunk, c.requires.inside)

pub pages-preserved : goal.pages-preserved
pages-preserved c = record {
  few = omega (arith, c.in_ok-done.ensures.few);
  written = column-more c.args.column.routers c.args.column.r.0 c.args.column.first c.pages.done c.in_ok-done.field-0 c.args.code c.place_in-place.result.chunk c.stride.result c.place_in-place.result.lane c.args.chunks.now c.pages.chunks c.write_some.new.chunks c.requires.router c.stride.ensures c.place_in-place.ensures.chunk c.place_in-place.ensures.lane c.pages.invariant.written c.in_ok-done.ensures.written;
}
