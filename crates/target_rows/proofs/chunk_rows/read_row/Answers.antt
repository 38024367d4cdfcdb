use Rattle.std.proofs.Common.{◌∙◌, arith}
use Rattle.target_rows.proofs.RowLemmas.{front-more}
use Rattle.target_rows.proofs.chunk_rows.read_row.Goals as goal

pub pages-preserved : goal.pages-preserved
pages-preserved c =
    let more = front-more c.args.chunks.now c.pages.row c.put_front-done.new.row c.run_from-run.result.now c.args.from c.pages.done c.put_front-done.result c.put_front-done.ensures.room c.put_front-done.ensures.within c.pages.invariant.front c.run_from-run.ensures.run c.put_front-done.ensures.items in
    record {
      few = omega (arith, more.0, c.put_front-done.ensures.room);
      long = more.0 ∙ c.pages.invariant.long;
      front = more.1;
    }
