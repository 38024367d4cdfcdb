use Rattle.std.proofs.Common.{◌≡◌, ◌+◌, ◌≤◌, ◌++◌, length, take, drop, sym, ap, ◌∙◌, arith, length-append}
use Rattle.std.proofs.lemmas.List.{length-take-le}
use Rattle.target_rows.proofs.RowLemmas.{row-more}
use Rattle.target_rows.proofs.chunk_rows.chunks_from.Goals as goal

pub pages-preserved : goal.pages-preserved
pages-preserved c =
    let chunks = c.args.chunks.now in
    let row = c.pages.row.items in
    let run = c.run_from-run.result.now in
    let more = c.min-more.result in
    let few : c.min-more.result ≤ length c.run_from-run.result.now = omega arith in
    let made : c.extend_from_slice.new.self.items ≡ c.pages.row.items ++ take c.min-more.result c.run_from-run.result.now = c.in_ok-extend_from_slice.ensures.items in
    let at : c.args.from + c.len-in-pages.result ≡ c.args.from + length c.pages.row.items = omega arith in
    let page : take (length run) (drop (c.args.from + length row) chunks) ≡ run = ap (λ i. take (length run) (drop i chunks)) (sym at) ∙ c.run_from-run.ensures.run in (
      omega (arith, ap length made ∙ length-append row (take more run), length-take-le more run few),
      made ∙ row-more chunks row run c.args.from more c.pages.invariant.1 page few ∙ ap (λ xs. take (length xs) (drop c.args.from chunks)) (sym made),
    )
