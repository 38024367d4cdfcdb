use Rattle.std.proofs.Common.{◌∙◌, arith, inl}
use Rattle.run_report.proofs.Lines.{page-within, run-added}
use Rattle.run_report.proofs.history.fill.Goals as goal

pub pages-preserved : goal.pages-preserved
pages-preserved c =
    let so = c.pages.invariant in
    let run = c.run_within-run.ensures.run in
    let further = c.run_within-run.ensures.some (omega (arith, c.len.ensures, c.pages-test.true)) c.if-most-gt0.true in
    record {
      from = omega (arith, so.from);
      within = page-within c.args.history.now c.run_within-run.result.now c.pages.upto so.within run;
      text = run-added c.args.t.now c.args.history.now c.run_within-run.result.now c.args.from c.pages.upto _ _ _ so.from so.within run so.text c.put_lines.ensures.text;
      room = c.lines_of_room-most-in-pages.ensures.fits;
      some = λ _. inl (omega (arith, so.from, further));
      capacity = c.put_lines.ensures.capacity ∙ so.capacity;
    }
