use Rattle.std.proofs.Common.{◌∙◌, arith, length-drop, ℕ}
use Rattle.run_report.proofs.Fronts.{with_end_further}
use Rattle.run_report.proofs.writer.write_text.Goals as goal

pub loop-from-preserved : goal.loop-from-preserved
loop-from-preserved g c = record {
  within = omega (arith, length-drop {A = ℕ} c.loop-from.from c.args.text.now, c.in_ok-from.ensures.within);
  written = with_end_further _ _ _ c.loop-from.from c.in_ok-from.field-0 c.args.text.now c.loop-from.invariant.written c.in_ok-from.ensures.appends;
  same_count = c.in_ok-from.ensures.same_count ∙ c.loop-from.invariant.same_count;
}
