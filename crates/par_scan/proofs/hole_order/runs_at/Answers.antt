use Rattle.std.proofs.Common.{◌∙◌, sym}
use Rattle.par_scan.proofs.HoleParts.{runs-end, runs-here, runs-skip}
use Rattle.par_scan.proofs.hole_order.runs_at.Goals as goal

pub returns-then-is_at : goal.returns-then-is_at
returns-then-is_at c = c.as_slice.ensures.value ∙ runs-here c.args.last c.args.cause c.args.holes.now c.loop-i.i _ c.index-holes-i.result c.loop-i-test.true c.index-holes-i.is (sym c.is_at.ensures ∙ c.if-is_at.true) ∙ c.loop-i.invariant

pub loop-i-preserved : goal.loop-i-preserved
loop-i-preserved c = runs-skip c.args.last c.args.cause c.args.holes.now c.loop-i.i _ c.index-holes-i.result c.loop-i-test.true c.index-holes-i.is (sym c.is_at.ensures ∙ c.if-is_at.false) ∙ c.loop-i.invariant

pub returns : goal.returns
returns c = runs-end c.args.last c.args.cause c.args.holes.now c.loop-i.i c.loop-i-test.false ∙ c.loop-i.invariant
