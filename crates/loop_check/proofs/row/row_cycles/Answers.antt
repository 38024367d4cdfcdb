use Rattle.std.proofs.Common.{arith}
use Rattle.loop_check.proofs.ByFirst.{row-told}
use Rattle.loop_check.proofs.row.row_cycles.Goals as goal

pub returns : goal.returns
returns c = row-told c.args.targets.now c.loop-start.passed c.loop-start.cycles.items c.from_vec.result c.loop-start.invariant.form c.loop-start.invariant.told (λ r b. c.loop-start.invariant.passed r (omega arith)) c.from_vec.ensures
