use Rattle.std.proofs.Common.{◌≤◌, ◌+◌, ◌^◌, get_or, arith}
use Rattle.base.specs.Runs.{run_length}
use Rattle.base.proofs.CyclesFrom.{few-more}
use Rattle.loop_check.proofs.cycle_runs.count_of.Goals as goal

pub overflow_add-count : goal.overflow_add-count
overflow_add-count c =
    let few : c.loop-run.count + run_length (get_or c.args.runs.now c.loop-run.run-index (record { lo = 0; hi = 0 })) ≤ 2 ^ 32 = few-more c.args.runs.now c.loop-run.run-index (record { lo = 0; hi = 0 }) c.loop-run.count c.requires c.loop-run-test.true c.loop-run.invariant in
    omega arith
