use Rattle.std.proofs.Common.{◌<◌, length, arith}
use Rattle.loop_keeper.proofs.Taking.{each-change, out-empty, out-next, out-none}
use Rattle.loop_keeper.proofs.editing.are_met.Goals as goal

pub is_met-requires : goal.is_met-requires
is_met-requires c = each-change c.args.changes.now c.loop-change.change-index _ c.requires c.loop-change-test.true

pub loop-change-init : goal.loop-change-init
loop-change-init c = λ form. out-none c.args.segments.now form

pub loop-change-preserved : goal.loop-change-preserved
loop-change-preserved c = λ form.
    let inside : c.loop-change.change-index < length c.args.changes.now = omega arith in
    out-next c.args.changes.now c.loop-change.change-index _ c.args.segments.now c.args.segments.now c.args.segments.now inside (c.loop-change.invariant form) (c.is_met.ensures c.if-is_met.false form)

pub returns-then-len-eq0 : goal.returns-then-len-eq0
returns-then-len-eq0 c = λ no form. out-empty c.args.changes.now c.args.segments.now (omega (arith, c.if-len-eq0.true, c.len.ensures)) form
