use Rattle.std.proofs.Common.{◌<◌, length, arith}
use Rattle.loop_keeper.proofs.Taking.{each-change, out-next, out-none}
use Rattle.loop_keeper.proofs.editing.take_all_out.Goals as goal

pub take_out-requires : goal.take_out-requires
take_out-requires c =
    let inside : c.loop-change.change-index < length c.args.changes.now = omega arith in
    each-change c.args.changes.now c.loop-change.change-index _ c.requires inside

pub loop-change-init : goal.loop-change-init
loop-change-init c = λ form. out-none c.args.segments.now form

pub loop-change-preserved : goal.loop-change-preserved
loop-change-preserved c = λ form.
    let inside : c.loop-change.change-index < length c.args.changes.now = omega arith in
    let so_far = c.loop-change.invariant form in
    out-next c.args.changes.now c.loop-change.change-index _ c.args.segments.now c.loop-change.segments c.take_out.new.segments inside so_far (c.in_ok-take_out.ensures so_far.form)
