use Rattle.loop_keeper.proofs.Leaving.{alike-next, alike-none}
use Rattle.loop_keeper.proofs.editing.leave_empty_out.Goals as goal

pub places-init : goal.places-init
places-init c = λ form. alike-none c.args.segments.now form

pub places-preserved : goal.places-preserved
places-preserved c = λ form.
    let so = c.places.invariant form in
    alike-next c.args.segments.now c.places.segments c.leave_out.new.segments so (c.in_ok-leave_out.ensures so.form)

pub returns : goal.returns
returns c = c.places.invariant
