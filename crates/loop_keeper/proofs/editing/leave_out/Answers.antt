use Rattle.std.proofs.lemmas.Result.{on_ok_weaker}
use Rattle.loop_keeper.proofs.Leaving.{alike-none, left-out}
use Rattle.loop_keeper.proofs.editing.leave_out.Goals as goal

pub returns-then-not-is_idle : goal.returns-then-not-is_idle
returns-then-not-is_idle c = λ form. alike-none c.args.segments.now form

pub returns : goal.returns
returns c = on_ok_weaker c.remove_run.result (λ items form.
    left-out c.args.place c.args.segments.now c.remove_run.new.self form (c.is_idle.ensures.inside c.if-not-is_idle.false) (c.is_idle.ensures.none c.if-not-is_idle.false) (c.is_idle.ensures.before c.if-not-is_idle.false) items) c.remove_run.ensures.items
