use Rattle.std.proofs.Common.{◌≡◌, ◌+◌, ℕ, subst, arith}
use Rattle.std.proofs.lemmas.Result.{on_ok_weaker}
use Rattle.loop_keeper.specs.Edits.{AreChangedWithin, AreTakenOut}
use Rattle.loop_keeper.specs.declared.segment.Edit.TheVariants.{Without}
use Rattle.loop_keeper.proofs.Leaving.{out-alike}
use Rattle.loop_keeper.proofs.Taking.{out-within}
use Rattle.loop_keeper.proofs.editing.take_out.Goals as goal

pub returns : goal.returns
returns c =
    let low : c.from.result ≡ c.args.change.now.run.lo = c.from.ensures in
    let past : c.from-past.result + 1 ≡ c.args.change.now.run.hi + 1 = omega (arith, c.from-past.ensures) in
    on_ok_weaker c.leave_empty_out.result (λ alike form.
    let L : ℕ → Type 0 = λ v. AreChangedWithin (Without c.args.change.now.router) v (c.from-past.result + 1) c.args.segments.now c.change_within.new.segments in
    let out : AreTakenOut _ c.args.segments.now c.change_within.new.segments = out-within c.args.change.now (c.from-past.result + 1) c.args.segments.now c.change_within.new.segments past (subst L low (c.in_ok-change_within.ensures form)) in
    out-alike _ c.args.segments.now c.change_within.new.segments c.leave_empty_out.new.segments out (alike out.form)) c.leave_empty_out.ensures
