use Rattle.std.proofs.lemmas.Result.{IfOk-weaker}
use Rattle.base.specs.Forwarding.{does}
use Rattle.par_scan.proofs.CycleParts.{pieces-of-all}
use Rattle.par_scan.proofs.cycles.loops.Goals as goal

pub returns : goal.returns
returns g c = IfOk-weaker c.join_cycles.result _ _ (λ cycles h. h (does (g.V.LabelView.rows c.args.view.now))
    (pieces-of-all (g.V.LabelView.width c.args.view.now) (g.V.LabelView.rows c.args.view.now) c.new-ranges.result.size c.as_slice.result.now c.in_ok-pieces.pieces.items c.atoms.ensures.form c.as_slice.ensures.value c.in_ok-pieces.ensures.all c.in_ok-pieces.ensures.each)) c.join_cycles.ensures
