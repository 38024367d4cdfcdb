use Rattle.std.proofs.lemmas.Result.{IfOk-weaker}
use Rattle.base.specs.Forwarding.{does}
use Rattle.par_scan.proofs.HoleParts.{pieces-of-all}
use Rattle.par_scan.proofs.holes.blackholes.Goals as goal

pub returns : goal.returns
returns g c = IfOk-weaker c.join_holes.result _ _ (λ holes h. h (g.V.LabelView.width c.args.view.now) (does (g.V.LabelView.rows c.args.view.now)) c.args.first
    (pieces-of-all (g.V.LabelView.width c.args.view.now) (g.V.LabelView.rows c.args.view.now) c.new-ranges.result.size c.args.first c.as_slice.result.now c.in_ok-pieces.pieces.items c.atoms.ensures.form c.as_slice.ensures.value c.in_ok-pieces.ensures.all c.in_ok-pieces.ensures.each)) c.join_holes.ensures
