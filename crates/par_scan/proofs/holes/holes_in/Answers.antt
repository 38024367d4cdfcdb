use Rattle.std.proofs.lemmas.Result.{IfOk-weaker}
use Rattle.par_scan.proofs.HoleParts.{holes-part}
use Rattle.par_scan.proofs.holes.holes_in.Goals as goal

pub returns : goal.returns
returns g c = IfOk-weaker c.holes_alone.result _ _ (λ holes are. holes-part (g.V.LabelView.width c.args.view.now) _ (g.V.LabelView.rows c.args.view.now) _ _ _ c.args.first holes c.of_range-part.ensures.width c.of_range-part.ensures.shows c.requires.router are) c.holes_alone.ensures
