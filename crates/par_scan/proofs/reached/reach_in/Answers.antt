use Rattle.std.proofs.lemmas.Result.{IfOk-weaker}
use Rattle.par_scan.proofs.ReachParts.{reach-part}
use Rattle.par_scan.proofs.reached.reach_in.Goals as goal

pub returns : goal.returns
returns g c = IfOk-weaker c.reach_alone.result _ _ (λ runs are. reach-part (g.V.LabelView.width c.args.view.now) _ (g.V.LabelView.rows c.args.view.now) _ _ _ c.args.first c.args.to runs c.of_range-part.ensures.width c.of_range-part.ensures.shows c.requires.router c.requires.differ are) c.reach_alone.ensures
