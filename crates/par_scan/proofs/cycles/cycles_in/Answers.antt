use Rattle.std.proofs.lemmas.Result.{IfOk-weaker}
use Rattle.par_scan.proofs.CycleParts.{cycles-part}
use Rattle.par_scan.proofs.cycles.cycles_in.Goals as goal

pub returns : goal.returns
returns g c = IfOk-weaker c.loops_alone.result _ _ (λ cycles are. cycles-part (g.V.LabelView.width c.args.view.now) (g.V.LabelView.rows c.args.view.now) _ _ _ cycles c.of_range-part.ensures.shows are) c.loops_alone.ensures
