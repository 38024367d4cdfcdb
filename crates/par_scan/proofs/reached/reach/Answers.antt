use Rattle.std.proofs.lemmas.Result.{IfOk-weaker}
use Rattle.base.specs.Forwarding.{does}
use Rattle.base.specs.Reach.{reaches}
use Rattle.par_scan.proofs.RangeBounds.{runs-of-all}
use Rattle.par_scan.proofs.ReachParts.{reach-here}
use Rattle.par_scan.proofs.reached.reach.Goals as goal

pub returns-then-first-to : goal.returns-then-first-to
returns-then-first-to g c = IfOk-weaker c.all_addresses.result _ _ (λ runs h. reach-here (g.V.LabelView.width c.args.view.now) (g.V.LabelView.rows c.args.view.now) c.args.first c.args.to runs c.if-first-to.true h) c.all_addresses.ensures

pub returns : goal.returns
returns g c = IfOk-weaker c.join_runs.result _ _ (λ runs h. runs-of-all (g.V.LabelView.width c.args.view.now) (g.V.LabelView.rows c.args.view.now) c.new-ranges.result.size (reaches (g.V.LabelView.width c.args.view.now) (does (g.V.LabelView.rows c.args.view.now)) c.args.first c.args.to) c.as_slice.result.now c.in_ok-pieces.pieces.items runs c.atoms.ensures.form c.as_slice.ensures.value c.in_ok-pieces.ensures.all c.in_ok-pieces.ensures.each h) c.join_runs.ensures
