use Rattle.what_if.proofs.Lowered.{runs-seen}
use Rattle.what_if.proofs.without.WithoutLabelView.runs.Goals as goal

pub returns-clause-runs : goal.returns-clause-runs
returns-clause-runs g c = runs-seen g.V.LabelView.rows c.args.self.now c.self.inside.view.now c.self.inside.links.now c.args.i c.runs.result c.runs.new.out c.self.view_is c.runs.ensures.runs
