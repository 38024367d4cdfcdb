use Rattle.label_view.proofs.InRow.{one-run, row-bound, row-order, some_row}
use Rattle.label_view.proofs.view.LabelView.runs.Goals as goal

pub run_of-requires-clause-some : goal.run_of-requires-clause-some
run_of-requires-clause-some g c = row-order (g.Self.LabelView.width c.args.self.now) (g.Self.LabelView.rows c.args.self.now) c.args.i c.bounds-low.result.0 c.bounds-low.result.1 c.atoms-rows.ensures.form c.requires.place (c.bounds-low.ensures.low some_row) (c.bounds-low.ensures.past some_row)

pub run_of-requires-clause-bound : goal.run_of-requires-clause-bound
run_of-requires-clause-bound g c = row-bound (g.Self.LabelView.width c.args.self.now) (g.Self.LabelView.rows c.args.self.now) c.args.i c.bounds-low.result.1 c.atoms-rows.ensures.form c.requires.place (c.bounds-low.ensures.past some_row)

pub returns-clause-runs : goal.returns-clause-runs
returns-clause-runs g c = one-run (g.Self.LabelView.width c.args.self.now) (g.Self.LabelView.rows c.args.self.now) c.args.i c.bounds-low.result.0 c.bounds-low.result.1 c.args.out.now c.run_of.result c.atoms-rows.ensures.form c.requires.place c.requires.room c.bounds-low.ensures.low c.bounds-low.ensures.past c.run_of.ensures.lo c.run_of.ensures.hi
