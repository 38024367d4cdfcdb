use Rattle.label_view.specs.Places.{AreGatheredTo}
use Rattle.loop_check.proofs.RowRuns.{added-new, round, row-goes, runs-fresh}
use Rattle.loop_check.proofs.cycle_runs.add_first.Goals as goal

pub returns : goal.returns
returns g c =
    let fresh : AreGatheredTo c.new-first.result (g.V.LabelView.rows c.args.view.now) c.args.i (round (g.V.LabelView.rows c.args.view.now) c.args.routers) =
    runs-fresh (g.V.LabelView.rows c.args.view.now) c.args.i c.args.routers c.new-first.result c.requires.runs c.new-first.ensures.runs c.new-first.ensures.past in
    added-new (g.V.LabelView.rows c.args.view.now) c.args.i c.args.routers c.args.known.now.entries c.insert.new.self.entries c.into_vec.result c.push_row_if.new.self c.requires.unknown c.into_vec.ensures c.in_ok-_none.ensures.entries
    (c.in_ok-push_row_if.ensures (round (g.V.LabelView.rows c.args.view.now) c.args.routers) fresh (row-goes (g.V.LabelView.width c.args.view.now) (g.V.LabelView.rows c.args.view.now) c.args.i c.args.routers c.requires.form c.requires.place c.requires.goes))
