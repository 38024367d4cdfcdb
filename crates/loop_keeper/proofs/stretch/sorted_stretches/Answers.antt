use Rattle.loop_keeper.proofs.Stretches.{sorted-stretches}
use Rattle.loop_keeper.proofs.stretch.sorted_stretches.Goals as goal

pub returns-clause-are : goal.returns-clause-are
returns-clause-are g c = sorted-stretches (g.V.LabelView.width c.args.view.now) (g.V.LabelView.rows c.args.view.now) c.args.changes.now c.in_ok-stretches.stretches.items c.sort.new.stretches.items c.sort.ensures.same c.in_ok-stretches.ensures
