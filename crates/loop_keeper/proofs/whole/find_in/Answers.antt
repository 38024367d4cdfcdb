use Rattle.std.proofs.lemmas.Result.{on_ok_weaker}
use Rattle.loop_keeper.proofs.RowCycles.{finds-in}
use Rattle.loop_keeper.proofs.whole.find_in.Goals as goal

pub returns-clause-found : goal.returns-clause-found
returns-clause-found g c = on_ok_weaker c.push_all.result
    (λ put. finds-in (g.V.LabelView.width c.args.view.now) (g.V.LabelView.rows c.args.view.now) c.args.i c.bounds-low.result.0 c.bounds-low.result.1 c.in_ok-cycles.cycles c.args.search.now.found.items c.push_all.new.found.items c.requires.form c.requires.place c.in_ok-cycles.ensures.cycles c.bounds-low.ensures.low c.bounds-low.ensures.past put)
    c.push_all.ensures
