use Rattle.std.proofs.Common.{◌∙◌, sym}
use Rattle.net_engine.proofs.ShownRows.{place-shown, routers-shown, targets-shown}
use Rattle.net_engine.proofs.shown.ShownLabelView.row.Goals as goal

pub row-requires-clause-place : goal.row-requires-clause-place
row-requires-clause-place c = place-shown c.self.inside.kept c.args.self.now c.self.inside.down c.self.view_is c.args.i c.requires.place

pub row-requires-clause-wide : goal.row-requires-clause-wide
row-requires-clause-wide c = c.requires.wide ∙ sym (routers-shown c.self.inside.kept c.args.self.now c.self.inside.down c.self.view_is)

pub returns : goal.returns
returns c = targets-shown c.self.inside.kept c.args.self.now c.self.inside.down c.self.view_is c.args.i c.row.new.out c.put_over.new.targets (place-shown c.self.inside.kept c.args.self.now c.self.inside.down c.self.view_is c.args.i c.requires.place) c.row.ensures c.put_over.ensures
