use Rattle.std.proofs.Common.{◌∙◌}
use Rattle.net_engine.proofs.ShownRows.{low-shown, past-shown, place-shown}
use Rattle.net_engine.proofs.shown.ShownLabelView.bounds.Goals as goal

pub bounds-requires : goal.bounds-requires
bounds-requires c = place-shown c.self.inside.kept c.args.self.now c.self.inside.down c.self.view_is c.args.i c.requires

pub returns-clause-low : goal.returns-clause-low
returns-clause-low c d = c.bounds.ensures.low d ∙ low-shown c.self.inside.kept c.args.self.now c.self.inside.down c.self.view_is c.args.i d (place-shown c.self.inside.kept c.args.self.now c.self.inside.down c.self.view_is c.args.i c.requires)

pub returns-clause-past : goal.returns-clause-past
returns-clause-past c d = c.bounds.ensures.past d ∙ past-shown c.self.inside.kept c.args.self.now c.self.inside.down c.self.view_is c.args.i d (place-shown c.self.inside.kept c.args.self.now c.self.inside.down c.self.view_is c.args.i c.requires)
