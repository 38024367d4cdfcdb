use Rattle.std.proofs.Common.{◌<◌, subst, sym}
use Rattle.net_engine.proofs.ShownRows.{place-shown, routers-shown, target-shown}
use Rattle.net_engine.proofs.shown.ShownLabelView.target.Goals as goal

pub target-requires-clause-router : goal.target-requires-clause-router
target-requires-clause-router c = subst (λ n. c.args.r.0 < n) (sym (routers-shown c.self.inside.kept c.args.self.now c.self.inside.down c.self.view_is)) c.requires.router

pub target-requires-clause-place : goal.target-requires-clause-place
target-requires-clause-place c = place-shown c.self.inside.kept c.args.self.now c.self.inside.down c.self.view_is c.args.i c.requires.place

pub returns : goal.returns
returns c = target-shown c.self.inside.kept c.args.self.now c.self.inside.down c.self.view_is c.args.i c.args.r c.target.result c.shown.result (place-shown c.self.inside.kept c.args.self.now c.self.inside.down c.self.view_is c.args.i c.requires.place) c.target.ensures c.shown.ensures
