use Rattle.std.proofs.Common.{◌+◌, ◌<◌, ◌≤◌, subst, sym}
use Rattle.net_engine.proofs.ShownRows.{column-shown, count-shown, place-shown, routers-shown}
use Rattle.net_engine.proofs.shown.ShownLabelView.column.Goals as goal

pub column-count-requires-clause-router : goal.column-count-requires-clause-router
column-count-requires-clause-router c = subst (λ n. c.args.r.0 < n) (sym (routers-shown c.self.inside.kept c.args.self.now c.self.inside.down c.self.view_is)) c.requires.router

pub column-count-requires-clause-place : goal.column-count-requires-clause-place
column-count-requires-clause-place c = place-shown c.self.inside.kept c.args.self.now c.self.inside.down c.self.view_is c.args.i c.requires.place

pub returns-clause-inside : goal.returns-clause-inside
returns-clause-inside c = subst (λ n. c.args.i + c.column-count.result ≤ n) (count-shown c.self.inside.kept c.args.self.now c.self.inside.down c.self.view_is) c.column-count.ensures.inside

pub returns-clause-targets : goal.returns-clause-targets
returns-clause-targets c = column-shown c.self.inside.kept c.args.self.now c.self.inside.down c.self.view_is c.args.i c.column-count.result c.args.r c.column-count.new.out c.put_over.new.targets _ c.column-count.ensures.inside c.column-count.ensures.within c.column-count.ensures.targets c.put_over.ensures
