use Rattle.std.proofs.Common.{◌+◌, ◌≤◌, subst}
use Rattle.net_engine.proofs.ShownRows.{count-shown, place-shown, runs-shown}
use Rattle.net_engine.proofs.shown.ShownLabelView.runs.Goals as goal

pub runs-requires-clause-place : goal.runs-requires-clause-place
runs-requires-clause-place c = place-shown c.self.inside.kept c.args.self.now c.self.inside.down c.self.view_is c.args.i c.requires.place

pub returns-clause-inside : goal.returns-clause-inside
returns-clause-inside c = subst (λ n. c.args.i + c.runs.result ≤ n) (count-shown c.self.inside.kept c.args.self.now c.self.inside.down c.self.view_is) c.runs.ensures.inside

pub returns-clause-runs : goal.returns-clause-runs
returns-clause-runs c = runs-shown c.self.inside.kept c.args.self.now c.self.inside.down c.self.view_is c.args.i c.runs.result c.runs.new.out c.runs.ensures.runs
