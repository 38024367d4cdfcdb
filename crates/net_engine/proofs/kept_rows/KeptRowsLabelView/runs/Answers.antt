use Rattle.std.proofs.Common.{◌+◌, ◌≤◌, subst}
use Rattle.base.specs.Forwarding.{AreForwarding}
use Rattle.net_engine.specs.Shown.{View}
use Rattle.net_engine.proofs.RowsKept.{count-kept, place-kept, runs-kept}
use Rattle.net_engine.proofs.kept_rows.KeptRowsLabelView.runs.Goals as goal

pub runs-requires-clause-place : goal.runs-requires-clause-place
runs-requires-clause-place c = place-kept c.self.inside.routers c.self.inside.atoms c.self.inside.labels c.args.self.now c.args.i c.self.view_is c.requires.place

pub returns-clause-inside : goal.returns-clause-inside
returns-clause-inside c = subst (λ n. c.args.i + c.runs.result ≤ n) (count-kept c.self.inside.routers c.self.inside.atoms c.self.inside.labels c.args.self.now c.self.view_is) c.runs.ensures.inside

pub returns-clause-runs : goal.returns-clause-runs
returns-clause-runs c =
    runs-kept c.self.inside.routers c.self.inside.atoms c.self.inside.labels c.args.self.now c.args.i c.runs.result c.runs.new.out c.self.view_is
    (subst (λ (v : View). AreForwarding v.routers v.rows) c.self.view_is c.self.invariant.form) c.runs.ensures.inside c.runs.ensures.runs
