use Rattle.std.proofs.Common.{◌≤◌, length, arith}
use Rattle.base.specs.Forwarding.{does}
use Rattle.base.specs.Reach.{goes_over}
use Rattle.label_view.proofs.InRow.{gathered-all, gathered-start}
use Rattle.walk_check.proofs.link_use.sent_over.Goals as goal

pub pages-init : goal.pages-init
pages-init g c = record {
  inside = omega arith;
  runs = gathered-start _ c.new-runs.result _ _ c.atoms-rows.ensures.form c.new-runs.ensures.runs c.new-runs.ensures.past;
  cost = omega arith;
}

pub returns-clause-runs : goal.returns-clause-runs
returns-clause-runs g c =
    let end : length (g.V.LabelView.rows c.args.view.now) ≤ c.pages.from = omega (arith, c.atoms-rows.ensures.value, c.pages-test.false) in
    gathered-all (g.V.LabelView.rows c.args.view.now) c.pages.from c.pages.runs c.in_ok-finish.field-0 (goes_over (does (g.V.LabelView.rows c.args.view.now)) c.args.router c.args.link) end c.pages.invariant.runs c.in_ok-finish.ensures.value c.in_ok-finish.ensures.apart
