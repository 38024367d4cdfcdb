use Rattle.std.proofs.Common.{◌+◌, ◌<◌, ◌∙◌, length, ap, sym, arith}
use Rattle.base.specs.Forwarding.{does}
use Rattle.base.specs.Reach.{goes_over, is_over}
use Rattle.label_view.proofs.InRow.{gathered-on, target-is}
use Rattle.walk_check.proofs.link_use.add_column.Goals as goal

pub loop-k-preserved : goal.loop-k-preserved
loop-k-preserved g c =
    let inside : c.loop-k.k < length c.args.column.now.targets.now = omega (arith, c.loop-k-test.true) in
    let place : c.args.column.now.from + c.loop-k.k < length (g.V.LabelView.rows c.args.view.now) = omega (arith, inside, c.requires.inside) in
    record {
      runs = gathered-on c.push_row_if.new.self (g.V.LabelView.rows c.args.view.now) c.args.column.now.from c.loop-k.k (goes_over (does (g.V.LabelView.rows c.args.view.now)) c.args.column.now.router c.args.link)
          (c.in_ok-push_row_if.ensures (goes_over (does (g.V.LabelView.rows c.args.view.now)) c.args.column.now.router c.args.link) c.loop-k.invariant.runs
          (λ a within. c.is_by-passes.ensures ∙ ap (is_over c.args.link) (sym (target-is _ _ (c.args.column.now.from + c.loop-k.k) a c.args.column.now.router _ c.requires.form place (λ d. c.requires.column c.loop-k.k d _ inside) within))));
      cost = omega (arith, c.loop-k.invariant.cost, c.tick.ensures);
    }
