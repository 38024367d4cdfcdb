use Rattle.std.proofs.Common.{◌≤◌, length, arith}
use Rattle.net_engine.proofs.Turning.{pages-all, pages-first}
use Rattle.net_engine.proofs.link_turn.tell_router.Goals as goal

pub pages-init : goal.pages-init
pages-init g c = record {
  inside = omega arith;
  told = pages-first (g.V.LabelView.width c.args.view.now) (g.V.LabelView.rows c.args.view.now) c.args.turn.now.before.now c.args.turn.now.after.now c.args.delta.now c.args.router.0 c.atoms-rows.ensures.form c.requires.told;
}

pub returns : goal.returns
returns g c =
    let end : length (g.V.LabelView.rows c.args.view.now) ≤ c.pages.from = omega (arith, c.atoms-rows.ensures.value, c.pages-test.false) in
    pages-all (g.V.LabelView.rows c.args.view.now) c.args.turn.now.before.now c.args.turn.now.after.now c.pages.delta c.args.router.0 c.pages.from end c.pages.invariant.told
