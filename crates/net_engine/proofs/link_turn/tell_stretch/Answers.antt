use Rattle.std.proofs.Common.{rules, ◌≡◌, ◌+◌, ◌<◌, ◌∙◌, sym, arith}
use Rattle.std.proofs.lemmas.Result.{on_ok_weaker}
use Rattle.label_view.specs.Places.{begin_of}
use Rattle.label_view.proofs.InRow.{begin-before}
use Rattle.net_engine.proofs.Turning.{rows-more, rows-same}
use Rattle.net_engine.proofs.link_turn.tell_stretch.Goals as goal

pub returns-then-eq : goal.returns-then-eq
returns-then-eq g c =
    let same : c.shown-before.result ≡ c.shown-after.result = search (rules, c.if-eq.ensures, c.if-eq.true, c.eq.ensures) in
    rows-same (g.V.LabelView.width c.args.view.now) (g.V.LabelView.rows c.args.view.now) c.args.turn.now.before.now c.args.turn.now.after.now c.args.delta.now c.args.delta.now c.args.stretch.router c.args.stretch.rows.from c.args.stretch.rows.past c.args.stretch.target c.requires.form c.requires.stretch.some c.requires.stretch.inside c.requires.stretch.same c.requires.told
    (sym c.shown-before.ensures ∙ same ∙ c.shown-after.ensures)

pub tell-requires-clause-order : goal.tell-requires-clause-order
tell-requires-clause-order g c =
    let order : begin_of (g.V.LabelView.rows c.args.view.now) c.args.stretch.rows.from < begin_of (g.V.LabelView.rows c.args.view.now) c.args.stretch.rows.past = begin-before (g.V.LabelView.width c.args.view.now) (g.V.LabelView.rows c.args.view.now) c.args.stretch.rows.from c.args.stretch.rows.past c.requires.form c.requires.stretch.some c.requires.stretch.inside in
    omega (arith, order, c.requires.stretch.lo, c.requires.stretch.hi)

pub returns : goal.returns
returns g c = on_ok_weaker c.tell.result
    (λ told. rows-more (g.V.LabelView.width c.args.view.now) (g.V.LabelView.rows c.args.view.now) c.args.turn.now.before.now c.args.turn.now.after.now c.args.delta.now c.tell.new.delta c.args.stretch.router c.args.stretch.rows.from c.args.stretch.rows.past c.args.stretch.target c.requires.form c.requires.stretch.some c.requires.stretch.inside c.requires.stretch.same c.requires.told
    c.shown-before.result c.shown-after.result c.args.stretch.run.lo (c.args.stretch.run.hi + 1) c.shown-before.ensures c.shown-after.ensures c.requires.stretch.lo c.requires.stretch.hi told)
    c.tell.ensures
