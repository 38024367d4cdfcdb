use Rattle.std.proofs.Common.{◌+◌, ◌<◌, ◌≤◌, ◌^◌, length, refl, arith}
use Rattle.base.specs.Forwarding.{row_low, row_past}
use Rattle.base.proofs.Covers.{few-rows}
use Rattle.loop_keeper.specs.Starts.{start_of}
use Rattle.loop_keeper.proofs.Stretches.{adds-none, adds-one}
use Rattle.loop_keeper.proofs.stretch.push_stretch.Goals as goal

pub returns-then-not-goes_on : goal.returns-then-not-goes_on
returns-then-not-goes_on g c = adds-none (g.V.LabelView.width c.args.view.now) (g.V.LabelView.rows c.args.view.now) c.args.change.now c.args.stretches.now.items (c.goes_on.ensures.none c.if-not-goes_on.true)

pub overflow_add-places : goal.overflow_add-places
overflow_add-places g c =
    let few : 0 + length (g.V.LabelView.rows c.args.view.now) ≤ 2 ^ 32 = few-rows row_low row_past 0 (g.V.LabelView.rows c.args.view.now) c.goes_on.ensures.form.cover in
    let last : c.places_of-places.result.last < length (g.V.LabelView.rows c.args.view.now) = c.places_of-places.ensures.inside in
    omega arith

pub returns : goal.returns
returns g c = adds-one (g.V.LabelView.width c.args.view.now) (g.V.LabelView.rows c.args.view.now) c.args.change.now c.places_of-places.result.last (record { first = c.places_of-places.result.first; past = c.places_of-places.result.last + 1; start = start_of c.args.change.now }) c.args.stretches.now.items c.push.new.self.items c.goes_on.ensures.form (c.goes_on.ensures.start c.if-not-goes_on.false) c.requires c.places_of-places.ensures refl refl c.in_ok-push.ensures.items
