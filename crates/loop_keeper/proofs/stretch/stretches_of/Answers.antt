use Rattle.std.proofs.Common.{◌<◌, length, arith}
use Rattle.base.specs.declared.change.Change.{Change}
use Rattle.base.specs.declared.target.Target.TheVariants.{NoRoute}
use Rattle.loop_keeper.proofs.Stretches.{first-all, first-next, first-none}
use Rattle.loop_keeper.proofs.Taking.{each-change}
use Rattle.loop_keeper.proofs.stretch.stretches_of.Goals as goal

abbrev no_change : Change
no_change = record { router = record { 0 = 0 }; run = record { lo = 0; hi = 0 }; before = NoRoute; after = NoRoute }

pub loop-change-init : goal.loop-change-init
loop-change-init g c = first-none (g.V.LabelView.width c.args.view.now) (g.V.LabelView.rows c.args.view.now) c.args.changes.now c.new-stretches.result.items c.new-stretches.ensures.items

pub push_stretch-requires : goal.push_stretch-requires
push_stretch-requires g c =
    let inside : c.loop-change.change-index < length c.args.changes.now = omega arith in
    each-change c.args.changes.now c.loop-change.change-index no_change c.requires inside

pub loop-change-preserved : goal.loop-change-preserved
loop-change-preserved g c =
    let inside : c.loop-change.change-index < length c.args.changes.now = omega arith in
    first-next (g.V.LabelView.width c.args.view.now) (g.V.LabelView.rows c.args.view.now) c.args.changes.now c.loop-change.change-index no_change c.loop-change.stretches.items c.push_stretch.new.stretches.items inside c.loop-change.invariant c.in_ok-push_stretch.ensures

pub returns : goal.returns
returns g c = first-all (g.V.LabelView.width c.args.view.now) (g.V.LabelView.rows c.args.view.now) c.args.changes.now c.loop-change.change-index c.loop-change.stretches.items (omega arith) c.loop-change.invariant
