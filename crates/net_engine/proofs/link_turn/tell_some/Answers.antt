use Rattle.std.proofs.Common.{◌-◌, ◌<◌, length, get_or, arith}
use Rattle.std.proofs.lemmas.List.{get_or_default}
use Rattle.base.specs.declared.run.Run.{Run}
use Rattle.base.specs.declared.target.Target.TheVariants.{NoRoute}
use Rattle.net_engine.proofs.Turning.{stretch-of}
use Rattle.net_engine.proofs.link_turn.tell_some.Goals as goal

abbrev none : Run
none = record { lo = 0; hi = 0 }

pub tell_stretch-requires-clause-stretch : goal.tell_stretch-requires-clause-stretch
tell_stretch-requires-clause-stretch g c =
    let here : c.args.k < length c.args.runs.now = omega (arith, c.requires.place, c.requires.runs) in
    let last : c.same_past-past.result - 1 < length c.args.runs.now = omega (arith, c.same_past-past.ensures.some, c.same_past-past.ensures.inside, c.requires.runs) in
    stretch-of (g.V.LabelView.width c.args.view.now) (g.V.LabelView.rows c.args.view.now) c.args.column.now.router c.args.column.now.from c.args.column.now.targets.now c.args.runs.now c.args.k c.same_past-past.result (get_or c.args.runs.now c.args.k none) (get_or c.args.runs.now (c.same_past-past.result - 1) none) (get_or c.args.column.now.targets.now c.args.k NoRoute) c.requires.form c.requires.inside c.requires.column c.requires.are c.same_past-past.ensures.some c.same_past-past.ensures.inside c.same_past-past.ensures.same
    (λ d. get_or_default c.args.column.now.targets.now c.args.k NoRoute d c.requires.place)
    (get_or_default c.args.runs.now c.args.k none (get_or c.args.runs.now c.args.k none) here)
    (get_or_default c.args.runs.now (c.same_past-past.result - 1) none (get_or c.args.runs.now (c.same_past-past.result - 1) none) last)
