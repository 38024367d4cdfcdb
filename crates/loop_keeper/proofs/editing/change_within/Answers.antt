use Rattle.std.proofs.lemmas.Result.{on_ok_weaker}
use Rattle.loop_keeper.specs.Edits.{IsCut}
use Rattle.loop_keeper.proofs.Segments.{within-cuts}
use Rattle.loop_keeper.proofs.editing.change_within.Goals as goal

pub returns : goal.returns
returns c = on_ok_weaker c.change_between.result (λ between form.
    let first : IsCut c.args.low c.args.segments.now c.cut.new.segments = c.in_ok-cut.ensures form in
    let last : IsCut c.args.past c.cut.new.segments c.cut-2.new.segments = c.in_ok-cut-2.ensures first.form in
    within-cuts c.args.edit.now c.args.low c.args.past c.args.segments.now c.cut.new.segments c.cut-2.new.segments c.change_between.new.segments first last
    (between last.form (λ small. last.still c.args.low (first.begins small)) last.begins)) c.change_between.ensures
