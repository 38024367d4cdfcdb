use Rattle.std.proofs.Common.{◌<◌, ◌^◌, arith}
use Rattle.std.proofs.lemmas.Result.{on_ok_weaker}
use Rattle.loop_keeper.proofs.Segments.{cut-new, cut-none, cut-there}
use Rattle.loop_keeper.proofs.editing.cut.Goals as goal

pub returns-then-at-from : goal.returns-then-at-from
returns-then-at-from c = λ form. cut-none c.args.at c.args.segments.now form (λ small. absurd (omega (arith, c.if-at-from.true, c.from.ensures)))

pub returns-then-begins_at : goal.returns-then-begins_at
returns-then-begins_at c = λ form. cut-there c.args.at c.count_below-place.result c.args.segments.now form (c.begins_at.ensures.yes c.if-begins_at.true) (c.begins_at.ensures.same c.if-begins_at.true)

pub returns : goal.returns
returns c =
    let small : c.args.at < 2 ^ 32 = omega (arith, c.if-at-from.false, c.from.ensures) in
    on_ok_weaker c.insert.result (λ put form. cut-new c.args.at c.count_below-place.result c.args.segments.now c.insert.new.segments form c.count_below-place.ensures (c.begins_at.ensures.other c.if-begins_at.false) small put) c.insert.ensures
