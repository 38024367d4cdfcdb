use Rattle.std.proofs.Common.{◌<◌, length, ap, ◌∙◌, arith}
use Rattle.target_rows.specs.SplitCodes.{side_by_side}
use Rattle.target_rows.proofs.SplitLemmas.{again-both, repeated-low}
use Rattle.target_rows.proofs.split_codes.repeat_both.Goals as goal

pub returns-then-len-eq0-clause-all : goal.returns-then-len-eq0-clause-all
returns-then-len-eq0-clause-all c =
    ap (λ cs. side_by_side cs c.args.high.now) c.in_ok-repeat.ensures
    ∙ repeated-low c.args.low.now c.args.high.now c.args.from c.args.count c.args.next (omega arith)

pub returns-clause-all : goal.returns-clause-all
returns-clause-all c =
    let there : 0 < length c.args.high.now = omega arith in
    again-both c.repeat-2.result c.args.low.now c.args.high.now c.repeat.new.chunks c.repeat-2.new.chunks c.args.from c.args.count c.args.next (c.requires.halves.long there) c.requires.inside c.requires.place c.in_ok-repeat.ensures c.repeat-2.ensures
