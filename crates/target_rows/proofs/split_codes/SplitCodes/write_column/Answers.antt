use Rattle.std.proofs.Common.{◌<◌, length, ap, arith}
use Rattle.target_rows.proofs.SplitLemmas.{sides-long, write-column-both, write-column-low}
use Rattle.target_rows.proofs.split_codes.SplitCodes.write_column.Goals as goal

pub write_column-requires-clause-inside : goal.write_column-requires-clause-inside
write_column-requires-clause-inside c = omega (arith, sides-long c.self.inside.low c.self.inside.high, ap length c.self.view_is, c.requires.inside)

pub returns-then-len-eq0 : goal.returns-then-len-eq0
returns-then-len-eq0 c =
    let s = c.self.inside in
    let column = c.args.column in
    write-column-low c.args.self.now s.low c.write_column.new.chunks s.high c.reach.new.high c.args.code c.self.view_is c.in_ok-reach.ensures.same c.in_ok-reach.ensures.halves c.in_ok-reach.ensures.there c.in_ok-write_column.ensures.long
    column.routers column.r.0 column.first column.count c.low_half.result (omega arith) c.low_half.ensures c.in_ok-write_column.ensures.all

pub write_column-requires-2-clause-inside : goal.write_column-requires-2-clause-inside
write_column-requires-2-clause-inside c =
    let there : 0 < length c.reach.new.high = omega arith in
    omega (arith, sides-long c.self.inside.low c.self.inside.high, ap length c.self.view_is, c.requires.inside, c.in_ok-reach.ensures.halves.long there)

pub returns : goal.returns
returns c =
    let s = c.self.inside in
    let column = c.args.column in
    write-column-both c.args.self.now s.low c.write_column.new.chunks s.high c.reach.new.high c.args.code c.self.view_is c.in_ok-reach.ensures.same c.in_ok-reach.ensures.halves c.in_ok-reach.ensures.there c.in_ok-write_column.ensures.long
    c.write_column-2.result c.write_column-2.new.chunks column.routers column.r.0 column.first column.count c.low_half.result c.high_half.result c.low_half.ensures c.high_half.ensures c.in_ok-write_column.ensures.all c.write_column-2.ensures.all
