use Rattle.std.proofs.Common.{◌<◌, length, ap, arith}
use Rattle.target_rows.proofs.SplitLemmas.{sides-long, write-both, write-low}
use Rattle.target_rows.proofs.split_codes.SplitCodes.write.Goals as goal

pub write-requires-clause-chunk : goal.write-requires-clause-chunk
write-requires-clause-chunk c = omega (arith, sides-long c.self.inside.low c.self.inside.high, ap length c.self.view_is, c.requires.chunk)

pub returns-then-len-eq0 : goal.returns-then-len-eq0
returns-then-len-eq0 c =
    let s = c.self.inside in
    let inside : c.args.place.chunk < length c.self.inside.low = omega (arith, sides-long s.low s.high, ap length c.self.view_is, c.requires.chunk) in
    write-low c.args.self.now s.low c.write.new.chunks s.high c.reach.new.high c.args.code c.self.view_is c.in_ok-reach.ensures.same c.in_ok-reach.ensures.halves c.in_ok-reach.ensures.there c.in_ok-write.ensures.ok.long
    c.args.place.chunk c.args.place.lane c.low_half.result (omega arith) inside c.requires.lane c.low_half.ensures c.in_ok-write.ensures.ok

pub write-requires-2-clause-chunk : goal.write-requires-2-clause-chunk
write-requires-2-clause-chunk c =
    let there : 0 < length c.reach.new.high = omega arith in
    omega (arith, sides-long c.self.inside.low c.self.inside.high, ap length c.self.view_is, c.requires.chunk, c.in_ok-reach.ensures.halves.long there)

pub returns : goal.returns
returns c =
    let s = c.self.inside in
    write-both c.args.self.now s.low c.write.new.chunks s.high c.reach.new.high c.args.code c.self.view_is c.in_ok-reach.ensures.same c.in_ok-reach.ensures.halves c.in_ok-reach.ensures.there c.in_ok-write.ensures.ok.long
    c.write-2.result c.write-2.new.chunks c.args.place.chunk c.args.place.lane c.low_half.result c.high_half.result c.requires.lane c.low_half.ensures c.high_half.ensures c.in_ok-write.ensures.ok c.write-2.ensures.ok
