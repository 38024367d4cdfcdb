use Rattle.std.proofs.Common.{◌+◌, ◌*◌, ◌<◌, length, ap, sym, ◌∙◌, arith}
use Rattle.target_rows.specs.ChunkRows.{lane_at}
use Rattle.target_rows.proofs.SplitLemmas.{sides-lane, sides-lane-low, sides-long}
use Rattle.target_rows.proofs.split_codes.SplitCodes.code_at.Goals as goal

pub code_at-low-requires-clause-chunk : goal.code_at-low-requires-clause-chunk
code_at-low-requires-clause-chunk c = omega (arith, sides-long c.self.inside.low c.self.inside.high, ap length c.self.view_is, c.requires.chunk)

pub returns-then-len-eq0 : goal.returns-then-len-eq0
returns-then-len-eq0 c =
    let s = c.self.inside in
    let inside : c.args.place.chunk < length c.self.inside.low = omega (arith, sides-long s.low s.high, ap length c.self.view_is, c.requires.chunk) in
    c.code_at-low.ensures
    ∙ sym (sides-lane-low s.low s.high c.args.place.chunk c.args.place.lane inside c.requires.lane (omega arith))
    ∙ ap (λ cs. lane_at cs c.args.place.chunk c.args.place.lane) c.self.view_is

pub code_at-high-requires-clause-chunk : goal.code_at-high-requires-clause-chunk
code_at-high-requires-clause-chunk c =
    let s = c.self.inside in
    let there : 0 < length c.self.inside.high = omega arith in
    omega (arith, sides-long s.low s.high, ap length c.self.view_is, c.requires.chunk, c.self.invariant.long there)

pub returns : goal.returns
returns c =
    let s = c.self.inside in
    let inside : c.args.place.chunk < length c.self.inside.low = omega (arith, sides-long s.low s.high, ap length c.self.view_is, c.requires.chunk) in
    c.whole.ensures
    ∙ ap (λ x. x + 65536 * c.code_at-high.result) c.code_at-low.ensures
    ∙ ap (λ x. lane_at s.low c.args.place.chunk c.args.place.lane + 65536 * x) c.code_at-high.ensures
    ∙ sym (sides-lane s.low s.high c.args.place.chunk c.args.place.lane inside c.requires.lane)
    ∙ ap (λ cs. lane_at cs c.args.place.chunk c.args.place.lane) c.self.view_is
