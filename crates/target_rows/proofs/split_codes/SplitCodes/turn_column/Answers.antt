use Rattle.std.proofs.Common.{◌≡◌, ◌+◌, ◌*◌, ◌/◌, ◌%◌, ◌<◌, length, refl, ap, sym, subst, ◌∙◌, arith}
use Rattle.target_rows.specs.ChunkRows.{IsColumnWritten, lane_at, stride_of, turned_count}
use Rattle.target_rows.specs.SplitCodes.{side_by_side}
use Rattle.target_rows.proofs.ChunkLemmas.{place-inside}
use Rattle.target_rows.proofs.SplitLemmas.{sides-lane-low, sides-long, write-column-low}
use Rattle.target_rows.proofs.TurnLemmas.{turned-all}
use Rattle.target_rows.proofs.split_codes.SplitCodes.turn_column.Goals as goal

pub turn_column-requires-clause-inside : goal.turn_column-requires-clause-inside
turn_column-requires-clause-inside c = omega (arith, sides-long c.self.inside.low c.self.inside.high, ap length c.self.view_is, c.requires.inside)

pub returns-then-code-lt65536-clause-before : goal.returns-then-code-lt65536-clause-before
returns-then-code-lt65536-clause-before c =
    let s = c.self.inside in
    let column = c.args.column in
    let inside : c.args.column.first * stride_of c.args.column.routers + c.args.column.r.0 / 8 < length c.self.inside.low =
    omega (arith, place-inside column.first (column.first + column.count) column.r.0 column.routers (omega arith) c.requires.router, c.requires.inside, sides-long s.low s.high, ap length c.self.view_is) in
    c.in_ok-before.ensures.before
    ∙ sym (sides-lane-low s.low s.high (column.first * stride_of column.routers + column.r.0 / 8) (column.r.0 % 8) inside (omega arith) (omega arith))
    ∙ ap (λ cs. lane_at cs (column.first * stride_of column.routers + column.r.0 / 8) (column.r.0 % 8)) c.self.view_is

pub returns-then-code-lt65536-clause-all : goal.returns-then-code-lt65536-clause-all
returns-then-code-lt65536-clause-all c =
    let s = c.self.inside in
    let column = c.args.column in
    let same : c.low_half.result ≡ c.args.code = omega arith in
    subst (λ x. IsColumnWritten column.routers column.r.0 column.first c.args.self.now (side_by_side c.turn_column.new.chunks s.high) (turned_count c.in_ok-before.before x column.count) c.args.code) same
    (write-column-low c.args.self.now s.low c.turn_column.new.chunks s.high s.high c.args.code c.self.view_is (λ i. refl) c.self.invariant (λ l. absurd (let no : ⊥ = omega arith in no)) c.in_ok-before.ensures.long
    column.routers column.r.0 column.first (turned_count c.in_ok-before.before c.low_half.result column.count) c.low_half.result (omega arith) c.low_half.ensures c.in_ok-before.ensures.all)

pub returns-clause-all : goal.returns-clause-all
returns-clause-all c =
    let column = c.args.column in
    subst (λ x. IsColumnWritten column.routers column.r.0 column.first c.args.self.now c.write_column.new.self x c.args.code) (sym (turned-all c.code_at-before.result c.args.code column.count c.if-before-code.false)) c.in_ok-write_column.ensures
