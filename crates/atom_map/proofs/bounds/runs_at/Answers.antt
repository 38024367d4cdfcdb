use Rattle.std.proofs.Common.{◌≡◌, ◌+◌, ◌-◌, ◌<◌, ◌≤◌, ◌^◌, length, min, arith}
use Rattle.atom_map.specs.Spans.{spans_of}
use Rattle.atom_map.proofs.Bounded.{few-lows, length-spans, page-inside}
use Rattle.atom_map.proofs.SpanRuns.{low-in-page, page-rises, runs-of-page, span-bound, span-order, spans-more}
use Rattle.atom_map.proofs.bounds.runs_at.Goals as goal

pub runs_in-count-requires : goal.runs_in-count-requires
runs_in-count-requires c = page-rises c.args.lows.now c.run_from-page.result.now c.args.i c.requires.form c.run_from-page.ensures.run

pub returns-then-count-out-clause-runs : goal.returns-then-count-out-clause-runs
returns-then-count-out-clause-runs c =
    let count : c.runs_in-count.result ≡ min (length c.args.out.now) (length c.run_from-page.result.now - 1) = c.runs_in-count.ensures.count in
    runs-of-page c.args.lows.now c.run_from-page.result.now c.args.i c.runs_in-count.result c.runs_in-count.new.out c.run_from-page.ensures.run (λ some. omega arith) c.runs_in-count.ensures.runs

pub overflow_add-i : goal.overflow_add-i
overflow_add-i c =
    let few : length c.args.lows.now ≤ 2 ^ 32 = few-lows c.args.lows.now c.requires.form in
    let some : 0 < length c.run_from-page.result.now = c.run_from-page.ensures.some c.requires.place in
    let count : c.runs_in-count.result ≡ min (length c.args.out.now) (length c.run_from-page.result.now - 1) = c.runs_in-count.ensures.count in
    let inside : c.args.i + c.runs_in-count.result < length c.args.lows.now = page-inside c.args.lows.now c.run_from-page.result.now c.args.i c.runs_in-count.result c.run_from-page.ensures.run (omega arith) in
    omega arith

pub run_between-requires-clause-some : goal.run_between-requires-clause-some
run_between-requires-clause-some c =
    let some : 0 < length c.run_from-page.result.now = c.run_from-page.ensures.some c.requires.place in
    let count : c.runs_in-count.result ≡ min (length c.args.out.now) (length c.run_from-page.result.now - 1) = c.runs_in-count.ensures.count in
    let last : c.runs_in-count.result < length c.run_from-page.result.now = omega arith in
    let inside : c.args.i + c.runs_in-count.result < length c.args.lows.now = page-inside c.args.lows.now c.run_from-page.result.now c.args.i c.runs_in-count.result c.run_from-page.ensures.run last in
    let long : length (spans_of c.args.lows.now) ≡ length c.args.lows.now = length-spans c.args.lows.now in
    span-order (spans_of c.args.lows.now) (c.args.i + c.runs_in-count.result) c.from.result c.past_at-past.result c.requires.form (omega arith)
    (low-in-page c.args.lows.now c.run_from-page.result.now c.args.i c.runs_in-count.result c.from.result c.run_from-page.ensures.run last c.from.ensures) c.past_at-past.ensures

pub run_between-requires-clause-bound : goal.run_between-requires-clause-bound
run_between-requires-clause-bound c =
    let some : 0 < length c.run_from-page.result.now = c.run_from-page.ensures.some c.requires.place in
    let count : c.runs_in-count.result ≡ min (length c.args.out.now) (length c.run_from-page.result.now - 1) = c.runs_in-count.ensures.count in
    let inside : c.args.i + c.runs_in-count.result < length c.args.lows.now = page-inside c.args.lows.now c.run_from-page.result.now c.args.i c.runs_in-count.result c.run_from-page.ensures.run (omega arith) in
    let long : length (spans_of c.args.lows.now) ≡ length c.args.lows.now = length-spans c.args.lows.now in
    span-bound (spans_of c.args.lows.now) (c.args.i + c.runs_in-count.result) c.past_at-past.result c.requires.form (omega arith) c.past_at-past.ensures

pub returns-clause-runs : goal.returns-clause-runs
returns-clause-runs c =
    let some : 0 < length c.run_from-page.result.now = c.run_from-page.ensures.some c.requires.place in
    let count : c.runs_in-count.result ≡ min (length c.args.out.now) (length c.run_from-page.result.now - 1) = c.runs_in-count.ensures.count in
    let last : c.runs_in-count.result < length c.run_from-page.result.now = omega arith in
    let room : c.runs_in-count.result < length c.runs_in-count.new.out = omega (arith, c.runs_in-count.ensures.room, c.if-count-out.false) in
    spans-more (spans_of c.args.lows.now) c.args.i c.runs_in-count.result c.from.result c.past_at-past.result c.runs_in-count.new.out c.run_between.result room
    (runs-of-page c.args.lows.now c.run_from-page.result.now c.args.i c.runs_in-count.result c.runs_in-count.new.out c.run_from-page.ensures.run (λ one. last) c.runs_in-count.ensures.runs)
    (low-in-page c.args.lows.now c.run_from-page.result.now c.args.i c.runs_in-count.result c.from.result c.run_from-page.ensures.run last c.from.ensures) c.past_at-past.ensures c.run_between.ensures.lo c.run_between.ensures.hi
