use Rattle.std.proofs.Common.{◌≡◌, ◌<◌, ◌+◌, ◌^◌, ◌∙◌, length, arith}
use Rattle.route_table.specs.Rows.{row_key, slots_in}
use Rattle.route_table.specs.Slots.{key_of}
use Rattle.route_table.proofs.Searching.{near-before, near-fits, near-found, near-gap, near-place, near-row, none-then, some-each, some-then}
use Rattle.route_table.proofs.SideBySide.{inside, keys-in, page-of}
use Rattle.route_table.proofs.search.look_near.Goals.{else-below-eq0-via-then-below-eq0+else-first-ne0, else-below-eq0-via-else-below-eq0}
use Rattle.route_table.proofs.search.look_near.Goals as goal

pub overflow_add-result : goal.overflow_add-result
overflow_add-result c =
    let l : c.count_below_from-below.result < length c.page_near-first.result.0.now = omega (arith, c.count_below_from-below.ensures.inside, c.if-below-page.false) in
    let few : c.page_near-first.result.1 + c.count_below_from-below.result < 2 ^ 38 =
    near-fits (slots_in 0 c.args.rows.now) (slots_in 0 c.page_near-first.result.0.now) c.page_near-first.result.1 c.count_below_from-below.result (c.requires 0)
    (page-of 0 c.args.rows.now c.page_near-first.result.0.now c.page_near-first.result.1 c.page_near-first.ensures.page) (inside 0 c.page_near-first.result.0.now c.count_below_from-below.result l) in
    omega arith

pub returns-clause-place : goal.returns-clause-place
returns-clause-place c =
    let l : c.count_below_from-below.result < length c.page_near-first.result.0.now = omega (arith, c.count_below_from-below.ensures.inside, c.if-below-page.false) in
    let first : c.count_below_from-below.result ≡ 0 → c.page_near-first.result.1 ≡ 0 =
    elim c.else-below-eq0.branch [
      | else-below-eq0-via-then-below-eq0+else-first-ne0 w ↦ λ e. omega (arith, w.if-first-ne0.false)
      | else-below-eq0-via-else-below-eq0 w ↦ λ e. absurd (omega (arith, e, w.if-below-eq0.false))
    ] in
    near-place row_key c.args.rows.now c.page_near-first.result.0.now c.page_near-first.result.1 c.count_below_from-below.result (key_of c.args.prefix) c.prefix_key.result (keys-in 0 0 c.args.rows.now (c.requires 0).keys)
    c.page_near-first.ensures.page c.prefix_key.ensures.value c.count_below_from-below.ensures l first

pub returns-clause-found : goal.returns-clause-found
returns-clause-found c =
    let l : c.count_below_from-below.result < length c.page_near-first.result.0.now = omega (arith, c.count_below_from-below.ensures.inside, c.if-below-page.false) in
    some-then c.own_row.result _ _ (λ own h. near-found row_key c.args.rows.now c.page_near-first.result.0.now c.page_near-first.result.1 c.count_below_from-below.result (key_of c.args.prefix) c.index-page-below.result
    c.page_near-first.ensures.page l c.index-page-below.is (returns-clause-place c) h.1) c.own_row.ensures.some

pub returns-clause-row : goal.returns-clause-row
returns-clause-row c = λ d.
    let l : c.count_below_from-below.result < length c.page_near-first.result.0.now = omega (arith, c.count_below_from-below.ensures.inside, c.if-below-page.false) in
    some-each c.own_row.result _ _ (λ own h. h.0 ∙ near-row c.args.rows.now c.page_near-first.result.0.now c.page_near-first.result.1 c.count_below_from-below.result c.index-page-below.result d
    c.page_near-first.ensures.page l c.index-page-below.is) c.own_row.ensures.some

pub returns-clause-gap : goal.returns-clause-gap
returns-clause-gap c =
    let l : c.count_below_from-below.result < length c.page_near-first.result.0.now = omega (arith, c.count_below_from-below.ensures.inside, c.if-below-page.false) in
    none-then c.own_row.result _ _ (λ n. near-gap row_key c.args.rows.now c.page_near-first.result.0.now c.page_near-first.result.1 c.count_below_from-below.result (key_of c.args.prefix) c.index-page-below.result
    c.page_near-first.ensures.page l c.index-page-below.is (returns-clause-place c) n) c.own_row.ensures.none

pub returns-clause-before : goal.returns-clause-before
returns-clause-before c = λ lane.
    let l : c.count_below_from-below.result < length c.page_near-first.result.0.now = omega (arith, c.count_below_from-below.ensures.inside, c.if-below-page.false) in
    near-before (slots_in lane c.args.rows.now) (slots_in lane c.page_near-first.result.0.now) c.page_near-first.result.1 c.count_below_from-below.result c.base_before.result
    (page-of lane c.args.rows.now c.page_near-first.result.0.now c.page_near-first.result.1 c.page_near-first.ensures.page) (inside lane c.page_near-first.result.0.now c.count_below_from-below.result l) (c.base_before.ensures lane)
