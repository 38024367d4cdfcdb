use Rattle.std.proofs.Common.{◌+◌, ◌<◌, ◌^◌, arith}
use Rattle.atom_map.proofs.Placed.{run-few, run-place}
use Rattle.atom_map.proofs.search.places_near.Goals as goal

pub overflow_add-result : goal.overflow_add-result
overflow_add-result c =
    let few : c.page_near-from.result.1 + c.in_ok-first.first < 2 ^ 32 = run-few c.args.rows.now c.page_near-from.result.0.now c.page_near-from.result.1 c.in_ok-first.first c.requires c.page_near-from.ensures.page c.in_ok-first.ensures.inside in
    omega arith

pub overflow_add-result-2 : goal.overflow_add-result-2
overflow_add-result-2 c =
    let few : c.page_near-from.result.1 + c.in_ok-last.last < 2 ^ 32 = run-few c.args.rows.now c.page_near-from.result.0.now c.page_near-from.result.1 c.in_ok-last.last c.requires c.page_near-from.ensures.page c.in_ok-last.ensures.inside in
    omega arith

pub returns-clause-first : goal.returns-clause-first
returns-clause-first c = run-place c.args.rows.now c.page_near-from.result.0.now c.page_near-from.result.1 c.in_ok-first.first c.args.lo c.page_near-from.ensures.page c.in_ok-first.ensures

pub returns-clause-last : goal.returns-clause-last
returns-clause-last c = run-place c.args.rows.now c.page_near-from.result.0.now c.page_near-from.result.1 c.in_ok-last.last c.args.hi c.page_near-from.ensures.page c.in_ok-last.ensures
