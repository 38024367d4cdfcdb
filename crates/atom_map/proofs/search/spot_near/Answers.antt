use Rattle.std.proofs.Common.{◌+◌, ◌<◌, ◌^◌, sym, arith}
use Rattle.atom_map.proofs.Placed.{run-few, run-inside, run-read}
use Rattle.atom_map.proofs.search.spot_near.Goals as goal

pub overflow_add-place : goal.overflow_add-place
overflow_add-place c =
    let few : c.page_near-first.result.1 + c.in_ok-below.below < 2 ^ 32 = run-few c.args.rows.now c.page_near-first.result.0.now c.page_near-first.result.1 c.in_ok-below.below c.requires c.page_near-first.ensures.page c.in_ok-below.ensures.inside in
    omega arith

pub returns : goal.returns
returns c = record {
  inside = run-inside c.args.rows.now c.page_near-first.result.0.now c.page_near-first.result.1 c.in_ok-below.below c.page_near-first.ensures.page c.in_ok-below.ensures.inside;
  is = λ d. sym (run-read c.args.rows.now c.page_near-first.result.0.now c.page_near-first.result.1 c.in_ok-below.below d _ c.page_near-first.ensures.page c.in_ok-below.ensures.inside);
  from = c.in_ok-below.ensures.from _;
  to = c.in_ok-below.ensures.to _;
}
