use Rattle.std.proofs.Common.{◌≡◌, ◌+◌, ◌<◌, ◌≤◌, length, get_or, ap, arith}
use Rattle.base.specs.Forwarding.{row_past}
use Rattle.label_view.proofs.Found.{next-inside, next-from}
use Rattle.label_view.proofs.list_view.place_of.Goals as goal

pub search-preserved : goal.search-preserved
search-preserved c =
    let q : c.index-rows-place.result.past ≡ (get_or c.args.rows.now c.search.place c.index-rows-place.result).past = ap row_past c.index-rows-place.is in
    let o : (get_or c.args.rows.now c.search.place c.index-rows-place.result).past ≤ c.args.a = c.search-test.true in
    let t : c.index-rows-place.result.past ≤ c.args.a = omega arith in
    let l : c.search.place + 1 < length c.args.rows.now = next-inside c.args.rows.now c.search.place c.args.a c.index-rows-place.result c.requires c.search.invariant.inside (omega arith) c.index-rows-place.is t in
    record {
      inside = l;
      from = next-from c.args.rows.now c.search.place c.args.a c.index-rows-place.result c.requires l c.index-rows-place.is t;
    }
