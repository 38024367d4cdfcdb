use Rattle.std.proofs.Common.{◌≡◌, ◌+◌, ◌-◌, ◌≤◌, length, arith}
use Rattle.version_pages.proofs.Appended.{more-within}
use Rattle.version_pages.proofs.Inserted.{length-put, put-more}
use Rattle.version_pages.proofs.pages.Pages.insert_inside.Goals as goal

pub pages-preserved : goal.pages-preserved
pages-preserved g c =
    let old : c.args.i ≤ length c.args.self.now = omega (arith, c.requires.inside) in
    let place : c.len-in-pages.result - (c.len.result - c.args.i) ≡ c.args.i + c.pages.at = omega (arith, c.len-in-pages.ensures, c.len.ensures, c.pages.invariant.1.0, old) in
    let inside : c.len-in-pages.result - (c.len.result - c.args.i) ≤ length c.pages.self = omega (arith, place, c.pages.invariant.1.0, old) in
    let long : length c.insert_some.new.self ≡ length c.pages.self + c.in_ok-count.count = length-put _ _ _ _ _ inside c.in_ok-count.ensures.within c.in_ok-count.ensures.items in (
      more-within c.args.items.now _ _ c.pages.invariant.0 c.in_ok-count.ensures.within,
      (omega (arith, long, c.pages.invariant.1.0), put-more _ _ _ c.args.items.now c.args.i _ _ _ old c.pages.invariant.0 c.pages.invariant.1.1 place c.in_ok-count.ensures.items),
    )
