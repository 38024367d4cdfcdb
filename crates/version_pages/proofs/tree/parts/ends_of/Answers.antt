use Rattle.std.proofs.Common.{◌≡◌, ◌+◌, ap, sym, subst, length, take, arith}
use Rattle.version_pages.specs.Shape.{Shape, items_of, joined, AreEndsTo}
use Rattle.version_pages.proofs.Ending.{front-few, joined-more}
use Rattle.version_pages.proofs.Ends.{ends-more}
use Rattle.version_pages.proofs.tree.parts.ends_of.Goals as goal

pub overflow_add-end : goal.overflow_add-end
overflow_add-end g c =
    omega (arith, c.loop-kid.invariant.1, joined-more c.args.kids.now c.loop-kid.kid-index c.kid-item.result c.loop-kid-test.true, ap (λ (s : Shape _). length (items_of s)) c.kid-item.is, c.len-end.ensures.value, front-few c.args.kids.now (c.loop-kid.kid-index + 1), c.requires)

pub loop-kid-preserved : goal.loop-kid-preserved
loop-kid-preserved g c =
    let sum : c.loop-kid.end + c.len-end.result ≡ length (joined (take c.loop-kid.kid-index c.args.kids.now)) + length (items_of c.kid-item.result) = omega (arith, c.loop-kid.invariant.1, c.len-end.ensures.value) in (
      subst (λ t. AreEndsTo t c.args.kids.now (c.loop-kid.kid-index + 1)) (sym c.in_ok-push.ensures.items) (ends-more _ _ _ _ c.kid-item.result c.loop-kid.invariant.0 c.loop-kid-test.true c.kid-item.is sum),
      omega (arith, sum, joined-more c.args.kids.now c.loop-kid.kid-index c.kid-item.result c.loop-kid-test.true, ap (λ (s : Shape _). length (items_of s)) c.kid-item.is),
    )
