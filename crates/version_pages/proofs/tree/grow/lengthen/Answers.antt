use Rattle.std.proofs.Common.{◌+◌, refl, get_or, arith}
use Rattle.std.proofs.lemmas.List.{length-set}
use Rattle.version_pages.proofs.Ends.{longer-step}
use Rattle.version_pages.proofs.tree.grow.lengthen.Goals as goal

pub overflow_add-ends : goal.overflow_add-ends
overflow_add-ends c = omega (arith, c.ends.invariant.1.1.after c.ends.n 0 (omega arith), c.requires.few c.ends.n 0 (omega (arith, c.ends.auto.ends, c.ends-test.true)))

pub ends-preserved : goal.ends-preserved
ends-preserved c =
    (omega (arith, length-set c.ends.ends c.ends.n (get_or c.ends.ends c.ends.n 0 + c.args.count), c.ends-test.true), (omega (arith, c.ends.invariant.1.0), longer-step _ _ _ _ _ _ c.ends.invariant.1.1 c.ends.invariant.1.0 c.ends-test.true refl))
