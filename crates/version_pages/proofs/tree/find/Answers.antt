use Rattle.std.proofs.Common.{◌-◌, sym, subst, arith}
use Rattle.version_pages.specs.Shape.{IsAt}
use Rattle.version_pages.proofs.Ends.{at-ends}
use Rattle.version_pages.proofs.tree.find.Goals as goal

pub returns : goal.returns
returns g c =
    subst (λ n. IsAt c.args.kids.now.items c.args.i c.on-k.result.0 (c.args.i - n)) (sym c.on-k.ensures.start) (at-ends _ _ _ _ c.requires.ends (omega (arith, c.on-k.ensures.child, c.requires.some)) (omega (arith, c.on-k.ensures.start, c.on-k.ensures.before)) (λ d l. c.on-k.ensures.end d (omega (arith, l))))
