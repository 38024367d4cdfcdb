use Rattle.std.proofs.Common.{sym, subst}
use Rattle.version_pages.specs.Shape.{items_of, joined, IsWithin}
use Rattle.version_pages.proofs.Within.{within-kid}
use Rattle.version_pages.proofs.tree.child_at.Goals as goal

pub returns-clause-within : goal.returns-clause-within
returns-clause-within g c = subst (λ s. IsWithin (joined c.args.kids.now.items) (items_of s) c.args.i c.find-k.result.1) (sym c.tree.ensures) (within-kid _ _ _ _ _ c.find-k.ensures.child c.index.ensures c.find-k.ensures.place)
