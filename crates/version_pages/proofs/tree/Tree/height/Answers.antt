use Rattle.std.proofs.Common.{subst}
use Rattle.version_pages.proofs.Deep.{deep-node}
use Rattle.version_pages.specs.Shape.{IsDeep}
use Rattle.version_pages.proofs.tree.Tree.height.Goals as goal

pub returns-in-Fork-clause-deep : goal.returns-in-Fork-clause-deep
returns-in-Fork-clause-deep g c = subst IsDeep c.self.view_is (deep-node c.self.inside.node c.self.invariant)
