use Rattle.std.proofs.Common.{◌≡◌, ap, sym, ◌∙◌}
use Rattle.version_pages.specs.Nodes.{shape_of}
use Rattle.version_pages.specs.Shape.{items_of, joined}
use Rattle.version_pages.proofs.Within.{within-fork, within-itself}
use Rattle.version_pages.proofs.tree.Tree.+page_at.Goals as goal

pub returns-in-Page-clause-within : goal.returns-in-Page-clause-within
returns-in-Page-clause-within g t c =
    let e : c.in-Page.items.items ≡ c.args.self.now.items = ap items_of (ap shape_of (sym c.in-Page.is) ∙ c.self.view_is) in
    within-itself _ _ _ e

pub returns-in-Fork-clause-within : goal.returns-in-Fork-clause-within
returns-in-Fork-clause-within g t c =
    let e : joined c.in-Fork.kids.items ≡ c.args.self.now.items = ap items_of (ap shape_of (sym c.in-Fork.is) ∙ c.self.view_is) in
    within-fork _ _ _ _ _ _ _ e c.child_at-j.ensures.within c.page_at.ensures.within
