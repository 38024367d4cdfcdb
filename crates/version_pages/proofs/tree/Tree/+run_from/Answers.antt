use Rattle.std.proofs.Common.{◌≡◌, ap, sym, ◌∙◌}
use Rattle.version_pages.specs.Nodes.{shape_of}
use Rattle.version_pages.specs.Shape.{items_of, joined}
use Rattle.version_pages.proofs.Within.{within-page, within-fork}
use Rattle.version_pages.proofs.tree.Tree.+run_from.Goals as goal

pub returns-in-Page-clause-run : goal.returns-in-Page-clause-run
returns-in-Page-clause-run g t c =
    let e : c.in-Page.items.items ≡ c.args.self.now.items = ap items_of (ap shape_of (sym c.in-Page.is) ∙ c.self.view_is) in
    within-page _ _ _ (c.deref.ensures.value ∙ e) c.requires

pub returns-in-Fork-clause-run : goal.returns-in-Fork-clause-run
returns-in-Fork-clause-run g t c =
    let e : joined c.in-Fork.kids.items ≡ c.args.self.now.items = ap items_of (ap shape_of (sym c.in-Fork.is) ∙ c.self.view_is) in
    within-fork _ _ _ _ _ _ _ e c.child_at-j.ensures.within c.run_from.ensures.run
