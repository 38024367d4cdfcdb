use Rattle.version_pages.proofs.Appended.{append-more, more-within}
use Rattle.version_pages.proofs.tree.graft.fill_fork.Goals as goal

pub pages-preserved : goal.pages-preserved
pages-preserved g c = (
  more-within c.args.items.now _ _ c.pages.invariant.0 c.in-Ok.ensures.within,
  (append-more _ _ _ c.args.items.now _ _ c.pages.invariant.1.0 c.in-Ok.ensures.items, (c.add_page.ensures.kids, c.add_page.ensures.ends)),
)
