use Rattle.version_pages.proofs.Appended.{append-more, more-within}
use Rattle.version_pages.proofs.pages.Pages.extend.Goals as goal

pub pages-preserved : goal.pages-preserved
pages-preserved g c = (
  more-within c.args.items.now _ _ c.pages.invariant.0 c.in_ok-at.ensures.within,
  append-more _ _ _ c.args.items.now _ _ c.pages.invariant.1 c.in_ok-at.ensures.items,
)
