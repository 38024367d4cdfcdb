use Rattle.std.proofs.Common.{rules}
use Rattle.version_pages.proofs.Edits.{put-kept}
use Rattle.version_pages.proofs.pages.Pages.put.Goals as goal

pub returns : goal.returns
returns g c = put-kept _ _ _ _ _ _ _ (λ x y r k. search rules) c.change.ensures.changed c.change.ensures.same
