use Rattle.std.proofs.Common.{◌≡◌, ◌++◌}
use Rattle.version_pages.proofs.pages.Pages.from_vec.Given as goal

abbrev pub invariant-loop-item : goal.invariant-loop-item
invariant-loop-item g l = l.pages ++ l.item-iterator.rest.items ≡ l.fn.items.items
