use Rattle.nexthop_objects.proofs.BookSteps.{object-book}
use Rattle.nexthop_objects.proofs.book_laws.object_sets_target.Goals as goal

pub returns : goal.returns
returns c = object-book
