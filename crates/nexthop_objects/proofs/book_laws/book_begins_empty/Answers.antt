use Rattle.nexthop_objects.proofs.BookSteps.{nothing-book}
use Rattle.nexthop_objects.proofs.book_laws.book_begins_empty.Goals as goal

pub returns : goal.returns
returns c = nothing-book
