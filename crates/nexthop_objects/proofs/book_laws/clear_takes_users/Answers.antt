use Rattle.nexthop_objects.proofs.BookSteps.{clear-book}
use Rattle.nexthop_objects.proofs.book_laws.clear_takes_users.Goals as goal

pub returns : goal.returns
returns c = clear-book
