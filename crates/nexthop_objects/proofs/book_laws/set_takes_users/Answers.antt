use Rattle.nexthop_objects.proofs.BookSteps.{set-book}
use Rattle.nexthop_objects.proofs.book_laws.set_takes_users.Goals as goal

pub returns : goal.returns
returns c = set-book
