use Rattle.nexthop_objects.proofs.BookSteps.{no_object-book}
use Rattle.nexthop_objects.proofs.book_laws.no_object_takes_users.Goals as goal

pub returns : goal.returns
returns c = no_object-book
