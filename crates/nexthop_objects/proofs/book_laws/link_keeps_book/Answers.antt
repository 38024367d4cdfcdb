use Rattle.nexthop_objects.proofs.BookSteps.{link-book}
use Rattle.nexthop_objects.proofs.book_laws.link_keeps_book.Goals as goal

pub returns : goal.returns
returns c = link-book
