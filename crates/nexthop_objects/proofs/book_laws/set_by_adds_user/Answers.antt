use Rattle.nexthop_objects.proofs.BookSteps.{set_by-book, set_by-book_last}
use Rattle.nexthop_objects.proofs.book_laws.set_by_adds_user.Goals as goal

pub returns-clause-first : goal.returns-clause-first
returns-clause-first c = set_by-book

pub returns-clause-last : goal.returns-clause-last
returns-clause-last c = set_by-book_last
