use Rattle.nexthop_objects.proofs.BookSteps.{none-taken, one-taken}
use Rattle.nexthop_objects.proofs.book_laws.users_go_one_by_one.Goals as goal

pub returns-clause-none : goal.returns-clause-none
returns-clause-none c = none-taken

pub returns-clause-more : goal.returns-clause-more
returns-clause-more c = one-taken
