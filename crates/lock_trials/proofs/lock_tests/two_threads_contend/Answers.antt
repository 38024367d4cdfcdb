use Rattle.std.proofs.Common.{sym, subst}
use Rattle.version_lock.specs.Callers.{Caller, HasNumber}
use Rattle.version_lock.proofs.Numbers.{first_has}
use Rattle.lock_trials.proofs.lock_tests.two_threads_contend.Goals as goal

pub close-book-requires-clause-whole : goal.close-book-requires-clause-whole
close-book-requires-clause-whole c = λ c' _ n l.
    let first = subst (λ (s : Caller). HasNumber s n) (sym c'.in_ok-lock.ensures.first) (first_has c'.in_ok-lock.lock n l) in
    c'.in_two-seat.ensures.numbers n first
