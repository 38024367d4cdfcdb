use Rattle.std.proofs.Common.{sym, subst}
use Rattle.version_lock.specs.Callers.{Caller, HasNumber}
use Rattle.version_lock.proofs.Numbers.{first_has, same_has}
use Rattle.lock_trials.proofs.lock_tests.a_full_book_refuses.Goals as goal

pub close-book-requires-clause-whole : goal.close-book-requires-clause-whole
close-book-requires-clause-whole c = λ c' _ n l.
    let first = subst (λ (s : Caller). HasNumber s n) (sym c'.in_ok-lock.ensures.first) (first_has c'.in_ok-lock.lock n l) in
    same_has c'.apply-second.new.seat c'.apply-third.new.seat n c'.apply-third.ensures.same
    (same_has c'.apply-first.new.seat c'.apply-second.new.seat n c'.apply-second.ensures.same (same_has c'.in_ok-lock.seat c'.apply-first.new.seat n c'.apply-first.ensures.same first))
