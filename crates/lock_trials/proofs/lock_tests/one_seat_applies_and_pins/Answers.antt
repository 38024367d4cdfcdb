use Rattle.std.proofs.Common.{sym, subst}
use Rattle.version_lock.specs.Callers.{Caller, HasNumber}
use Rattle.version_lock.proofs.Numbers.{first_has, same_has}
use Rattle.lock_trials.proofs.lock_tests.one_seat_applies_and_pins.Goals as goal

pub close-book-requires-clause-whole : goal.close-book-requires-clause-whole
close-book-requires-clause-whole c = λ c' _ n l.
    let first = subst (λ (s : Caller). HasNumber s n) (sym c'.in_ok-lock.ensures.first) (first_has c'.in_ok-lock.lock n l) in
    same_has c'.apply-position.new.seat c'.pin-2.new.seat n c'.pin-2.ensures.same
    (same_has c'.pin.new.seat c'.apply-position.new.seat n c'.apply-position.ensures.same (same_has c'.in_ok-lock.seat c'.pin.new.seat n c'.pin.ensures.same first))
