use Rattle.version_lock.specs.Callers.{IsSameSeat}
use Rattle.lock_trials.proofs.lock_tests.apply_many.Given as goal

abbrev pub invariant-loop-feed_no : goal.invariant-loop-feed_no
invariant-loop-feed_no g l = IsSameSeat l.initial.seat l.seat
