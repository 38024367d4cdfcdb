use Rattle.std.proofs.Common.{ℕ, ◌<◌, ◌/◌, sym, subst, inl, inr, ⊎_elim, arith, rules}
use Rattle.version_lock.specs.Callers.{Caller, HasNumber, IsSameSeat}
use Rattle.version_lock.specs.Rule.{longer}
use Rattle.version_lock.proofs.Numbers.{split_has, join_has, same_has}
use Rattle.lock_trials.proofs.lock_tests.in_two.Goals as goal

pub returns-clause-numbers : goal.returns-clause-numbers
returns-clause-numbers g c = λ n has.
    let half : ℕ = c.span-half.result / 2 in
    let value = c.span-half.ensures.value in
    let more = c.requires.span in
    let fewer : half < c.args.seat.span = omega (arith, value, more) in
    let parts = split_has c.args.seat half n fewer has in
    let one : IsSameSeat c.split-theirs.new.seat c.join-one.result.0 = search rules in
    let two : IsSameSeat c.split-theirs.result c.join-one.result.1 = search rules in
    subst (λ (s : Caller). HasNumber s n) (sym c.join.ensures.both) (join_has c.join-one.result.0 c.join-one.result.1 (longer c.join-one.result.0.seen c.join-one.result.1.seen) n
    (⊎_elim
    (λ mine. inl (same_has c.split-theirs.new.seat c.join-one.result.0 n one (subst (λ (s : Caller). HasNumber s n) (sym c.split-theirs.ensures.left) mine)))
    (λ theirs. inr (same_has c.split-theirs.result c.join-one.result.1 n two (subst (λ (s : Caller). HasNumber s n) (sym c.split-theirs.ensures.given) theirs))) parts))
