use Rattle.std.proofs.Common.{◌≡◌}
use Rattle.version_lock.specs.Tokens.{IsSameToken}
use Rattle.version_lock.proofs.turn.take_book.Given as goal

abbrev pub invariant-loop : goal.invariant-loop
invariant-loop g l = IsSameToken l.initial.token l.token × (l.token.me ≡ l.initial.token.me)
