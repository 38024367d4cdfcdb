use Rattle.std.proofs.Common.{◌≡◌}
use Rattle.made_input.specs.Updates.{made_feed}
use Rattle.made_input.proofs.updates.feed.Given as goal

abbrev pub invariant-loop-j : goal.invariant-loop-j
invariant-loop-j l = l.out.items ≡ made_feed l.router l.j
