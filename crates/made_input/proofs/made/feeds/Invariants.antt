use Rattle.std.proofs.Common.{◌≡◌}
use Rattle.made_input.specs.Updates.{feeds_below}
use Rattle.made_input.proofs.made.feeds.Given as goal

abbrev pub invariant-loop-router : goal.invariant-loop-router
invariant-loop-router l = l.feeds ≡ feeds_below l.router l.n
