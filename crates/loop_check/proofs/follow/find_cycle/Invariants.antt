use Rattle.std.proofs.Common.{◌<◌, length}
use Rattle.loop_check.specs.Following.{Follows, hops}
use Rattle.loop_check.proofs.follow.find_cycle.Given as goal

-- each cycle that has the router has the one that is followed from
abbrev pub invariant-earlier : goal.invariant-earlier
invariant-earlier l = record {
  inside : l.first.0 < length l.targets;
  follows : Follows (hops l.targets) l.fn.router l.first;
}

abbrev pub decreases-earlier : goal.decreases-earlier
decreases-earlier l = l.first.0
