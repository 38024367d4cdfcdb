use Rattle.std.proofs.Common.{◌≡◌, ◌+◌, ◌<◌, length}
use Rattle.loop_check.specs.Following.{hops}
use Rattle.loop_check.proofs.Chains.{IsChain}
use Rattle.loop_check.proofs.follow.follow.Given as goal

-- the routers passed so far
abbrev pub invariant-loop-left : goal.invariant-loop-left
invariant-loop-left l = record {
  inside : l.last.0 < length l.targets;
  count : length l.path.items + l.left ≡ length l.targets + 1;
  chain : IsChain (hops l.targets) l.first l.last l.path.items;
}

abbrev pub decreases-loop-left : goal.decreases-loop-left
decreases-loop-left l = l.left
