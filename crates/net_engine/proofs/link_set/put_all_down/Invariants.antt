use Rattle.std.proofs.Common.{◌≡◌, ◌++◌, drop, map, take}
use Rattle.base.specs.Links.{without}
use Rattle.net_engine.specs.LinkSet.{links_from}
use Rattle.net_engine.proofs.link_set.put_all_down.Given as goal

-- the targets so far are taken with the links down, and those that are left make the rest
abbrev pub invariant-loop-target : goal.invariant-loop-target
invariant-loop-target l = take l.target-index l.targets ++ map (without (links_from 0 l.flags)) (drop l.target-index l.targets) ≡ map (without (links_from 0 l.flags)) l.initial.targets
