use Rattle.std.proofs.Common.{◌≡◌, ◌++◌, drop, map, take}
use Rattle.base.specs.Links.{without}
use Rattle.what_if.proofs.links.take_links_down.Given as goal

-- the targets so far are taken with the links down, and those that are left make the rest
abbrev pub invariant-loop-target : goal.invariant-loop-target
invariant-loop-target l = take l.target-index l.targets ++ map (without l.down) (drop l.target-index l.targets) ≡ map (without l.down) l.initial.targets
