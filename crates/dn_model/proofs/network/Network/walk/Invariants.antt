use Rattle.std.proofs.Common.{◌≡◌, ◌++◌}
use Rattle.base.specs.Walk.{at_address, walk, walk_end}
use Rattle.dn_model.specs.Network.{does_in, routers_in}
use Rattle.dn_model.proofs.network.Network.walk.Given as goal

-- what was walked, and the walk from here on, make the whole walk
abbrev pub invariant-loop-left : goal.invariant-loop-left
invariant-loop-left l =
    (l.routers.items ++ walk (at_address (does_in l.self) l.a) l.left l.router ≡ walk (at_address (does_in l.self) l.a) (routers_in l.self) l.fn.first)
    × (walk_end (at_address (does_in l.self) l.a) l.left l.router ≡ walk_end (at_address (does_in l.self) l.a) (routers_in l.self) l.fn.first)

abbrev pub decreases-loop-left : goal.decreases-loop-left
decreases-loop-left l = l.left
