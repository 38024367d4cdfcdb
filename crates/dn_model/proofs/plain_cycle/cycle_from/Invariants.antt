use Rattle.std.proofs.Common.{◌≡◌, ◌+◌, length}
use Rattle.base.specs.Walk.{at_address}
use Rattle.dn_model.specs.Network.{does_in, routers_in}
use Rattle.base.proofs.CycleFrom.{IsTrail}
use Rattle.dn_model.proofs.plain_cycle.cycle_from.Given as goal

-- the routers so far, with which each cycle from the first one begins
abbrev pub invariant-loop-left : goal.invariant-loop-left
invariant-loop-left l =
    (length l.routers.items + l.left ≡ routers_in l.net + 1)
    × IsTrail (at_address (does_in l.net) l.a) (routers_in l.net) l.first l.last l.routers.items

abbrev pub decreases-loop-left : goal.decreases-loop-left
decreases-loop-left l = l.left
