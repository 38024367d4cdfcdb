use Rattle.std.proofs.Common.{◌≤◌}
use Rattle.base.specs.CyclesFrom.{TellsCycles}
use Rattle.dn_model.specs.Network.{does_in, routers_in}
use Rattle.dn_model.proofs.plain_loops.tell_address.Given as goal

-- the cycles of the first routers so far
abbrev pub invariant-loop-left : goal.invariant-loop-left
invariant-loop-left l = (l.left ≤ routers_in l.net) × TellsCycles (does_in l.net) l.left (routers_in l.net) l.a l.fn.cycles.items l.cycles.items

abbrev pub decreases-loop-left : goal.decreases-loop-left
decreases-loop-left l = l.left
