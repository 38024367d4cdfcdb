use Rattle.std.proofs.Common.{◌≤◌, ◌^◌}
use Rattle.base.specs.HolesFrom.{AreHolesFrom}
use Rattle.dn_model.specs.Network.{does_in, routers_in}
use Rattle.dn_model.proofs.plain_holes.holes_of.Given as goal

-- the black holes of the addresses from one on
abbrev pub invariant-loop-past : goal.invariant-loop-past
invariant-loop-past l = (l.past ≤ 2 ^ 32) × AreHolesFrom (routers_in l.net) (does_in l.net) l.first l.past l.holes.items

abbrev pub decreases-loop-past : goal.decreases-loop-past
decreases-loop-past l = l.past
