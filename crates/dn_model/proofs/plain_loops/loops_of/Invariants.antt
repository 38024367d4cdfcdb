use Rattle.std.proofs.Common.{◌≤◌, ◌^◌}
use Rattle.base.specs.CyclesFrom.{AreCyclesFrom}
use Rattle.dn_model.specs.Network.{does_in}
use Rattle.dn_model.proofs.plain_loops.loops_of.Given as goal

-- the cycles of the addresses from one on
abbrev pub invariant-loop-past : goal.invariant-loop-past
invariant-loop-past l = (l.past ≤ 2 ^ 32) × AreCyclesFrom (does_in l.net) l.past l.cycles.items

abbrev pub decreases-loop-past : goal.decreases-loop-past
decreases-loop-past l = l.past
