use Rattle.std.proofs.Common.{◌≤◌, ◌^◌}
use Rattle.base.specs.RunsFrom.{AreRunsFrom}
use Rattle.dn_model.specs.Test.{passes}
use Rattle.dn_model.specs.Network.{does_in, routers_in}
use Rattle.dn_model.proofs.plain_runs.plain_runs.Given as goal

-- the runs from the address on
abbrev pub invariant-loop-past : goal.invariant-loop-past
invariant-loop-past l = (l.past ≤ 2 ^ 32) × AreRunsFrom l.past (passes (routers_in l.net) (does_in l.net) l.test) l.runs.items

abbrev pub decreases-loop-past : goal.decreases-loop-past
decreases-loop-past l = l.past
