use Rattle.std.proofs.Common.{◌≤◌, ◌^◌}
use Rattle.base.specs.DeltaFrom.{IsDeltaFrom}
use Rattle.dn_model.specs.Network.{does_in}
use Rattle.dn_model.proofs.plain_delta.tell_router.Given as goal

-- the changes from the address on are told
abbrev pub invariant-loop-past : goal.invariant-loop-past
invariant-loop-past l = (l.past ≤ 2 ^ 32) × IsDeltaFrom (does_in l.before) (does_in l.after) l.router.0 l.past l.changes.items

abbrev pub decreases-loop-past : goal.decreases-loop-past
decreases-loop-past l = l.past
