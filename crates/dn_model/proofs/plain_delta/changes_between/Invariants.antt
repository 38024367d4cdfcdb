use Rattle.base.specs.DeltaFrom.{IsDeltaFrom}
use Rattle.dn_model.specs.Network.{does_in}
use Rattle.dn_model.proofs.plain_delta.changes_between.Given as goal

-- the changes from a router on are told
abbrev pub invariant-loop-left : goal.invariant-loop-left
invariant-loop-left l = IsDeltaFrom (does_in l.before) (does_in l.after) l.left 0 l.changes.items

abbrev pub decreases-loop-left : goal.decreases-loop-left
decreases-loop-left l = l.left
