use Rattle.std.proofs.Common.{◌≡◌, length}
use Rattle.base.specs.Reach.{is_router}
use Rattle.base.specs.Lists.{all_differ}
use Rattle.dn_model.proofs.plain_cycle.do_differ.Given as goal

-- what is left decides
abbrev pub invariant-loop-left : goal.invariant-loop-left
invariant-loop-left l = all_differ is_router l.left ≡ all_differ is_router l.routers

abbrev pub decreases-loop-left : goal.decreases-loop-left
decreases-loop-left l = length l.left
