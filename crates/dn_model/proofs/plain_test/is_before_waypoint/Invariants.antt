use Rattle.std.proofs.Common.{◌≡◌, drop}
use Rattle.base.specs.Reach.{comes_before}
use Rattle.dn_model.proofs.plain_test.is_before_waypoint.Given as goal

-- what is left decides
abbrev pub invariant-loop-router : goal.invariant-loop-router
invariant-loop-router l = comes_before l.to l.through (drop l.router-index l.routers) ≡ comes_before l.to l.through l.routers
