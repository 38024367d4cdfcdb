-- Policies of a network.
use Rattle.std.specs.Prelude.{◌<◌, length}
use Rattle.base.specs.declared.ids.RouterId.{RouterId}
use Rattle.dn_model.specs.declared.policy.Policy.{Policy}
use Rattle.dn_model.specs.declared.policy.Policy.TheVariants.{NeverLoops, AlwaysReach, NeverReach, AlwaysWaypoint, NeverBlackholes}
use Rattle.dn_model.specs.declared.topology.Topology.{Topology}

-- a router that a policy names is the network's
abbrev pub IsRouterOf : Topology → RouterId → Type 0
IsRouterOf t r = r.0 < length t.routers

-- all routers that a policy names are the network's
abbrev pub IsPolicyOf : Topology → Policy → Type 0
IsPolicyOf t NeverLoops = Unit {0}
IsPolicyOf t (AlwaysReach first to p) = IsRouterOf t first × IsRouterOf t to
IsPolicyOf t (NeverReach first to p) = IsRouterOf t first × IsRouterOf t to
IsPolicyOf t (AlwaysWaypoint first to through p) = IsRouterOf t first × IsRouterOf t to × IsRouterOf t through
IsPolicyOf t (NeverBlackholes first p) = IsRouterOf t first
