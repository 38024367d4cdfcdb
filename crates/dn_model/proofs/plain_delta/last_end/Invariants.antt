use Rattle.std.proofs.Common.{ℕ, ◌<◌, ◌≤◌, get_or}
use Rattle.base.specs.DeltaFrom.{CoversAlike}
use Rattle.dn_model.specs.declared.entry.Route.{Route}
use Rattle.dn_model.proofs.plain_delta.last_end.Given as goal

-- the routes so far have no end above the last one
abbrev pub invariant-loop-route : goal.invariant-loop-route
invariant-loop-route l =
    (l.last < l.past) × (l.low ≤ l.last)
    × ((k : ℕ) (d : Route) → k < l.route-index → CoversAlike l.last l.past (get_or l.routes k d).prefix)
