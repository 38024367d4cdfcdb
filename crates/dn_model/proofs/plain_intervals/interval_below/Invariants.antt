use Rattle.std.proofs.Common.{ℕ, ◌<◌, get_or}
use Rattle.dn_model.specs.declared.moment.Moment.{Moment}
use Rattle.dn_model.proofs.Moments.{RoutesAlike}
use Rattle.dn_model.proofs.plain_intervals.interval_below.Given as goal

-- the routes of the routers so far have no end in the interval
abbrev pub invariant-loop-moment : goal.invariant-loop-moment
invariant-loop-moment l = (l.low < l.past) × ((k : ℕ) (d : Moment) → k < l.moment-index → RoutesAlike l.low l.past (get_or l.net.routers.items k d))
