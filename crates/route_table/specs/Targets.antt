-- What is done by the routes of one prefix, which have a metric each.
use Rattle.std.specs.Prelude.{ℕ, Bool, true, false, List, [], ◌∷◌, ◌++◌, Option, None, Some, Contains, filter, not, ◌==◌, ◌≡◌, ◌≤◌}
use Rattle.base.specs.Cidr.{Cidr}
use Rattle.dn_model.specs.declared.entry.Route.{Route}
use Rattle.dn_model.specs.declared.way.Way.{Way}
use Rattle.route_table.specs.declared.metric_way.MetricWay.{MetricWay}
use Rattle.route_table.specs.declared.targets.Held.{Held}
use Rattle.route_table.specs.declared.targets.Held.TheVariants.{Nothing, One, More}

abbrev pub metric_of : MetricWay → ℕ
metric_of x = x.metric

-- the route of a prefix that has this metric and does this
abbrev pub route_at : Cidr → MetricWay → Route
route_at p x = record { prefix = p; metric = x.metric; way = x.way }

abbrev pub without_metric : List MetricWay → ℕ → List MetricWay
without_metric targets m = filter (λ x. not (x.metric == m)) targets

-- what a setting makes of them
abbrev pub with_target : List MetricWay → ℕ → Way → List MetricWay
with_target targets m t = without_metric targets m ++ record { metric = m; way = t } ∷ []

-- what putting a route makes of them: alone, it takes the place of all
abbrev pub placed : Bool → List MetricWay → ℕ → Way → List MetricWay
placed false targets m t = with_target targets m t
placed true targets m t = record { metric = m; way = t } ∷ []

-- that changes nothing
abbrev pub IsPlaced : Bool → List MetricWay → ℕ → Way → Type 0
IsPlaced false targets m t = Contains targets (record { metric = m; way = t })
IsPlaced true targets m t = targets ≡ record { metric = m; way = t } ∷ []

-- what a clearing leaves of them: without a metric nothing
abbrev pub cleared : List MetricWay → Option ℕ → List MetricWay
cleared targets None = []
cleared targets (Some m) = without_metric targets m

-- what is held, however it is
abbrev pub targets_of : Held → List MetricWay
targets_of Nothing = []
targets_of (One x) = x ∷ []
targets_of (More xs) = xs.value

-- the one with the least metric, of which there is none exactly where there is no route
abbrev pub IsLeast : List MetricWay → Option MetricWay → Type 0
IsLeast targets None = targets ≡ []
IsLeast targets (Some x) = Contains targets x × ((y : MetricWay) → Contains targets y → x.metric ≤ y.metric)

-- what it does
abbrev pub IsFirst : List MetricWay → Option Way → Type 0
IsFirst targets None = targets ≡ []
IsFirst targets (Some t) = (x : MetricWay) × IsLeast targets (Some x) × (x.way ≡ t)
