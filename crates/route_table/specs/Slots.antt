-- The slots of a routing table: each has the routes of one prefix, in order of their metrics. The slots are in order of
-- their prefixes.
use Rattle.std.specs.Prelude.{ℕ, Bool, List, [], ◌∷◌, Option, ◌≡◌, ◌+◌, ◌*◌, ◌<◌, length, map, flat_map, set, insert, slice_index_or, IsPermutation}
use Rattle.std.specs.List.{AllByRecursion}
use Rattle.base.specs.Cidr.{Cidr, IsCidr}
use Rattle.dn_model.specs.declared.table_op.TableOp.{TableOp}
use Rattle.dn_model.specs.declared.table_op.TableOp.TheVariants.{Put, Clear}
use Rattle.dn_model.specs.declared.entry.Route.{Route}
use Rattle.route_table.specs.declared.metric_way.MetricWay.{MetricWay}
use Rattle.dn_model.specs.declared.way.Way.{Way}
use Rattle.route_table.specs.Ascending.{AscendsFrom}
use Rattle.route_table.specs.Targets.{cleared, metric_of, placed, route_at, IsFirst, IsPlaced}

-- the routes of one prefix in one table: what they do, by metric
pub record PrefixRoutes : Type 0 where
  pub prefix : Cidr
  pub targets : List MetricWay

-- what tells prefixes apart: lengths are below 64
abbrev pub key_of : Cidr → ℕ
key_of p = p.base * 64 + p.len

abbrev pub slot_key : PrefixRoutes → ℕ
slot_key s = key_of s.prefix

abbrev pub routes_at : PrefixRoutes → List Route
routes_at s = map (route_at s.prefix) s.targets

-- the routes of a table: those of its slots, one slot after another
abbrev pub routes_of : List PrefixRoutes → List Route
routes_of slots = flat_map routes_at slots

pub record IsSlot (s : PrefixRoutes) : Type 0 where
  pub sound : IsCidr s.prefix
  pub metrics : AscendsFrom metric_of 0 s.targets

-- the keys of the prefixes ascend, so that each prefix has one slot at most
pub record AreSlots (slots : List PrefixRoutes) : Type 0 where
  pub keys : AscendsFrom slot_key 0 slots
  pub each : AllByRecursion IsSlot slots

-- one more slot stands at a place, with one route
pub record IsAddedAt (old new : List PrefixRoutes) (place : ℕ) (route : Route) : Type 0 where
  pub slot : PrefixRoutes
  pub prefix : slot.prefix ≡ route.prefix
  pub sound : IsCidr route.prefix
  pub targets : IsPermutation slot.targets (record { metric = route.metric; way = route.way } ∷ [])
  pub metrics : AscendsFrom metric_of 0 slot.targets
  pub list : new ≡ insert old place slot

-- what an update makes of what the routes of its prefix do
abbrev pub updated_targets : Bool → List MetricWay → TableOp → List MetricWay
updated_targets alone targets (Put p m t) = placed alone targets m t
updated_targets alone targets (Clear p metric) = cleared targets metric

-- an update of its prefix leaves the routes of a slot as they are
abbrev pub IsUnchangedBy : Bool → List MetricWay → TableOp → Type 0
IsUnchangedBy alone targets (Put p m t) = IsPlaced alone targets m t
IsUnchangedBy alone targets (Clear p metric) = cleared targets metric ≡ targets

-- an update sets a route, or there are some
abbrev pub SetsOrHasSome : List MetricWay → TableOp → Type 0
SetsOrHasSome targets (Put p m t) = Unit {0}
SetsOrHasSome targets (Clear p metric) = 0 < length targets

-- an update was made among the routes of a slot, and the first of them then does this
pub record IsUpdatedIn (old new : PrefixRoutes) (alone : Bool) (op : TableOp) (first : Option Way) : Type 0 where
  pub same : new.prefix ≡ old.prefix
  pub targets : IsPermutation new.targets (updated_targets alone old.targets op)
  pub metrics : AscendsFrom metric_of 0 new.targets
  pub first_is : IsFirst new.targets first

-- so it was in the slot at a place
pub record IsUpdatedAt (old new : List PrefixRoutes) (place : ℕ) (alone : Bool) (op : TableOp) (first : Option Way) : Type 0 where
  pub slot : PrefixRoutes
  pub made : (d : PrefixRoutes) → IsUpdatedIn (slice_index_or old place d) slot alone op first
  pub list : new ≡ set old place slot
