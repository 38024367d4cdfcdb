-- Routing tables as route lists: what updates make of them (rtnetlink(7)), and the route of an address
-- (longest prefix, then least metric: RFC 1812, and the priority of rules in Delta-net, NSDI 2017).
use Rattle.std.specs.Prelude.{ℕ, Bool, List, [], ◌∷◌, ◌++◌, Option, None, Some, filter, fold, not, nat_lt, unwrap_or, Contains, IsTrue, IsFalse, ◌&&◌, ◌||◌, ◌==◌, if◌then◌else◌, false}
use Rattle.std.specs.List.{filter_map}
use Rattle.std.specs.Map.{lookup}
use Rattle.base.specs.Cidr.{Cidr, covers}
use Rattle.dn_model.specs.Entry.{op_on}
use Rattle.dn_model.specs.Downs.{downs}
use Rattle.base.specs.Links.{without}
use Rattle.dn_model.specs.Tables.{device_of, replaces_prefix}
use Rattle.base.specs.Lists.{all_differ}
use Rattle.base.specs.declared.ids.RouterId.{RouterId}
use Rattle.base.specs.declared.target.Target.{Target}
use Rattle.base.specs.declared.target.Target.TheVariants.{NoRoute}
use Rattle.dn_model.specs.declared.entry.Entry.{Entry}
use Rattle.dn_model.specs.declared.entry.Op.{Op}
use Rattle.dn_model.specs.declared.entry.Op.TheVariants as ops
use Rattle.dn_model.specs.declared.entry.Route.{Route}
use Rattle.dn_model.specs.declared.table_op.TableOp.{TableOp}
use Rattle.dn_model.specs.declared.table_op.TableOp.TheVariants.{Put, Clear}
use Rattle.dn_model.specs.declared.way.Way.{Way}
use Rattle.dn_model.specs.declared.way.Way.TheVariants.{Straight, By}
use Rattle.dn_model.specs.declared.topology.Topology.{Topology}

-- whether a route has this prefix
abbrev pub is_of_prefix : Cidr → Route → Bool
is_of_prefix p r = (r.prefix.base == p.base) && (r.prefix.len == p.len)

-- whether a route has this key
abbrev pub has_key : Cidr → ℕ → Route → Bool
has_key p m r = is_of_prefix p r && (r.metric == m)

-- whether a route goes where one of this key is put: by the key, or by the prefix alone
abbrev pub is_replaced : Bool → Cidr → ℕ → Route → Bool
is_replaced alone p m r = is_of_prefix p r && (alone || (r.metric == m))

-- Put puts its route in the place of the one with its key, or, alone, of all routes of its prefix; Clear takes away the
-- route with its key, or without a metric all routes of the prefix.
abbrev pub after_table_op : Bool → List Route → TableOp → List Route
after_table_op alone routes (Put p m w) =
    filter (λ r. not (is_replaced alone p m r)) routes ++ record { prefix = p; metric = m; way = w } ∷ []
after_table_op alone routes (Clear p None) = filter (λ r. not (is_of_prefix p r)) routes
after_table_op alone routes (Clear p (Some m)) = filter (λ r. not (has_key p m r)) routes

-- the prefix at which a table is updated
abbrev pub prefix_of_op : TableOp → Cidr
prefix_of_op (Put p m w) = p
prefix_of_op (Clear p m) = p

-- whether a way is by this next-hop object
abbrev pub is_by : ℕ → Way → Bool
is_by id (Straight t) = false
is_by id (By i) = i == id

-- what an update makes of a router's routes: a route is put there with its target, or by an object; an object that goes
-- away takes the routes by it away
abbrev pub after_op : Bool → List Route → Op → List Route
after_op alone routes (ops.Set p m t) = after_table_op alone routes (Put p m (Straight t))
after_op alone routes (ops.SetBy p m id) = after_table_op alone routes (Put p m (By id))
after_op alone routes (ops.Clear p m) = after_table_op alone routes (Clear p m)
after_op alone routes (ops.Object id t) = routes
after_op alone routes (ops.NoObject id) = filter (λ r. not (is_by id r.way)) routes

-- what a history does to a router's table, in order
abbrev pub ops_on : Topology → RouterId → List Entry → List Op
ops_on t r history = filter_map (op_on t r) history

-- a router's routes after a history of a network
abbrev pub table : Topology → List Entry → RouterId → List Route
table t history r = fold (after_op (replaces_prefix t r)) [] (ops_on t r history)

-- ---- next-hop objects

-- an object's id, and what a route by it does
abbrev pub Object : Type 0
Object = ℕ × Target

abbrev pub other_objects : ℕ → List Object → List Object
other_objects id objects = filter (λ o. not (o.0 == id)) objects

-- an object that is set stands in the place of the one with its id; one that isn't there goes away all the same
abbrev pub after_object : List Object → Op → List Object
after_object objects (ops.Set p m t) = objects
after_object objects (ops.SetBy p m id) = objects
after_object objects (ops.Clear p m) = objects
after_object objects (ops.Object id t) = other_objects id objects ++ (id, t) ∷ []
after_object objects (ops.NoObject id) = other_objects id objects

-- the objects of a router's device after a history: its VRFs have them too
abbrev pub objects : Topology → List Entry → RouterId → List Object
objects t history r = fold after_object [] (ops_on t (device_of t r) history)

-- what a way comes to: a route by an object that isn't there leads nowhere
abbrev pub followed : List Object → Way → Target
followed objects (Straight t) = t
followed objects (By id) = unwrap_or (lookup (λ i. i == id) objects) NoRoute

-- ---- the route of an address

-- whether a route goes before another: the longer prefix, and of equal lengths the lesser metric
abbrev pub goes_before : Route → Route → Bool
goes_before x y = nat_lt y.prefix.len x.prefix.len || ((x.prefix.len == y.prefix.len) && nat_lt x.metric y.metric)

-- the one of two that goes first
abbrev pub better : Option Route → Route → Option Route
better None y = Some y
better (Some x) y = if goes_before y x then Some y else Some x

-- the route of an address: of those that cover it the one that goes before all others
abbrev pub best : List Route → ℕ → Option Route
best routes a = fold better None (filter (λ r. covers r.prefix a) routes)

-- where no route covers an address, its way leads nowhere
abbrev pub way_or_none : Option Route → Way
way_or_none None = Straight NoRoute
way_or_none (Some r) = r.way

-- the way of an address by a table
abbrev pub way_in : List Route → ℕ → Way
way_in routes a = way_or_none (best routes a)

abbrev pub target_or_none : List Object → Option Route → Target
target_or_none objects o = followed objects (way_or_none o)

-- what a table does with an address
abbrev pub target_in : List Object → List Route → ℕ → Target
target_in objects routes a = followed objects (way_in routes a)

-- what a router's routes do with an address after a history, whatever links are down
abbrev pub target_after : Topology → List Entry → RouterId → ℕ → Target
target_after t history r a = target_in (objects t history r) (table t history r) a

-- what each router does with each address after a history
abbrev pub does_after : Topology → List Entry → RouterId → ℕ → Target
does_after t history r a = without (downs history) (target_after t history r a)

-- whether two routes have one key
abbrev pub same_key : Route → Route → Bool
same_key x y = has_key x.prefix x.metric y

-- no two routes have one key
abbrev pub HasKeysOnce : List Route → Type 0
HasKeysOnce routes = IsTrue (all_differ same_key routes)

-- the route of an address, where one covers it: one of those that do, before which none of them goes
abbrev pub IsBest : List Route → ℕ → Option Route → Type 0
IsBest routes a None = (r : Route) → Contains routes r → IsFalse (covers r.prefix a)
IsBest routes a (Some b) = Contains routes b × IsTrue (covers b.prefix a) × ((r : Route) → Contains routes r → IsTrue (covers r.prefix a) → IsFalse (goes_before r b))
