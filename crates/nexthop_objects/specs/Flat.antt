-- A history without next-hop objects that does the same: routes are set to what their objects do, and set again where
-- those change.
use Rattle.std.specs.Prelude.{ℕ, List, [], ◌∷◌, ◌++◌, ◌+◌, ◌==◌, Some, IsSome, filter, map}
use Rattle.std.specs.List.{flat_map}
use Rattle.std.specs.Map.{lookup}
use Rattle.base.specs.declared.ids.RouterId.{RouterId}
use Rattle.dn_model.specs.Table.{followed, is_by, objects, table}
use Rattle.dn_model.specs.Tables.{device_of}
use Rattle.dn_model.specs.declared.entry.Entry.{Entry}
use Rattle.dn_model.specs.declared.entry.Entry.TheVariants.{Route, Link}
use Rattle.dn_model.specs.declared.entry.Op.TheVariants.{Set, SetBy, Clear, Object, NoObject}
use Rattle.dn_model.specs.declared.entry.Route as route
use Rattle.dn_model.specs.declared.topology.RouterTable.{RouterTable}
use Rattle.dn_model.specs.declared.topology.Topology.{Topology}
use Rattle.dn_model.specs.declared.way.Way.TheVariants.{By}

-- as many routers as tables, by number from this one on
abbrev pub routers_from : ℕ → List RouterTable → List RouterId
routers_from i [] = []
routers_from i (x ∷ xs) = record { 0 = i } ∷ routers_from (i + 1) xs

-- the routers that have a device's objects: the device and its VRFs
abbrev pub routers_of : Topology → RouterId → List RouterId
routers_of t device = filter (λ r. (device_of t r).0 == device.0) (routers_from 0 t.tables)

-- a router's routes by an object, after these entries
abbrev pub routes_by : Topology → List Entry → ℕ → RouterId → List route.Route
routes_by t before id r = filter (λ x. is_by id x.way) (table t before r)

-- an entry after these ones, without objects: a route by an object is set to what that does, an object that is set sets
-- each route by it, and one that goes away clears them
abbrev pub flat_entry : Topology → List Entry → Entry → List Entry
flat_entry t before (Link job l down) = Link job l down ∷ []
flat_entry t before (Route r n (Set p m target)) = Route r n (Set p m target) ∷ []
flat_entry t before (Route r n (Clear p m)) = Route r n (Clear p m) ∷ []
flat_entry t before (Route r n (SetBy p m id)) = Route r n (Set p m (followed (objects t before r) (By id))) ∷ []
flat_entry t before (Route r n (Object id target)) =
    flat_map (λ q. map (λ x. Route q n (Set x.prefix x.metric target)) (routes_by t before id q)) (routers_of t r)
flat_entry t before (Route r n (NoObject id)) =
    flat_map (λ q. map (λ x. Route q n (Clear x.prefix (Some x.metric))) (routes_by t before id q)) (routers_of t r)

-- the entries that come after these ones, without objects
abbrev pub flat_from : Topology → List Entry → List Entry → List Entry
flat_from t before [] = []
flat_from t before (e ∷ es) = flat_entry t before e ++ flat_from t (before ++ e ∷ []) es

-- a history without objects
abbrev pub flat : Topology → List Entry → List Entry
flat t history = flat_from t [] history

-- where an entry sets a route by an object, that is there after the entries before it
abbrev pub IsLive : Topology → List Entry → Entry → Type 0
IsLive t before (Route r n (SetBy p m id)) = IsSome (lookup (λ i. i == id) (objects t before r))
IsLive t before _ = Unit {0}

abbrev pub AreLiveFrom : Topology → List Entry → List Entry → Type 0
AreLiveFrom t before [] = Unit {0}
AreLiveFrom t before (e ∷ es) = IsLive t before e × AreLiveFrom t (before ++ e ∷ []) es

-- each route by an object is set while that is there
abbrev pub AreLive : Topology → List Entry → Type 0
AreLive t history = AreLiveFrom t [] history

-- an entry that is of no object, and sets no route by one
abbrev pub HasNoObject : Entry → Type 0
HasNoObject (Route r n (SetBy p m id)) = ⊥
HasNoObject (Route r n (Object id target)) = ⊥
HasNoObject (Route r n (NoObject id)) = ⊥
HasNoObject _ = Unit {0}
