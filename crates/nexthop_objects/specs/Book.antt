-- Next-hop objects and their users after a history: rtnetlink(7), as tables and objects of a history are.
use Rattle.std.specs.Prelude.{ℕ, Bool, false, List, map, None, Some, not, ◌≡◌, ◌==◌, ◌&&◌}
use Rattle.std.specs.List.{list_any}
use Rattle.std.specs.Map.{lookup}
use Rattle.base.specs.declared.ids.RouterId.{RouterId}
use Rattle.dn_model.specs.Table.{has_key, is_by, is_of_prefix, is_replaced, objects, table}
use Rattle.dn_model.specs.Tables.{device_of, replaces_prefix}
use Rattle.dn_model.specs.declared.entry.Entry.{Entry}
use Rattle.dn_model.specs.declared.entry.Entry.TheVariants as entries
use Rattle.dn_model.specs.declared.entry.Op.{Op}
use Rattle.dn_model.specs.declared.entry.Op.TheVariants.{Set, SetBy, Clear, Object, NoObject}
use Rattle.dn_model.specs.declared.entry.Route.{Route}
use Rattle.dn_model.specs.declared.topology.Topology.{Topology}
use Rattle.nexthop_objects.specs.Objects.{Standing, Use, User, is_same_use, is_same_user, target_of, users_of}

-- whether a route is one of these prefix and metric, by this object
abbrev pub is_use : ℕ → User → Route → Bool
is_use id u x = has_key u.1 u.2 x && is_by id x.way

-- whether a route goes by an object of a device after a history: the device is its router's, and the route stands there
abbrev pub is_user_after : Topology → List Entry → RouterId → ℕ → User → Bool
is_user_after t history device id u =
    ((device_of t u.0).0 == device.0) && list_any (is_use id u) (table t history u.0)

-- these are the routes by an object of a device after a history, in any order
abbrev pub AreUsersAfter : Topology → List Entry → RouterId → ℕ → List User → Type 0
AreUsersAfter t history device id users =
    (u : User) → list_any (is_same_user u) users ≡ is_user_after t history device id u

-- the objects of each device are those after a history, and so are the routes by them
pub record IsBookAfter (t : Topology) (history : List Entry) (s : Standing) : Type 0 where
  pub targets : (device : RouterId) (id : ℕ) → device_of t device ≡ device →
      target_of s device id ≡ lookup (λ i. i == id) (objects t history device)
  pub users : (device : RouterId) (id : ℕ) → AreUsersAfter t history device id (users_of s device id)

-- each of these routes is cleared
abbrev pub clears : ℕ → List User → List Entry
clears feed users = map (λ u. entries.Route u.0 feed (Clear u.1 (Some u.2))) users

-- whether an update takes a route by an object out of its router's table, and doesn't set the same one again
abbrev pub is_displaced : Bool → Op → Route → Bool
is_displaced alone (Set p m target) x = is_replaced alone p m x
is_displaced alone (SetBy p m id) x = is_replaced alone p m x && not (has_key p m x && is_by id x.way)
is_displaced alone (Clear p None) x = is_of_prefix p x
is_displaced alone (Clear p (Some m)) x = has_key p m x
is_displaced alone (Object id target) x = false
is_displaced alone (NoObject id) x = is_by id x.way

-- these are the routes by objects that an update takes out of its router's table, in any order
abbrev pub AreDisplaced : Topology → List Entry → RouterId → Op → List Use → Type 0
AreDisplaced t history r op uses =
    (i : ℕ) (u : User) → list_any (is_same_use (i, u)) uses ≡
    ((r.0 == u.0.0) &&
    list_any (λ x. is_use i u x && is_displaced (replaces_prefix t r) op x) (table t history r))
