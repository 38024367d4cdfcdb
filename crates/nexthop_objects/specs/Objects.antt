-- Next-hop objects (RTM_NEWNEXTHOP of rtnetlink(7)) as they stand: what each does, and which routes go by it.
use Rattle.std.specs.Prelude.{ℕ, Bool, false, List, [], Option, IsTrue, map, filter, ◌≡◌, ◌==◌, ◌&&◌, if◌then◌else◌}
use Rattle.std.specs.List.{list_any}
use Rattle.std.specs.List.Sorted.{IsStrictlySortedBy}
use Rattle.std.specs.Map.{lookup}
use Rattle.std.specs.Ordering.{nat_cmp, ordering_then}
use Rattle.std.specs.declared.cmp.Ordering.{Ordering}
use Rattle.base.specs.Cidr.{Cidr}
use Rattle.base.specs.Lists.{all_differ}
use Rattle.base.specs.declared.ids.RouterId.{RouterId}
use Rattle.base.specs.declared.target.Target.{Target}
use Rattle.nexthop_objects.specs.declared.keys.ObjectKey.{ObjectKey}
use Rattle.nexthop_objects.specs.declared.keys.UserKey.{UserKey}

-- what is kept: of objects that are there what they do, and the routes by objects, whether those are there or not
pub record Standing : Type 0 where
  pub targets : List (ObjectKey × Target)
  pub users : List UserKey

-- no objects, and no users
abbrev pub nothing : Standing
nothing = record { targets = []; users = [] }

-- whether an object is that of this device and id
abbrev pub is_object : RouterId → ℕ → ObjectKey → Bool
is_object d i key = (d.0 == key.device.0) && (i == key.id)

-- what an object of a device does; none where it isn't there
abbrev pub target_of : Standing → RouterId → ℕ → Option Target
target_of s d i = lookup (is_object d i) s.targets

-- a route by an object: its router, prefix and metric
abbrev pub User : Type 0
User = RouterId × Cidr × ℕ

abbrev pub user_of : UserKey → User
user_of key = (key.router, record { base = key.base; len = key.len }, key.metric)

-- of these the routes by an object of a device
abbrev pub users_among : RouterId → ℕ → List UserKey → List User
users_among d i keys = map user_of (filter (λ key. is_object d i key.object) keys)

abbrev pub users_of : Standing → RouterId → ℕ → List User
users_of s d i = users_among d i s.users

abbrev pub is_same_user : User → User → Bool
is_same_user u v = (u.0.0 == v.0.0) && (u.1.base == v.1.base) && (u.1.len == v.1.len) && (u.2 == v.2)

-- whether a route goes by an object of a device
abbrev pub has_user : Standing → RouterId → ℕ → User → Bool
has_user s d i u = list_any (is_same_user u) (users_of s d i)

-- whether a device and an id are these
abbrev pub is_same_object : RouterId → ℕ → RouterId → ℕ → Bool
is_same_object device id d i = (device.0 == d.0) && (id == i)

-- this object does this, or isn't there, and each other object does what it did
abbrev pub SetsTarget : Standing → Standing → RouterId → ℕ → Option Target → Type 0
SetsTarget old new device id o =
    (d : RouterId) (i : ℕ) → target_of new d i ≡ (if is_same_object device id d i then o else target_of old d i)

-- this route goes by this object, or doesn't, and each other route goes by the objects that it went by
abbrev pub SetsUser : Standing → Standing → RouterId → ℕ → User → Bool → Type 0
SetsUser old new device id user b =
    (d : RouterId) (i : ℕ) (u : User) →
    has_user new d i u ≡ (if is_same_object device id d i && is_same_user user u then b else has_user old d i u)

-- a route, and the id of the object of its router's device that it goes by
abbrev pub Use : Type 0
Use = ℕ × User

abbrev pub is_same_use : Use → Use → Bool
is_same_use x y = (x.0 == y.0) && is_same_user x.1 y.1

-- these routes go by these objects of a device no more, and each other route goes by the objects that it went by
abbrev pub TakesUsers : Standing → Standing → RouterId → List Use → Type 0
TakesUsers old new device uses =
    (d : RouterId) (i : ℕ) (u : User) →
    has_user new d i u ≡
    (if (device.0 == d.0) && list_any (is_same_use (i, u)) uses then false else has_user old d i u)

-- none of these users stands twice
abbrev pub AreOnce : List User → Type 0
AreOnce users = IsTrue (all_differ is_same_user users)

-- the order of routes by an object: by router, first address, length and metric
abbrev pub cmp_user : User → User → Ordering
cmp_user u v =
    ordering_then (nat_cmp u.0.0 v.0.0)
    (ordering_then (nat_cmp u.1.base v.1.base) (ordering_then (nat_cmp u.1.len v.1.len) (nat_cmp u.2 v.2)))

-- each of these users stands before the next
abbrev pub AreInOrder : List User → Type 0
AreInOrder users = IsStrictlySortedBy cmp_user users
