-- The keys under which objects and their users are kept.
use Rattle.std.specs.Prelude.{ℕ, List, IsTrue, ◌<◌, ◌^◌}
use Rattle.std.specs.BTreeMap.{is_at}
use Rattle.std.specs.List.{list_any}
use Rattle.base.specs.Cidr.{IsCidr}
use Rattle.base.specs.declared.ids.RouterId.{RouterId}
use Rattle.nexthop_objects.specs.Objects.{User}
use Rattle.nexthop_objects.specs.declared.keys.ObjectKey.{ObjectKey}
use Rattle.nexthop_objects.specs.declared.keys.UserKey.{UserKey}
use Rattle.nexthop_objects.specs.contracts.keys.UserKeyOrd.TheImpl.{cmp-value as cmp_users}

-- the key of an object
abbrev pub object_at : RouterId → ℕ → ObjectKey
object_at d i = record { device = d; id = i }

-- the key of a user of an object
abbrev pub key_of : ObjectKey → User → UserKey
key_of object u = record { object = object; router = u.0; base = u.1.base; len = u.1.len; metric = u.2 }

-- the least and the greatest key of an object's users
abbrev pub first_key : ObjectKey → UserKey
first_key object = record { object = object; router = record { 0 = 0 }; base = 0; len = 0; metric = 0 }

abbrev pub last_key : ObjectKey → UserKey
last_key object =
    record { object = object; router = record { 0 = 65535 }; base = 4294967295; len = 255; metric = 4294967295 }

-- a key of a user: its numbers are in range, and its prefix has no host bits
pub record IsUserKey (k : UserKey) : Type 0 where
  pub router : k.router.0 < 2 ^ 16
  pub prefix : IsCidr (record { base = k.base; len = k.len })
  pub metric : k.metric < 2 ^ 32

-- each of these is a key of a user
abbrev pub AreUserKeys : List UserKey → Type 0
AreUserKeys keys = (k : UserKey) → IsTrue (list_any (is_at (cmp_users.it k)) keys) → IsUserKey k
