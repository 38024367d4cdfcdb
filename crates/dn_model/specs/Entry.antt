-- Entries of a history: how each is read, and which are a network's.
use Rattle.std.specs.Prelude.{ℕ, Bool, false, ◌<◌, ◌≡◌, ◌+◌, ◌==◌, ◌||◌, List, length, map, Option, None, Some, if◌then◌else◌}
use Rattle.base.specs.Cidr.{Cidr, size}
use Rattle.dn_model.specs.Tables.{device_of}
use Rattle.base.specs.declared.ids.RouterId.{RouterId}
use Rattle.base.specs.declared.target.Target.{Target}
use Rattle.base.specs.declared.target.Target.TheVariants.{NoRoute, Dropped, Local, Exit, OnLink, To, LinkDown}
use Rattle.dn_model.specs.declared.entry.Entry.{Entry}
use Rattle.dn_model.specs.declared.entry.Entry.TheVariants.{Route, Link}
use Rattle.dn_model.specs.declared.entry.Posted.{Posted}
use Rattle.dn_model.specs.declared.entry.Op.{Op}
use Rattle.dn_model.specs.declared.entry.Op.TheVariants.{Set, SetBy, Clear, Object, NoObject}
use Rattle.dn_model.specs.declared.topology.Topology.{Topology}

-- of an update of a device, what it is to its VRFs: an object that is set or goes away
abbrev pub object_op : Op → Option Op
object_op (Set p m t) = None
object_op (SetBy p m id) = None
object_op (Clear p m) = None
object_op (Object id t) = Some (Object id t)
object_op (NoObject id) = Some (NoObject id)

-- what an entry does to a router: an update of its own, or one of its device's objects
abbrev pub op_on : Topology → RouterId → Entry → Option Op
op_on t r (Route q n op) = if q.0 == r.0 then Some op else if q.0 == (device_of t r).0 then object_op op else None
op_on t r (Link j l down) = None

-- whether an entry came from the feed of this number
abbrev pub is_of_feed : ℕ → Entry → Bool
is_of_feed n (Route r m op) = m == n
is_of_feed n (Link j l down) = false

-- whether a prefix begins at an address, or ends before it
abbrev pub is_bound_of : Cidr → ℕ → Bool
is_bound_of p a = (p.base == a) || ((p.base + size p) == a)

-- the prefix of the route that an update sets
abbrev pub prefix_set : Op → Option Cidr
prefix_set (Set p m t) = Some p
prefix_set (SetBy p m id) = Some p
prefix_set (Clear p m) = None
prefix_set (Object id t) = None
prefix_set (NoObject id) = None

abbrev pub is_end_of_some : Option Cidr → ℕ → Bool
is_end_of_some None a = false
is_end_of_some (Some p) a = is_bound_of p a

abbrev pub op_sets_end : ℕ → Op → Bool
op_sets_end a op = is_end_of_some (prefix_set op) a

-- whether an entry sets a route whose prefix begins at an address, or ends before it
abbrev pub ends_of_set : ℕ → Entry → Bool
ends_of_set a (Route r n op) = op_sets_end a op
ends_of_set a (Link j l down) = false

-- what a route or an object may do: a router and a link that it names are the network's, and it does something
abbrev pub IsTargetOf : Topology → Target → Type 0
IsTargetOf t NoRoute = ⊥
IsTargetOf t (Dropped kind) = Unit {0}
IsTargetOf t Local = Unit {0}
IsTargetOf t (Exit i) = Unit {0}
IsTargetOf t (OnLink i) = Unit {0}
IsTargetOf t (To s l) = (s.0 < length t.routers) × (l.0 < length t.links)
IsTargetOf t (LinkDown l) = ⊥

-- an update of a router of the network: an object's router is a device
abbrev pub IsOpOf : Topology → RouterId → Op → Type 0
IsOpOf t r (Set p m target) = IsTargetOf t target
IsOpOf t r (SetBy p m id) = Unit {0}
IsOpOf t r (Clear p m) = Unit {0}
IsOpOf t r (Object id target) = (device_of t r ≡ r) × IsTargetOf t target
IsOpOf t r (NoObject id) = device_of t r ≡ r

-- an entry of the network: its router is there, and so are the router and the link that it goes on to; or its link is
abbrev pub IsEntryOf : Topology → Entry → Type 0
IsEntryOf t (Route r n op) = (r.0 < length t.routers) × IsOpOf t r op
IsEntryOf t (Link j l down) = l.0 < length t.links

-- the entries of a history, without their seats
abbrev pub entries : List Posted → List Entry
entries history = map (λ posted. posted.entry) history
