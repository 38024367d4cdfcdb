-- Route messages of rtnetlink(7), in the layout in which FRR's forwarding plane manager module sends them. Numbers
-- are little-endian, as the sender's are; an address is in network byte order.
use Rattle.std.specs.Prelude.{ℕ, ◌+◌, ◌<◌, ◌^◌, ◌==◌, nat_lt, Bool, true, false, if◌then◌else◌, List, [], ◌∷◌, ◌++◌, length, Option, None, Some, IfSome, unwrap_or, option_map, option_and_then, ◌||◌}
use Rattle.std.specs.Int.{w32, to_be_bytes, to_le_bytes}
use Rattle.base.specs.Cidr.{Cidr}
use Rattle.dn_model.specs.Lookup.{port_of}
use Rattle.base.specs.declared.ids.RouterId.{RouterId}
use Rattle.dn_model.specs.declared.ports.Port.{Port}
use Rattle.dn_model.specs.declared.ports.Port.TheVariants.{Link, Edge}
use Rattle.dn_model.specs.declared.topology.Topology.{Topology}
use Rattle.base.specs.declared.target.Target.{Target}
use Rattle.base.specs.declared.target.Target.TheVariants as target
use Rattle.base.specs.declared.target.Target.TheVariants.{Exit, OnLink, To}
use Rattle.base.specs.declared.target.DropKind.TheVariants as drop
use Rattle.dn_model.specs.declared.entry.Op.{Op}
use Rattle.dn_model.specs.declared.entry.Op.TheVariants.{Set, Clear, Object, NoObject}
use Rattle.feed_model.specs.declared.raw_route.RouteKind.{RouteKind}
use Rattle.feed_model.specs.declared.raw_route.RouteKind.TheVariants.{Unicast, Local, Blackhole, Unreachable, Prohibit}
use Rattle.feed_model.specs.declared.raw_route.RawRoute.{RawRoute}
use Rattle.feed_model.specs.declared.raw_object.RawObject.{RawObject}

-- RTN_UNICAST, RTN_LOCAL, RTN_BLACKHOLE, RTN_UNREACHABLE, RTN_PROHIBIT
abbrev pub kind_number : RouteKind → ℕ
kind_number Unicast = 1
kind_number Local = 2
kind_number Blackhole = 6
kind_number Unreachable = 7
kind_number Prohibit = 8

-- struct nlmsghdr: the message's length with these 16 bytes, its type, its flags, no sequence number and no port.
-- A message to delete is RTM_DELROUTE (25) with the flag NLM_F_REQUEST; one to set is RTM_NEWROUTE (24) with
-- NLM_F_REQUEST, NLM_F_REPLACE and NLM_F_CREATE.
abbrev pub type_and_flags : Bool → List ℕ
type_and_flags true = 25 ∷ 0 ∷ 1 ∷ 0 ∷ []
type_and_flags false = 24 ∷ 0 ∷ 1 ∷ 5 ∷ []

abbrev pub header_text : Bool → ℕ → List ℕ
header_text del len = to_le_bytes w32 len ++ type_and_flags del ++ 0 ∷ 0 ∷ 0 ∷ 0 ∷ 0 ∷ 0 ∷ 0 ∷ 0 ∷ []

-- a table's number in struct rtmsg, where it fits a byte, and in an attribute, where it doesn't
abbrev pub narrow_table : ℕ → ℕ
narrow_table table = if nat_lt 255 table then 0 else table

abbrev pub wide_table : ℕ → Option ℕ
wide_table table = if nat_lt 255 table then Some table else None

-- struct rtmsg: AF_INET (2), the prefix's length, no source, no type of service, the table, the protocol RTPROT_ZEBRA
-- (11), the scope RT_SCOPE_UNIVERSE (0), the route's type, no flags
abbrev pub route_part : ℕ → ℕ → ℕ → List ℕ
route_part len table kind = 2 ∷ len ∷ 0 ∷ 0 ∷ narrow_table table ∷ 11 ∷ 0 ∷ kind ∷ 0 ∷ 0 ∷ 0 ∷ 0 ∷ []

-- struct rtattr: the length 8 with these four bytes, the attribute's type, four bytes of payload
abbrev pub attribute : ℕ → List ℕ → List ℕ
attribute kind payload = 8 ∷ 0 ∷ kind ∷ 0 ∷ payload

-- RTA_DST (1), only where the prefix has a length above 0
abbrev pub destination_text : Cidr → List ℕ
destination_text p = if p.len == 0 then [] else attribute 1 (to_be_bytes w32 p.base)

-- RTA_GATEWAY (5), 192.0.2.1, where a gateway is named
abbrev pub gateway_text : Bool → List ℕ
gateway_text via = if via then attribute 5 (192 ∷ 0 ∷ 2 ∷ 1 ∷ []) else []

-- an attribute whose payload is a number, where there is one
abbrev pub number_text : ℕ → Option ℕ → List ℕ
number_text kind None = []
number_text kind (Some n) = attribute kind (to_le_bytes w32 n)

-- the attributes in order: RTA_DST, RTA_GATEWAY, RTA_OIF (4), RTA_PRIORITY (6), RTA_TABLE (15)
abbrev pub attributes_text : RawRoute → List ℕ
attributes_text raw =
    destination_text raw.prefix ++ gateway_text raw.via ++ number_text 4 raw.oif ++ number_text 6 raw.metric
    ++ number_text 15 (wide_table raw.table)

-- the bytes of the message of a route
abbrev pub message_text : RawRoute → List ℕ
message_text raw =
    header_text raw.del (28 + length (attributes_text raw))
    ++ route_part raw.prefix.len raw.table (kind_number raw.kind) ++ attributes_text raw

-- the numbers of a route fit their fields
abbrev pub NumberFits : Option ℕ → Type 0
NumberFits n = IfSome n (λ m. m < 2 ^ 32)

-- What a unicast route does at this interface. Over a link it leads to the far router where it names a gateway or the
-- link is unnumbered; at an edge it leaves the network where it names a gateway. Else it is for the segment itself.
abbrev pub target_at : Port → Bool → ℕ → Target
target_at (Link far link unnumbered) via index = if via || unnumbered then To far link else OnLink index
target_at Edge via index = if via then Exit index else OnLink index

-- the same by the interface's number, where the router's device has it
abbrev pub unicast_target : Topology → RouterId → Bool → ℕ → Option Target
unicast_target t r via index = option_map (λ port. target_at port via index) (port_of t r index)

-- a unicast route set; without a metric it is 0, without an interface it is nothing
abbrev pub set_op_of : Topology → RouterId → Cidr → Option ℕ → Bool → Option ℕ → Option Op
set_op_of t r p metric via oif = option_map (Set p (unwrap_or metric 0)) (option_and_then (unicast_target t r via) oif)

-- A route set, by its type. Only a unicast route looks for its interface: one to the router's own addresses, and one
-- that drops, is the same whatever interface or gateway it names.
abbrev pub set_op_by : Topology → RouterId → RouteKind → Cidr → Option ℕ → Bool → Option ℕ → Option Op
set_op_by t r Unicast p metric via oif = set_op_of t r p metric via oif
set_op_by t r Local p metric via oif = Some (Set p (unwrap_or metric 0) target.Local)
set_op_by t r Blackhole p metric via oif = Some (Set p (unwrap_or metric 0) (target.Dropped drop.Blackhole))
set_op_by t r Unreachable p metric via oif = Some (Set p (unwrap_or metric 0) (target.Dropped drop.Unreachable))
set_op_by t r Prohibit p metric via oif = Some (Set p (unwrap_or metric 0) (target.Dropped drop.Prohibit))

-- the update that a route's message in this device's feed is; none where it needs an interface that the device hasn't
abbrev pub op_of : Topology → RouterId → RawRoute → Option Op
op_of t r raw =
    if raw.del then Some (Clear raw.prefix raw.metric)
    else set_op_by t r raw.kind raw.prefix raw.metric raw.via raw.oif

-- The update that a next-hop object's message is to its device: an object does what a unicast route by its gateway and
-- interface would, unless it drops. None where it needs an interface that isn't the device's.
abbrev pub object_of : Topology → RouterId → RawObject → Option Op
object_of t r raw =
    if raw.del then Some (NoObject raw.id)
    else if raw.blackhole then Some (Object raw.id (target.Dropped drop.Blackhole))
    else option_map (Object raw.id) (option_and_then (unicast_target t r raw.via) raw.oif)
