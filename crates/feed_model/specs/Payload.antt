-- What the payload of a frame says: a list of messages of netlink(7) (RFC 3549), of which those of rtnetlink(7) that
-- set or delete a route (RTM_NEWROUTE, RTM_DELROUTE of linux/rtnetlink.h) are read. Numbers are little-endian, as the
-- sender's are; an address is in network byte order. Which messages are refused or skipped is the project's own
-- profile.
use Rattle.std.specs.Prelude.{◌≡◌, ℕ, zero, suc, ◌+◌, ◌-◌, ◌%◌, ◌^◌, ◌<◌, ◌==◌, nat_lt, Bool, true, false, ◌&&◌, ◌||◌, not, if◌then◌else◌, List, [], ◌∷◌, ◌++◌, length, take, drop, slice_index, Option, None, Some, is_none, unwrap_or, IsSome, Result, Ok, Err}
use Rattle.std.specs.List.{list_any}
use Rattle.std.specs.Int.{w16, w32, from_le_bytes}
use Rattle.base.specs.Cidr.{Cidr, IsCidr}
use Rattle.feed_model.specs.Attributes.{Attribute, padded, attributes_of, has, number_of, address_of, is_bad, rta_dst, rta_oif, rta_gateway, rta_priority, rta_multipath, rta_table, rta_via, rta_newdst, rta_encap_type, rta_encap, rta_nh_id}
use Rattle.feed_model.specs.Message.{NumberFits}
use Rattle.feed_model.specs.FrameCauses as causes
use Rattle.feed_model.specs.declared.payload.Payload.{Payload}
use Rattle.feed_model.specs.declared.payload.Item.{Item}
use Rattle.feed_model.specs.declared.payload.ItemKind.{ItemKind}
use Rattle.feed_model.specs.declared.payload.ItemKind.TheVariants.{Route, Object, Skipped}
use Rattle.feed_model.specs.declared.payload.Skip.{Skip}
use Rattle.feed_model.specs.declared.payload.Skip.TheVariants.{OtherType, OtherFamily, OtherTable}
use Rattle.feed_model.specs.declared.raw_route.RouteKind.{RouteKind}
use Rattle.feed_model.specs.declared.raw_route.RouteKind.TheVariants.{Unicast, Local, Blackhole, Unreachable, Prohibit}
use Rattle.feed_model.specs.declared.raw_route.RawRoute.{RawRoute}

-- ---- the fields of the message that begins at the front of these bytes, which go on to the payload's end

-- struct nlmsghdr, 16 bytes: the length, with these 16 bytes, and the type; flags, sequence number and port are not
-- looked at
abbrev pub message_length : List ℕ → ℕ
message_length bytes = from_le_bytes w32 bytes

abbrev pub message_type : List ℕ → ℕ
message_type bytes = from_le_bytes w16 (drop 4 bytes)

-- RTM_NEWROUTE and RTM_DELROUTE
abbrev pub is_set : List ℕ → Bool
is_set bytes = message_type bytes == 24

abbrev pub is_deletion : List ℕ → Bool
is_deletion bytes = message_type bytes == 25

-- struct rtmsg, 12 bytes after the header, of one byte each: family, length of the prefix, length of the source's
-- prefix, type of service, table, protocol, scope and type; and flags of four bytes. Protocol, scope and flags are not
-- looked at.
abbrev pub family : List ℕ → ℕ
family bytes = slice_index bytes 16

abbrev pub prefix_length : List ℕ → ℕ
prefix_length bytes = slice_index bytes 17

abbrev pub source_length : List ℕ → ℕ
source_length bytes = slice_index bytes 18

abbrev pub service_type : List ℕ → ℕ
service_type bytes = slice_index bytes 19

abbrev pub table_byte : List ℕ → ℕ
table_byte bytes = slice_index bytes 20

abbrev pub route_type : List ℕ → ℕ
route_type bytes = slice_index bytes 23

-- the attributes, from byte 28 to the message's end
abbrev pub attributes : List ℕ → List Attribute
attributes bytes = attributes_of (drop 28 (take (message_length bytes) bytes))

-- ---- what the fields say

-- the table: RTA_TABLE stands in place of the byte, and 0 (RT_TABLE_UNSPEC) counts as the main one (RT_TABLE_MAIN, 254)
abbrev pub main_table : ℕ
main_table = 254

abbrev pub table_by : ℕ → ℕ
table_by number = if number == 0 then main_table else number

abbrev pub table_of : List ℕ → ℕ
table_of bytes = table_by (unwrap_or (number_of rta_table (attributes bytes)) (table_byte bytes))

-- the tables whose routes are read: the main one, and these
abbrev pub is_read : List ℕ → ℕ → Bool
is_read tables table = table == main_table || list_any (λ other. other == table) tables

-- the address of the prefix; without one it is 0.0.0.0
abbrev pub destination : List ℕ → Option ℕ
destination bytes = address_of rta_dst (attributes bytes)

abbrev pub prefix_of : List ℕ → Cidr
prefix_of bytes = record { base = unwrap_or (destination bytes) 0; len = prefix_length bytes }

-- the interface
abbrev pub interface : List ℕ → Option ℕ
interface bytes = number_of rta_oif (attributes bytes)

-- RTN_UNICAST, RTN_LOCAL, RTN_BLACKHOLE, RTN_UNREACHABLE, RTN_PROHIBIT
abbrev pub kind_of : ℕ → Option RouteKind
kind_of n =
    if n == 1 then Some Unicast
    else if n == 2 then Some Local
    else if n == 6 then Some Blackhole
    else if n == 7 then Some Unreachable
    else if n == 8 then Some Prohibit
    else None

-- the route that is set: without RTA_PRIORITY its metric is 0; of a gateway the presence alone counts
abbrev pub route_set : List ℕ → RawRoute
route_set bytes = record {
  del = false;
  prefix = prefix_of bytes;
  table = table_of bytes;
  metric = Some (unwrap_or (number_of rta_priority (attributes bytes)) 0);
  kind = unwrap_or (kind_of (route_type bytes)) Unicast;
  via = has rta_gateway (attributes bytes) || has rta_via (attributes bytes);
  oif = interface bytes;
  by = None;
}

-- the route that is deleted: its type and its next hop are not looked at; without RTA_PRIORITY it is of any metric
abbrev pub route_deleted : List ℕ → RawRoute
route_deleted bytes = record {
  del = true;
  prefix = prefix_of bytes;
  table = table_of bytes;
  metric = number_of rta_priority (attributes bytes);
  kind = Unicast;
  via = false;
  oif = None;
  by = None;
}

abbrev pub route_of : List ℕ → RawRoute
route_of bytes = if is_set bytes then route_set bytes else route_deleted bytes

-- ---- the table of what is refused and what is skipped

pub data Ruling : Type 0 where
  Refuses : (cause : ℕ) → Ruling
  Skips : (skip : Skip) → Ruling

-- a row: what becomes of a message of which its test holds
abbrev pub Row : Type 0
Row = Ruling × (List ℕ → Bool)

-- of a message's header
abbrev pub header_rows : List Row
header_rows = (
  Refuses causes.bad_length,
  λ m. nat_lt (length m) 16 || nat_lt (message_length m) 16
      || nat_lt (length m) (message_length m),
)
    ∷ (Skips OtherType, λ m. not (is_set m || is_deletion m))
    ∷ []

-- of a route message's fixed part, its attributes and its table, which is the main one or one of these
abbrev pub part_rows : List ℕ → List Row
part_rows tables =
    (Refuses causes.short, λ m. nat_lt (message_length m) 28)
    ∷ (Skips OtherFamily, λ m. not (family m == 2))
    ∷ (Refuses causes.bad_attr, λ m. list_any (is_bad (is_set m)) (attributes m))
    ∷ (Skips OtherTable, λ m. not (is_read tables (table_of m)))
    ∷ []

-- of its prefix
abbrev pub prefix_rows : List Row
prefix_rows =
    (Refuses causes.bad_prefix_length, λ m. nat_lt 32 (prefix_length m))
    ∷ (Refuses causes.source_or_tos, λ m. not (source_length m == 0) || not (service_type m == 0))
    ∷ (Refuses causes.no_destination, λ m. nat_lt 0 (prefix_length m) && is_none (destination m))
    ∷ (Refuses causes.host_bits, λ m. not ((prefix_of m).base % 2 ^ (32 - prefix_length m) == 0))
    ∷ []

-- of its next hop
abbrev pub hop_rows : List Row
hop_rows =
    (Refuses causes.route_type, λ m. is_set m && is_none (kind_of (route_type m)))
    ∷ (Refuses causes.multipath, λ m. is_set m && has rta_multipath (attributes m))
    ∷ (
      Refuses causes.encap,
      λ m. is_set m
          && (has rta_newdst (attributes m) || has rta_encap_type (attributes m) || has rta_encap (attributes m)),
    )
    ∷ (Refuses causes.next_hop_id, λ m. is_set m && has rta_nh_id (attributes m))
    ∷ (Refuses causes.no_interface, λ m. is_set m && route_type m == 1 && is_none (interface m))
    ∷ []

abbrev pub route_rows : List ℕ → List Row
route_rows tables = part_rows tables ++ (prefix_rows ++ hop_rows)

-- The first row that holds of a message decides, where the routes of the main table and these are read. A message of
-- which none holds says its item.
abbrev pub message_rows : List ℕ → List Row
message_rows tables = header_rows ++ route_rows tables

abbrev pub first_ruling : List Row → List ℕ → Option Ruling
first_ruling [] m = None
first_ruling (row ∷ rows) m = if row.1 m then Some row.0 else first_ruling rows m

unfoldable pub ruling_of : List ℕ → List ℕ → Option Ruling
ruling_of tables bytes = first_ruling (message_rows tables) bytes

-- ---- what a message says

-- the item of a message of which no row holds
abbrev pub item_of : List ℕ → ItemKind
item_of bytes = Route (route_of bytes)

-- what a message with this item says that is ruled so, or the cause by which it is refused
abbrev pub said_by : Option Ruling → ItemKind → Result ItemKind ℕ
said_by (Some (Refuses cause)) what = Err cause
said_by (Some (Skips skip)) what = Ok (Skipped skip)
said_by None what = Ok what

abbrev pub message_said : List ℕ → List ℕ → Result ItemKind ℕ
message_said tables bytes = said_by (ruling_of tables bytes) (item_of bytes)

-- ---- a whole payload

abbrev pub nothing_more : Payload
nothing_more = record { items = []; refused = None }

abbrev pub before : Item → Payload → Payload
before item more = record { items = item ∷ more.items; refused = more.refused }

-- what is said from a message at this place on, which says this, and which has this after it
abbrev pub said : ℕ → Result ItemKind ℕ → Payload → Payload
said at (Err cause) more = record { items = []; refused = Some (record { at = at; cause = cause }) }
said at (Ok what) more = before (record { at = at; what = what }) more

-- What these bytes say, the first of which stands at this place of the payload, where the first so many are still those
-- of the message before. The next message begins after the message's padding. Fewer than 4 bytes at the end are
-- padding.
unfoldable pub said_after : List ℕ → ℕ → ℕ → List ℕ → Payload
said_after tables at left [] = nothing_more
said_after tables at (suc left) (byte ∷ bytes) = said_after tables (at + 1) left bytes
said_after tables at zero (byte ∷ bytes) =
    if nat_lt (length (byte ∷ bytes)) 4 then nothing_more
    else said at (message_said tables (byte ∷ bytes))
    (said_after tables (at + 1) (padded (message_length (byte ∷ bytes)) - 1) bytes)

-- the messages of a payload up to the first that is refused, and that one, where the routes of these tables beside the
-- main one are read
abbrev pub payload_of : List ℕ → List ℕ → Payload
payload_of tables bytes = said_after tables 0 0 bytes

abbrev pub IsPayload : List ℕ → List ℕ → Payload → Type 0
IsPayload tables bytes payload = payload ≡ payload_of tables bytes

-- ---- the routes that a message can say

-- one to delete is unicast, with neither gateway nor interface; one to set has a metric, and an interface if unicast
abbrev pub HasParts : Bool → Option ℕ → RouteKind → Bool → Option ℕ → Type 0
HasParts true metric kind via oif = (kind ≡ Unicast) × (via ≡ false) × (oif ≡ None)
HasParts false metric kind via oif = IsSome metric × (kind ≡ Unicast → IsSome oif)

abbrev pub IsTable : ℕ → Type 0
IsTable table = (0 < table) × (table < 2 ^ 32)

-- a route by a next-hop object is refused
pub record CanBeSaid (raw : RawRoute) : Type 0 where
  pub prefix : IsCidr raw.prefix
  pub table : IsTable raw.table
  pub parts : HasParts raw.del raw.metric raw.kind raw.via raw.oif
  pub metric : NumberFits raw.metric
  pub oif : NumberFits raw.oif
  pub by : raw.by ≡ None

-- An item says a route that can be said, or none. None says an object: messages of their types are passed over.
abbrev pub IsSayable : ItemKind → Type 0
IsSayable (Route raw) = CanBeSaid raw
IsSayable (Object raw) = ⊥
IsSayable (Skipped skip) = Unit {0}
