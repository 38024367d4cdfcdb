-- The attributes of a route message: struct rtattr of rtnetlink(7) and linux/rtnetlink.h. Numbers are little-endian,
-- as the sender's are; an address is in network byte order.
use Rattle.std.specs.Prelude.{ℕ, zero, suc, ◌+◌, ◌-◌, ◌*◌, ◌/◌, ◌%◌, ◌^◌, ◌==◌, nat_lt, Bool, true, false, ◌||◌, not, if◌then◌else◌, List, [], ◌∷◌, length, take, drop, fold, Option, None, Some, option_and_then}
use Rattle.std.specs.List.{list_any}
use Rattle.std.specs.Int.{w16, w32, from_le_bytes, from_be_bytes}

-- a length with the padding after it, up to a multiple of 4
abbrev pub padded : ℕ → ℕ
padded n = (n + 3) / 4 * 4

-- what stands where an attribute begins: one of this type with this payload, or a length that no attribute has there
pub data Attribute : Type 0 where
  Holds : (kind : ℕ) (payload : List ℕ) → Attribute
  BadLength : Attribute

-- the head of the attribute at the front of these bytes: its length, with the head's four bytes, and its type, whose
-- top two bits are flags
abbrev pub attribute_length : List ℕ → ℕ
attribute_length bytes = from_le_bytes w16 bytes

abbrev pub attribute_type : List ℕ → ℕ
attribute_type bytes = from_le_bytes w16 (drop 2 bytes) % 2 ^ 14

-- a length below that of the head, or past these bytes
abbrev pub has_bad_length : List ℕ → Bool
has_bad_length bytes = nat_lt (attribute_length bytes) 4 || nat_lt (length bytes) (attribute_length bytes)

abbrev pub first_attribute : List ℕ → Attribute
first_attribute bytes =
    if has_bad_length bytes then BadLength
    else Holds (attribute_type bytes) (drop 4 (take (attribute_length bytes) bytes))

-- nothing is read after a bad length
abbrev pub followed_by : Attribute → List Attribute → List Attribute
followed_by (Holds kind payload) more = Holds kind payload ∷ more
followed_by BadLength more = BadLength ∷ []

-- The attributes of these bytes, one after another, where the first so many bytes are still those of the one before.
-- Fewer than 4 bytes at the end are passed over.
unfoldable pub attributes_after : ℕ → List ℕ → List Attribute
attributes_after left [] = []
attributes_after (suc left) (byte ∷ bytes) = attributes_after left bytes
attributes_after zero (byte ∷ bytes) =
    if nat_lt (length (byte ∷ bytes)) 4 then []
    else followed_by (first_attribute (byte ∷ bytes))
    (attributes_after (padded (attribute_length (byte ∷ bytes)) - 1) bytes)

abbrev pub attributes_of : List ℕ → List Attribute
attributes_of bytes = attributes_after 0 bytes

-- RTA_DST, RTA_OIF, RTA_GATEWAY, RTA_PRIORITY, RTA_MULTIPATH, RTA_TABLE, RTA_VIA, RTA_NEWDST, RTA_ENCAP_TYPE,
-- RTA_ENCAP, RTA_NH_ID
abbrev pub rta_dst : ℕ
rta_dst = 1

abbrev pub rta_oif : ℕ
rta_oif = 4

abbrev pub rta_gateway : ℕ
rta_gateway = 5

abbrev pub rta_priority : ℕ
rta_priority = 6

abbrev pub rta_multipath : ℕ
rta_multipath = 9

abbrev pub rta_table : ℕ
rta_table = 15

abbrev pub rta_via : ℕ
rta_via = 18

abbrev pub rta_newdst : ℕ
rta_newdst = 19

abbrev pub rta_encap_type : ℕ
rta_encap_type = 21

abbrev pub rta_encap : ℕ
rta_encap = 22

abbrev pub rta_nh_id : ℕ
rta_nh_id = 30

-- whether there is an attribute of a type
abbrev pub is_of : ℕ → Attribute → Bool
is_of kind (Holds other payload) = other == kind
is_of kind BadLength = false

abbrev pub has : ℕ → List Attribute → Bool
has kind attributes = list_any (is_of kind) attributes

-- the payload of an attribute of a type: of a repeated one the last stands
abbrev pub later : ℕ → Option (List ℕ) → Attribute → Option (List ℕ)
later kind found (Holds other payload) = if other == kind then Some payload else found
later kind found BadLength = found

abbrev pub last_of : ℕ → List Attribute → Option (List ℕ)
last_of kind attributes = fold (later kind) None attributes

-- the number and the address that a payload of four bytes is
abbrev pub number_in : List ℕ → Option ℕ
number_in payload = if length payload == 4 then Some (from_le_bytes w32 payload) else None

abbrev pub address_in : List ℕ → Option ℕ
address_in payload = if length payload == 4 then Some (from_be_bytes w32 payload) else None

-- the number and the address of a type of attribute, where it is there
abbrev pub number_of : ℕ → List Attribute → Option ℕ
number_of kind attributes = option_and_then number_in (last_of kind attributes)

abbrev pub address_of : ℕ → List Attribute → Option ℕ
address_of kind attributes = option_and_then address_in (last_of kind attributes)

-- The attributes whose payload has four bytes: RTA_DST, RTA_PRIORITY and RTA_TABLE, and RTA_OIF where the route is set.
abbrev pub has_four_bytes : Bool → ℕ → Bool
has_four_bytes is_set kind =
    kind == rta_dst || kind == rta_priority || kind == rta_table || (if is_set then kind == rta_oif else false)

-- an attribute that no message has: of a bad length, or of another size than its type's
abbrev pub is_bad : Bool → Attribute → Bool
is_bad is_set (Holds kind payload) = if has_four_bytes is_set kind then not (length payload == 4) else false
is_bad is_set BadLength = true
