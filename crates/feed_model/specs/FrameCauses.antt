-- The causes for which a frame is refused or a feed is lost: their numbers, and the names that are printed.
use Rattle.std.specs.Prelude.{ℕ, List, [], ◌∷◌, codes}
use Rattle.feed_model.specs.Causes.{name_of_cause}

abbrev pub bad_length : ℕ
bad_length = 1

abbrev pub short : ℕ
short = 2

abbrev pub bad_attr : ℕ
bad_attr = 3

abbrev pub bad_prefix_length : ℕ
bad_prefix_length = 4

abbrev pub source_or_tos : ℕ
source_or_tos = 5

abbrev pub no_destination : ℕ
no_destination = 6

abbrev pub host_bits : ℕ
host_bits = 7

abbrev pub route_type : ℕ
route_type = 8

abbrev pub multipath : ℕ
multipath = 9

abbrev pub encap : ℕ
encap = 10

abbrev pub next_hop_id : ℕ
next_hop_id = 11

abbrev pub no_interface : ℕ
no_interface = 12

abbrev pub unknown_interface : ℕ
unknown_interface = 13

abbrev pub frame_type : ℕ
frame_type = 14

abbrev pub bad_version : ℕ
bad_version = 15

abbrev pub bad_frame_length : ℕ
bad_frame_length = 16

abbrev pub unknown_next_hop : ℕ
unknown_next_hop = 17

abbrev pub no_next_hop_id : ℕ
no_next_hop_id = 18

-- causes for which a frame is refused, and, of a bad version and frame length, for which a feed is lost
abbrev pub frame_causes : List (ℕ × List ℕ)
frame_causes =
    (bad_length, codes "BadLength")
    ∷ (short, codes "Short")
    ∷ (bad_attr, codes "BadAttr")
    ∷ (bad_prefix_length, codes "BadPrefixLength")
    ∷ (source_or_tos, codes "SourceOrTos")
    ∷ (no_destination, codes "NoDestination")
    ∷ (host_bits, codes "HostBits")
    ∷ (route_type, codes "RouteType")
    ∷ (multipath, codes "Multipath")
    ∷ (encap, codes "Encap")
    ∷ (next_hop_id, codes "NextHopId")
    ∷ (no_interface, codes "NoInterface")
    ∷ (unknown_interface, codes "UnknownInterface")
    ∷ (frame_type, codes "FrameType")
    ∷ (bad_version, codes "BadVersion")
    ∷ (bad_frame_length, codes "BadFrameLength")
    ∷ (unknown_next_hop, codes "UnknownNextHop")
    ∷ (no_next_hop_id, codes "NoNextHopId")
    ∷ []

abbrev pub cause_text : ℕ → List ℕ
cause_text = name_of_cause frame_causes
