-- What is kept of a route message's attributes while they are read one after another.
use Rattle.std.specs.Prelude.{◌≡◌, ℕ, ◌<◌, ◌==◌, Bool, true, false, ◌||◌, if◌then◌else◌, List, [], ◌∷◌, length, drop, Option, None, Some}
use Rattle.std.specs.List.{list_any}
use Rattle.feed_model.specs.Attributes.{Attribute, Holds, BadLength, padded, attribute_length, first_attribute, has, number_of, address_of, number_in, address_in, is_bad, rta_dst, rta_oif, rta_gateway, rta_priority, rta_multipath, rta_table, rta_via, rta_newdst, rta_encap_type, rta_encap, rta_nh_id}
use Rattle.rt_netlink.specs.declared.attributes.RouteAttributes.{RouteAttributes}
use Rattle.rt_netlink.specs.declared.attributes.AttributeText.{AttributeText}

-- the attribute that stands at the front of bytes, and what stands after its padding
abbrev pub IsFront : List ℕ → Option AttributeText → Type 0
IsFront bytes None = first_attribute bytes ≡ BadLength
IsFront bytes (Some front) =
    (first_attribute bytes ≡ Holds front.kind front.payload.now)
    × (front.rest.now ≡ drop (padded (attribute_length bytes)) bytes) × (length front.rest.now < length bytes)

abbrev pub nothing_kept : RouteAttributes
nothing_kept = record {
  destination = None;
  interface = None;
  metric = None;
  table = None;
  via = false;
  multipath = false;
  encap = false;
  next_hop_id = false;
}

-- what is kept with one more attribute
abbrev pub kept_with : RouteAttributes → ℕ → List ℕ → RouteAttributes
kept_with kept kind payload = record {
  destination = if kind == rta_dst then address_in payload else kept.destination;
  interface = if kind == rta_oif then number_in payload else kept.interface;
  metric = if kind == rta_priority then number_in payload else kept.metric;
  table = if kind == rta_table then number_in payload else kept.table;
  via = kept.via || (kind == rta_gateway || kind == rta_via);
  multipath = kept.multipath || kind == rta_multipath;
  encap = kept.encap || (kind == rta_newdst || kind == rta_encap_type || kind == rta_encap);
  next_hop_id = kept.next_hop_id || kind == rta_nh_id;
}

-- what is kept of these attributes after what is kept already; none where one is bad
unfoldable pub kept_after : Bool → RouteAttributes → List Attribute → Option RouteAttributes
kept_after is_set kept [] = Some kept
kept_after is_set kept (BadLength ∷ attributes) = None
kept_after is_set kept (Holds kind payload ∷ attributes) =
    if is_bad is_set (Holds kind payload) then None else kept_after is_set (kept_with kept kind payload) attributes

-- what was kept says what the attributes say
pub record Keeps (attributes : List Attribute) (kept : RouteAttributes) : Type 0 where
  pub destination : kept.destination ≡ address_of rta_dst attributes
  pub interface : kept.interface ≡ number_of rta_oif attributes
  pub metric : kept.metric ≡ number_of rta_priority attributes
  pub table : kept.table ≡ number_of rta_table attributes
  pub via : kept.via ≡ (has rta_gateway attributes || has rta_via attributes)
  pub multipath : kept.multipath ≡ has rta_multipath attributes
  pub encap : kept.encap ≡ (has rta_newdst attributes || has rta_encap_type attributes || has rta_encap attributes)
  pub next_hop_id : kept.next_hop_id ≡ has rta_nh_id attributes

-- the same where one may be bad
abbrev pub KeepsAll : Bool → List Attribute → Option RouteAttributes → Type 0
KeepsAll is_set attributes None = list_any (is_bad is_set) attributes ≡ true
KeepsAll is_set attributes (Some kept) = (list_any (is_bad is_set) attributes ≡ false) × Keeps attributes kept
