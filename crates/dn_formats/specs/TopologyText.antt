-- What a text says of a network: its routers and whose table each is, its links and edges, or the first of its faults.
-- The text is a document of TOML 1.1; which keys and values it has is the project's own profile.
use Rattle.std.specs.Prelude.{ℕ, Bool, false, codes, ℤ, pos, negsuc, List, [], ◌∷◌, ◌++◌, ◌+◌, length, nat_le, nat_lt, ◌||◌, ◌&&◌, ◌==◌, not, map, filter, fold, set, slice_get, is_none, Option, None, Some, option_map, option_and_then, Result, Ok, Err, if◌then◌else◌, ◌≡◌}
use Rattle.std.specs.List.{list_any, filter_map}
use Rattle.std.specs.Option.{option_map_or}
use Rattle.std.specs.Str.{is_utf8}
use Rattle.toml.specs.Data.{Data, Items, no_items, item, Members, no_members, member, get_member, as_str, as_integer, as_bool, as_array, as_table}
use Rattle.toml.specs.Parse.{parse_document}
use Rattle.dn_formats.specs.TopologyCauses.{not_toml, unknown_key, missing_key, bad_name, twice_named, bad_end, end_twice, self_link, too_many, too_long, bad_replace, twice_marked, no_such_router, bad_table, table_twice}
use Rattle.dn_model.specs.declared.topology.Replace.{Replace}
use Rattle.dn_model.specs.declared.topology.Replace.TheVariants.{Key, Prefix}
use Rattle.dn_model.specs.declared.topology.RouterTable.{RouterTable}
use Rattle.dn_model.specs.declared.topology.TopoEnd.{TopoEnd}
use Rattle.dn_model.specs.declared.topology.TopoLink.{TopoLink}
use Rattle.dn_model.specs.declared.topology.Topology.{Topology}
use Rattle.dn_formats.specs.declared.mark.Mark.{Mark}
use Rattle.dn_formats.specs.declared.topology_fault.TopoFault.{TopoFault}
use Rattle.dn_formats.specs.declared.topology_fault.TopoPart.{TopoPart}
use Rattle.dn_formats.specs.declared.topology_fault.TopoPart.TheVariants.{Top, Routers, Vrf, Link, Edge, Router}
use Rattle.dn_formats.specs.declared.topology_fault.TopoRefused.{TopoRefused}
use Rattle.dn_formats.specs.declared.topology_fault.TopoRefused.TheVariants.{Fault, OutOfMemory}
use Rattle.base.specs.Name.{is_name_text}
use Rattle.base.specs.Name.{same_text}
use Rattle.dn_model.specs.Tables.{parts}
use Rattle.dn_model.specs.Topology.{Parts, same_end, same_table, all_ends}
use Rattle.dn_formats.specs.EndText.{place_of, read_end}

-- ---- values of a document

abbrev pub items_in : Items → List Data
items_in no_items = []
items_in (item d ds) = d ∷ items_in ds

abbrev pub keys_in : Members → List (List ℕ)
keys_in no_members = []
keys_in (member key d ms) = key ∷ keys_in ms

-- whether there is a value, and it passes
abbrev pub passes : {A : Type 0} → (A → Bool) → Option A → Bool
passes test o = option_map_or test o false

-- the value at a key, in the type that is wanted
abbrev pub text_at : List ℕ → Members → Option (List ℕ)
text_at key ms = option_and_then as_str (get_member key ms)

abbrev pub list_at : List ℕ → Members → Option (List Data)
list_at key ms = option_and_then (λ d. option_map items_in (as_array d)) (get_member key ms)

abbrev pub number_at : List ℕ → Members → Option ℤ
number_at key ms = option_and_then as_integer (get_member key ms)

-- the same where the key may be absent, and stands for nothing then
abbrev pub list_or_none_at : List ℕ → Members → Option (List Data)
list_or_none_at key ms = option_map_or (λ d. option_map items_in (as_array d)) (get_member key ms) (Some [])

abbrev pub flag_or_none_at : List ℕ → Members → Option Bool
flag_or_none_at key ms = option_map_or as_bool (get_member key ms) (Some false)

-- the text at a key, and the usual one where the key is absent
abbrev pub text_or_at : List ℕ → List ℕ → Members → Option (List ℕ)
text_or_at usual key ms = option_map_or as_str (get_member key ms) (Some usual)

-- the entries of a list at a key
abbrev pub entries_at : List ℕ → Members → List Data
entries_at key ms = option_map_or (λ entries. entries) (list_at key ms) []

-- the keys that have a meaning: at the top, in a VRF, in a link, in an edge, in a mark
abbrev pub is_top_key : List ℕ → Bool
is_top_key key =
    same_text key (codes "routers") || same_text key (codes "vrf") || same_text key (codes "link")
    || same_text key (codes "edge") || same_text key (codes "router")

abbrev pub is_vrf_key : List ℕ → Bool
is_vrf_key key = same_text key (codes "router") || same_text key (codes "table") || same_text key (codes "name")

abbrev pub is_link_key : List ℕ → Bool
is_link_key key = same_text key (codes "name") || same_text key (codes "ends") || same_text key (codes "unnumbered")

abbrev pub is_edge_key : List ℕ → Bool
is_edge_key key = same_text key (codes "at")

abbrev pub is_mark_key : List ℕ → Bool
is_mark_key key = same_text key (codes "name") || same_text key (codes "replace")

abbrev pub has_key_besides : (List ℕ → Bool) → Members → Bool
has_key_besides known ms = list_any (λ key. not (known key)) (keys_in ms)

-- ---- what an entry says

abbrev pub both_texts : Option (List ℕ) → Option (List ℕ) → Option (List ℕ × List ℕ)
both_texts (Some first) (Some second) = Some (first, second)
both_texts (Some first) None = None
both_texts None second = None

-- a list of two texts
abbrev pub two_texts : List Data → Option (List ℕ × List ℕ)
two_texts [] = None
two_texts (first ∷ []) = None
two_texts (first ∷ second ∷ []) = both_texts (as_str first) (as_str second)
two_texts (first ∷ second ∷ third ∷ more) = None

abbrev pub name_in : Members → Option (List ℕ)
name_in = text_at (codes "name")

abbrev pub ends_in : Members → Option (List ℕ × List ℕ)
ends_in ms = option_and_then two_texts (list_at (codes "ends") ms)

abbrev pub unnumbered_in : Members → Option Bool
unnumbered_in = flag_or_none_at (codes "unnumbered")

abbrev pub at_in : Members → Option (List ℕ)
at_in = text_at (codes "at")

abbrev pub router_in : Members → Option (List ℕ)
router_in = text_at (codes "router")

abbrev pub table_in : Members → Option ℤ
table_in = number_at (codes "table")

abbrev pub replace_in : Members → Option (List ℕ)
replace_in = text_or_at (codes "key") (codes "replace")

-- the two ends that two texts are
abbrev pub both_ends : Option TopoEnd → Option TopoEnd → Option (TopoEnd × TopoEnd)
both_ends (Some first) (Some second) = Some (first, second)
both_ends (Some first) None = None
both_ends None second = None

abbrev pub ends_of_table : List (List ℕ) → Members → Option (TopoEnd × TopoEnd)
ends_of_table routers ms =
    option_and_then (λ texts. both_ends (read_end routers texts.0) (read_end routers texts.1)) (ends_in ms)

-- the link of a name, two ends, and whether it is unnumbered
abbrev pub link_from : Option (List ℕ) → Option (TopoEnd × TopoEnd) → Option Bool → Option TopoLink
link_from (Some name) (Some ends) (Some unnumbered) =
    Some (record { name = name; first = ends.0; second = ends.1; unnumbered = unnumbered })
link_from (Some name) (Some ends) None = None
link_from (Some name) None unnumbered = None
link_from None ends unnumbered = None

abbrev pub link_of_table : List (List ℕ) → Members → Option TopoLink
link_of_table routers ms = link_from (name_in ms) (ends_of_table routers ms) (unnumbered_in ms)

-- the name of an entry of `vrf`, `link` or `router`, the ends and the link of one of `link`, the end of one of `edge`
abbrev pub name_of_entry : Data → Option (List ℕ)
name_of_entry d = option_and_then name_in (as_table d)

abbrev pub ends_of_entry : List (List ℕ) → Data → Option (TopoEnd × TopoEnd)
ends_of_entry routers d = option_and_then (ends_of_table routers) (as_table d)

abbrev pub link_of_entry : List (List ℕ) → Data → Option TopoLink
link_of_entry routers d = option_and_then (link_of_table routers) (as_table d)

abbrev pub end_of_entry : List (List ℕ) → Data → Option TopoEnd
end_of_entry routers d = option_and_then (read_end routers) (option_and_then at_in (as_table d))

-- ---- what an entry of `vrf` says

-- the number of a table that is no main one: 1 to 2^32 - 1, but for 254
abbrev pub vrf_number : ℤ → Option ℕ
vrf_number (pos n) = if nat_le 1 n && nat_le n 4294967295 && not (n == 254) then Some n else None
vrf_number (negsuc n) = None

-- the device that an entry names, by its place, and the number of its table
abbrev pub device_of_entry : List (List ℕ) → Data → Option ℕ
device_of_entry devices d = option_and_then (place_of devices) (option_and_then router_in (as_table d))

abbrev pub number_of_entry : Data → Option ℕ
number_of_entry d = option_and_then vrf_number (option_and_then table_in (as_table d))

-- the table of this number of this device; a route that is set replaces the one of its key
abbrev pub vrf_from : Option ℕ → Option ℕ → Option RouterTable
vrf_from (Some device) (Some number) =
    Some (record { device = record { 0 = device }; number = number; replace = Key })
vrf_from (Some device) None = None
vrf_from None number = None

-- the table of an entry
abbrev pub vrf_of_entry : List (List ℕ) → Data → Option RouterTable
vrf_of_entry devices d = vrf_from (device_of_entry devices d) (number_of_entry d)

-- ---- what an entry of `router` says

abbrev pub replace_of_text : List ℕ → Option Replace
replace_of_text text =
    if same_text text (codes "key") then Some Key else if same_text text (codes "prefix") then Some Prefix else None

-- the router or VRF that an entry names, by its place, and how it replaces routes
abbrev pub router_of_entry : List (List ℕ) → Data → Option ℕ
router_of_entry routers d = option_and_then (place_of routers) (name_of_entry d)

abbrev pub replace_of_entry : Data → Option Replace
replace_of_entry d = option_and_then replace_of_text (option_and_then replace_in (as_table d))

abbrev pub mark_from : Option ℕ → Option Replace → Option Mark
mark_from (Some router) (Some replace) = Some (record { router = record { 0 = router }; replace = replace })
mark_from (Some router) None = None
mark_from None replace = None

-- the mark of an entry
abbrev pub mark_of_entry : List (List ℕ) → Data → Option Mark
mark_of_entry routers d = mark_from (router_of_entry routers d) (replace_of_entry d)

-- ---- the routers' tables

-- the main table of each device, of which the first is this router; a route that is set replaces the one of its key
abbrev pub main_tables_from : ℕ → List (List ℕ) → List RouterTable
main_tables_from first [] = []
main_tables_from first (name ∷ names) =
    record { device = record { 0 = first }; number = 254; replace = Key } ∷ main_tables_from (first + 1) names

abbrev pub main_tables : List (List ℕ) → List RouterTable
main_tables routers = main_tables_from 0 routers

-- the tables with a mark put onto them: that of the router that it names replaces routes as it says
abbrev pub marked : List RouterTable → Mark → List RouterTable
marked tables mark =
    option_map_or
    (λ table. set tables mark.router.0
    (record { device = table.device; number = table.number; replace = mark.replace }))
    (slice_get tables mark.router.0) tables

-- ---- the tables of causes: each row has a cause, and where it stands

abbrev pub has_text : List (List ℕ) → List ℕ → Bool
has_text texts name = list_any (λ text. same_text text name) texts

-- whether one of these tables is the same table of the same device
abbrev pub has_table : List RouterTable → RouterTable → Bool
has_table tables table = list_any (λ other. same_table other table) tables

-- whether one of these marks is of the router at a place
abbrev pub has_mark : List Mark → ℕ → Bool
has_mark marks router = list_any (λ mark. mark.router.0 == router) marks

-- whether one of these ends is the same interface of the same device
abbrev pub has_end : List RouterTable → List TopoEnd → TopoEnd → Bool
has_end tables ends end = list_any (λ other. same_end tables other end) ends

-- whether a list at the top is absent or none; only `routers` must be there
abbrev pub lacks_list : Members → Bool
lacks_list doc =
    is_none (list_at (codes "routers") doc) || is_none (list_or_none_at (codes "vrf") doc)
    || is_none (list_or_none_at (codes "link") doc) || is_none (list_or_none_at (codes "edge") doc)
    || is_none (list_or_none_at (codes "router") doc)

-- at the top
abbrev pub top_causes : List (ℕ × (Members → Bool))
top_causes = (unknown_key, has_key_besides is_top_key) ∷ (missing_key, lacks_list) ∷ []

-- at an entry of `routers`, which so many entries and these names stand before
abbrev pub router_causes : ℕ → List (List ℕ) → List (ℕ × (Data → Bool))
router_causes count names =
    (too_many, λ entry. nat_le 1024 count)
    ∷ (missing_key, λ entry. is_none (as_str entry))
    ∷ (bad_name, λ entry. passes (λ name. not (is_name_text name)) (as_str entry))
    ∷ (twice_named, λ entry. passes (has_text names) (as_str entry))
    ∷ []

-- at an entry of `vrf`, which so many routers, of these names and tables, stand before, the devices first; the table of
-- a VRF is never a main one
abbrev pub vrf_causes : List (List ℕ) → ℕ → List (List ℕ) → List RouterTable → List (ℕ × (Data → Bool))
vrf_causes devices count names tables =
    (too_many, λ entry. nat_le 1024 count)
    ∷ (missing_key, λ entry. is_none (as_table entry))
    ∷ (unknown_key, λ entry. passes (has_key_besides is_vrf_key) (as_table entry))
    ∷ (
      missing_key,
      λ entry. passes (λ ms. is_none (router_in ms) || is_none (table_in ms) || is_none (name_in ms)) (as_table entry),
    )
    ∷ (bad_name, λ entry. passes (λ name. not (is_name_text name)) (name_of_entry entry))
    ∷ (twice_named, λ entry. passes (has_text names) (name_of_entry entry))
    ∷ (no_such_router, λ entry. is_none (device_of_entry devices entry))
    ∷ (bad_table, λ entry. is_none (number_of_entry entry))
    ∷ (table_twice, λ entry. passes (has_table tables) (vrf_of_entry devices entry))
    ∷ []

-- at an entry of `link`, between routers of these tables, which so many entries, these names and these ends stand
-- before; the first end of a link stands before its second
abbrev pub link_causes : List (List ℕ) → List RouterTable → ℕ → List (List ℕ) → List TopoEnd → List (ℕ × (Data → Bool))
link_causes routers tables count names ends =
    (too_many, λ entry. nat_le 4096 count)
    ∷ (missing_key, λ entry. is_none (as_table entry))
    ∷ (unknown_key, λ entry. passes (has_key_besides is_link_key) (as_table entry))
    ∷ (
      missing_key,
      λ entry. passes (λ ms. is_none (name_in ms) || is_none (ends_in ms)
          || is_none (unnumbered_in ms)) (as_table entry),
    )
    ∷ (bad_name, λ entry. passes (λ name. not (is_name_text name)) (name_of_entry entry))
    ∷ (twice_named, λ entry. passes (has_text names) (name_of_entry entry))
    ∷ (bad_end, λ entry. is_none (ends_of_entry routers entry))
    ∷ (self_link, λ entry. passes (λ both. both.0.router.0 == both.1.router.0) (ends_of_entry routers entry))
    ∷ (
      end_twice,
      λ entry. passes (λ both. has_end tables ends both.0
          || has_end tables (ends ++ both.0 ∷ []) both.1) (ends_of_entry routers entry),
    )
    ∷ []

-- at an entry of `edge`, which so many entries and these ends (those of the links too) stand before
abbrev pub edge_causes : List (List ℕ) → List RouterTable → ℕ → List TopoEnd → List (ℕ × (Data → Bool))
edge_causes routers tables count ends =
    (too_many, λ entry. nat_le 16384 count)
    ∷ (missing_key, λ entry. is_none (as_table entry))
    ∷ (unknown_key, λ entry. passes (has_key_besides is_edge_key) (as_table entry))
    ∷ (missing_key, λ entry. passes (λ ms. is_none (at_in ms)) (as_table entry))
    ∷ (bad_end, λ entry. is_none (end_of_entry routers entry))
    ∷ (end_twice, λ entry. passes (has_end tables ends) (end_of_entry routers entry))
    ∷ []

-- at an entry of `router`, which these marks stand before
abbrev pub mark_causes : List (List ℕ) → List Mark → List (ℕ × (Data → Bool))
mark_causes routers marks =
    (missing_key, λ entry. is_none (as_table entry))
    ∷ (unknown_key, λ entry. passes (has_key_besides is_mark_key) (as_table entry))
    ∷ (missing_key, λ entry. passes (λ ms. is_none (name_in ms) || is_none (replace_in ms)) (as_table entry))
    ∷ (bad_name, λ entry. passes (λ name. not (is_name_text name)) (name_of_entry entry))
    ∷ (no_such_router, λ entry. is_none (router_of_entry routers entry))
    ∷ (twice_marked, λ entry. passes (has_mark marks) (router_of_entry routers entry))
    ∷ (bad_replace, λ entry. is_none (replace_of_entry entry))
    ∷ []

-- the causes that stand at a value, in the table's order
abbrev pub standing : {A : Type 0} → List (ℕ × (A → Bool)) → A → List ℕ
standing rows x = map (λ row. row.0) (filter (λ row. row.1 x) rows)

-- ---- the faults of a document

-- those of a list of entries in order, the first of which has the earlier ones before it
unfoldable pub faults_along : TopoPart → (List Data → List (ℕ × (Data → Bool))) → List Data → List Data → List TopoFault
faults_along part causes earlier [] = []
faults_along part causes earlier (entry ∷ more) =
    map (λ cause. record { part = part; entry = length earlier + 1; cause = cause }) (standing (causes earlier) entry)
    ++ faults_along part causes (earlier ++ entry ∷ []) more

-- the routers, VRFs, links, edges and marks that entries say
abbrev pub routers_said : List Data → List (List ℕ)
routers_said = filter_map as_str

abbrev pub vrf_names_said : List Data → List (List ℕ)
vrf_names_said = filter_map name_of_entry

abbrev pub vrf_tables_said : List (List ℕ) → List Data → List RouterTable
vrf_tables_said devices = filter_map (vrf_of_entry devices)

abbrev pub links_said : List (List ℕ) → List Data → List TopoLink
links_said routers = filter_map (link_of_entry routers)

abbrev pub edges_said : List (List ℕ) → List Data → List TopoEnd
edges_said routers = filter_map (end_of_entry routers)

abbrev pub marks_said : List (List ℕ) → List Data → List Mark
marks_said routers = filter_map (mark_of_entry routers)

-- the names of devices and of the VRFs that entries say after them, and whose table each is
abbrev pub names_with : List (List ℕ) → List Data → List (List ℕ)
names_with devices vrfs = devices ++ vrf_names_said vrfs

abbrev pub tables_with : List (List ℕ) → List Data → List RouterTable
tables_with devices vrfs = main_tables devices ++ vrf_tables_said devices vrfs

-- the tables of causes at an entry, by the entries before it
abbrev pub router_rows : List Data → List (ℕ × (Data → Bool))
router_rows earlier = router_causes (length earlier) (routers_said earlier)

abbrev pub vrf_rows : List (List ℕ) → List Data → List (ℕ × (Data → Bool))
vrf_rows devices earlier =
    vrf_causes devices (length devices + length earlier) (names_with devices earlier) (tables_with devices earlier)

abbrev pub link_rows : List (List ℕ) → List RouterTable → List Data → List (ℕ × (Data → Bool))
link_rows routers tables earlier =
    link_causes routers tables (length earlier) (filter_map name_of_entry earlier)
    (all_ends (links_said routers earlier))

abbrev pub edge_rows : List (List ℕ) → List RouterTable → List TopoLink → List Data → List (ℕ × (Data → Bool))
edge_rows routers tables links earlier =
    edge_causes routers tables (length earlier) (all_ends links ++ edges_said routers earlier)

abbrev pub mark_rows : List (List ℕ) → List Data → List (ℕ × (Data → Bool))
mark_rows routers earlier = mark_causes routers (marks_said routers earlier)

-- the lists of entries of a document
pub record Sections : Type 0 where
  pub routers : List Data
  pub vrfs : List Data
  pub links : List Data
  pub edges : List Data
  pub marks : List Data

-- the names of the routers: the devices, then the VRFs
abbrev pub names_said : Sections → List (List ℕ)
names_said lists = names_with (routers_said lists.routers) lists.vrfs

-- whose table each is: each device has its main table, each VRF its own of its device
abbrev pub unmarked_tables : Sections → List RouterTable
unmarked_tables lists = tables_with (routers_said lists.routers) lists.vrfs

-- the same with the marks put onto them
abbrev pub tables_said : Sections → List RouterTable
tables_said lists = fold marked (unmarked_tables lists) (marks_said (names_said lists) lists.marks)

-- what the lists say
abbrev pub parts_said : Sections → Parts
parts_said lists = record {
  routers = names_said lists;
  tables = tables_said lists;
  links = links_said (names_said lists) lists.links;
  edges = edges_said (names_said lists) lists.edges;
}

-- their faults: those of the routers, then the VRFs, the links, the edges and the marks
abbrev pub list_faults : Sections → List TopoFault
list_faults lists =
    faults_along Routers router_rows [] lists.routers
    ++ faults_along Vrf (vrf_rows (routers_said lists.routers)) [] lists.vrfs
    ++ faults_along Link (link_rows (names_said lists) (unmarked_tables lists)) [] lists.links
    ++ faults_along Edge (edge_rows (names_said lists) (unmarked_tables lists) (parts_said lists).links) [] lists.edges
    ++ faults_along Router (mark_rows (names_said lists)) [] lists.marks

abbrev pub sections_of : Members → Sections
sections_of doc = record {
  routers = entries_at (codes "routers") doc;
  vrfs = entries_at (codes "vrf") doc;
  links = entries_at (codes "link") doc;
  edges = entries_at (codes "edge") doc;
  marks = entries_at (codes "router") doc;
}

-- what a document says
abbrev pub parts_of : Members → Parts
parts_of doc = parts_said (sections_of doc)

abbrev pub top_fault : ℕ → TopoFault
top_fault cause = record { part = Top; entry = 0; cause = cause }

-- its faults: at the top, then in the lists
abbrev pub faults_of : Members → List TopoFault
faults_of doc = map top_fault (standing top_causes doc) ++ list_faults (sections_of doc)

-- the first fault, or else what was said
abbrev pub unless_faulty : {A : Type 0} → List TopoFault → A → Result A TopoFault
unless_faulty [] said = Ok said
unless_faulty (fault ∷ more) said = Err fault

-- the document that bytes are, if they are one
abbrev pub document_of : List ℕ → Option Members
document_of bytes = if is_utf8 bytes then parse_document bytes else None

abbrev pub said_by : Option Members → Result Parts TopoFault
said_by None = Err (top_fault not_toml)
said_by (Some doc) = unless_faulty (faults_of doc) (parts_of doc)

-- what bytes say of a network
abbrev pub topology_of : List ℕ → Result Parts TopoFault
topology_of bytes = if nat_lt 16777216 (length bytes) then Err (top_fault too_long) else said_by (document_of bytes)

-- a text of this topology
abbrev pub IsTopologyText : List ℕ → Topology → Type 0
IsTopologyText bytes t = topology_of bytes ≡ Ok (parts t)

-- a refusal of bytes: their first fault, or want of memory
abbrev pub IsTopologyRefused : List ℕ → TopoRefused → Type 0
IsTopologyRefused bytes (Fault fault) = topology_of bytes ≡ Err fault
IsTopologyRefused bytes OutOfMemory = Unit {0}
