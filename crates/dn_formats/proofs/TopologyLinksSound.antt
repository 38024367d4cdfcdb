-- The links and the edges of a document without a fault are those of a sound topology.
use Rattle.std.proofs.Common.{◌≡◌, ℕ, ◌+◌, ◌<◌, ◌≤◌, Bool, true, false, not, ◌&&◌, ◌||◌, ◌==◌, nat_le, nat_lt, List, [], ◌∷◌, ◌++◌, length, drop, map, Option, Some, None, is_none, option_and_then, position, cond, refl, sym, ap, ◌∙◌, arith, lit≤, Result, Ok, Err, append_assoc, length-append}
use Rattle.std.proofs.lemmas.Bool.{and_parts, and_from, or_parts, not-false, le-leb, lt-ltb, leb-false, true≢false}
use Rattle.std.proofs.lemmas.Option.{same_Some}
use Rattle.std.proofs.lemmas.List.{append-nil, map-append}
use Rattle.std.proofs.lemmas.List.Elements.{filter_map-append}
use Rattle.std.proofs.lemmas.List.Folds.{list_all-append}
use Rattle.std.proofs.lemmas.List.Quantifiers.{position-Some}
use Rattle.std.specs.List.{list_all, filter_map}
use Rattle.toml.specs.Data.{Data, Members, as_table}
use Rattle.dn_model.specs.declared.topology.RouterTable.{RouterTable}
use Rattle.dn_model.specs.declared.topology.TopoEnd.{TopoEnd}
use Rattle.dn_model.specs.declared.topology.TopoLink.{TopoLink}
use Rattle.dn_formats.specs.declared.mark.Mark.{Mark}
use Rattle.dn_formats.specs.declared.topology_fault.TopoFault.{TopoFault}
use Rattle.dn_formats.specs.declared.topology_fault.TopoPart.TheVariants.{Routers, Vrf, Link, Edge, Router}
use Rattle.dn_formats.specs.TopologyCauses.{too_long}
use Rattle.base.specs.Name.{is_name_text}
use Rattle.base.specs.Name.{same_text}
use Rattle.dn_model.specs.Topology.{Parts, same_end, all_ends, is_end_of, is_link_of, are_tables, is_sound_topology}
use Rattle.base.specs.Lists.{all_differ}
use Rattle.dn_formats.specs.EndText.{read_end, end_at}
use Rattle.dn_formats.specs.Decimal.{is_decimal, decimal_value, number_within}
use Rattle.dn_formats.specs.TopologyText.{passes, standing, faults_along, has_text, has_end, link_from, link_of_table, both_ends, ends_of_table, ends_of_entry, link_of_entry, name_of_entry, end_of_entry, name_in, ends_in, unnumbered_in, at_in, link_rows, links_said, edge_rows, edges_said, router_rows, routers_said, vrf_rows, mark_rows, marks_said, names_said, unmarked_tables, tables_said, Sections, sections_of, parts_said, list_faults, parts_of, faults_of, unless_faulty, topology_of, top_fault, top_causes, said_by, document_of}
use Rattle.dn_formats.proofs.MarkedTables.{are_tables-marked, ends_differ-marked}
use Rattle.dn_formats.proofs.TopologySound.{AreRouters, routers_sound, NoneStands, none_stands, map_empty, front_empty, back_empty, all_differ-push, and_then_some, cond_some}
use Rattle.dn_formats.proofs.TopologyVrfsSound.{AreVrfs, vrfs_start, vrfs_sound, names_long, vrf_tables-sound}

-- ---- ends

end_at-parts : (place index : Option ℕ) (e : TopoEnd) → end_at place index ≡ Some e → (place ≡ Some e.router.0) × (index ≡ Some e.index)
end_at-parts (Some place) (Some index) e is = (ap (λ o. Some o.router.0) (same_Some _ _ is), ap (λ o. Some o.index) (same_Some _ _ is))
end_at-parts (Some place) None e is = cc
end_at-parts None index e is = cc

number_bounds : (low high : ℕ) (text : List ℕ) (n : ℕ) → number_within low high text ≡ Some n → (nat_le low n ≡ true) × (nat_le n high ≡ true)
number_bounds low high text n is =
    let parts = cond_some (is_decimal text && (nat_le low (decimal_value text) && nat_le (decimal_value text) high)) (decimal_value text) n is in
    let bounds = and_parts _ _ (and_parts _ _ parts.0).1 in
    (rw (← parts.1) bounds.0, rw (← parts.1) bounds.1)

-- an end that a text is has its router in the list
pub read_end-sound : (routers : List (List ℕ)) (text : List ℕ) (e : TopoEnd) → read_end routers text ≡ Some e → is_end_of (length routers) e ≡ true
read_end-sound routers text e is =
    let split = and_then_some _ (position (λ byte. byte == 58) text) e is in
    let parts = end_at-parts _ _ e split.1.1 in
    let bounds = number_bounds 1 2147483647 (drop (split.0 + 1) text) e.index parts.1 in
    let place : e.router.0 < length routers = (position-Some _ routers e.router.0 [] parts.0).0 in
    and_from _ _ (and_from _ _ (lt-ltb _ _ place) bounds.0) bounds.1

-- ---- what an entry of `link` says

both_ends-parts : (first second : Option TopoEnd) (both : TopoEnd × TopoEnd) → both_ends first second ≡ Some both → (first ≡ Some both.0) × (second ≡ Some both.1)
both_ends-parts (Some f) (Some s) both is = (ap (λ o. Some o.0) (same_Some _ _ is), ap (λ o. Some o.1) (same_Some _ _ is))
both_ends-parts (Some f) None both is = cc
both_ends-parts None second both is = cc

link_from-parts : (name : Option (List ℕ)) (ends : Option (TopoEnd × TopoEnd)) (mark : Option Bool) (l : TopoLink) → link_from name ends mark ≡ Some l
    → (name ≡ Some l.name) × (ends ≡ Some (l.first, l.second))
link_from-parts (Some n) (Some both) (Some u) l is = (ap (λ o. Some o.name) (same_Some _ _ is), ap (λ o. Some (o.first, o.second)) (same_Some _ _ is))
link_from-parts (Some n) (Some both) None l is = cc
link_from-parts (Some n) None mark l is = cc
link_from-parts None ends mark l is = cc

-- what is known of an entry that says a link
pub record SaysLink (routers : List (List ℕ)) (x : Data) (l : TopoLink) : Type 0 where
  pub name : name_of_entry x ≡ Some l.name
  pub ends : ends_of_entry routers x ≡ Some (l.first, l.second)
  pub first : is_end_of (length routers) l.first ≡ true
  pub second : is_end_of (length routers) l.second ≡ true

pub link_of_entry-parts : (routers : List (List ℕ)) (x : Data) (l : TopoLink) → link_of_entry routers x ≡ Some l → SaysLink routers x l
link_of_entry-parts routers x l is =
    let table = and_then_some (link_of_table routers) (as_table x) l is in
    let parts = link_from-parts (name_in table.0) (ends_of_table routers table.0) (unnumbered_in table.0) l table.1.1 in
    let texts = and_then_some (λ (texts : List ℕ × List ℕ). both_ends (read_end routers texts.0) (read_end routers texts.1)) (ends_in table.0) (l.first, l.second) parts.1 in
    let both = both_ends-parts (read_end routers texts.0.0) (read_end routers texts.0.1) (l.first, l.second) texts.1.1 in
    record {
      name = ap (option_and_then name_in) table.1.0 ∙ parts.0;
      ends = ap (option_and_then (ends_of_table routers)) table.1.0 ∙ parts.1;
      first = read_end-sound routers texts.0.0 l.first both.0;
      second = read_end-sound routers texts.0.1 l.second both.1;
    }

link_from_there : (name : Option (List ℕ)) (ends : Option (TopoEnd × TopoEnd)) (mark : Option Bool) → is_none name ≡ false → is_none ends ≡ false → is_none mark ≡ false → is_none (link_from name ends mark) ≡ false
link_from_there (Some n) (Some both) (Some u) one two three = refl
link_from_there (Some n) (Some both) None one two three = three
link_from_there (Some n) None mark one two three = two
link_from_there None ends mark one two three = one

-- an entry with all that a link wants says a link
pub link_there : (routers : List (List ℕ)) (table : Option Members) → is_none table ≡ false
    → passes (λ ms. is_none (name_in ms) || is_none (ends_in ms) || is_none (unnumbered_in ms)) table ≡ false
    → is_none (option_and_then (ends_of_table routers) table) ≡ false → is_none (option_and_then (link_of_table routers) table) ≡ false
link_there routers None there keys ends = there
link_there routers (Some ms) there keys ends =
    let all = or_parts (is_none (name_in ms) || is_none (ends_in ms)) (is_none (unnumbered_in ms)) keys in
    link_from_there (name_in ms) (ends_of_table routers ms) (unnumbered_in ms) (or_parts (is_none (name_in ms)) (is_none (ends_in ms)) all.0).0 ends all.1

-- ---- links

pub all_ends-push : (ls : List TopoLink) (l : TopoLink) → all_ends (ls ++ l ∷ []) ≡ (all_ends ls ++ l.first ∷ []) ++ l.second ∷ []
all_ends-push [] l = refl
all_ends-push (x ∷ ls) l = ap (λ es. x.first ∷ x.second ∷ es) (all_ends-push ls l)

pub record AreLinks (routers : List (List ℕ)) (tables : List RouterTable) (es : List Data) : Type 0 where
  pub few : length es ≤ 4096
  pub as_many : length (links_said routers es) ≡ length es
  pub sound : list_all (is_link_of (length routers)) (links_said routers es) ≡ true
  pub named : filter_map name_of_entry es ≡ map (λ l. l.name) (links_said routers es)
  pub names : all_differ same_text (map (λ l. l.name) (links_said routers es)) ≡ true
  pub ends : all_differ (same_end tables) (all_ends (links_said routers es)) ≡ true

-- one more link whose ends are new and differ
pub ends_push : (tables : List RouterTable) (ls : List TopoLink) (l : TopoLink) → all_differ (same_end tables) (all_ends ls) ≡ true
    → (has_end tables (all_ends ls) l.first || has_end tables (all_ends ls ++ l.first ∷ []) l.second) ≡ false → all_differ (same_end tables) (all_ends (ls ++ l ∷ [])) ≡ true
ends_push tables ls l differ fresh =
    let same : TopoEnd → TopoEnd → Bool = same_end tables in
    let parts = or_parts (has_end tables (all_ends ls) l.first) (has_end tables (all_ends ls ++ l.first ∷ []) l.second) fresh in
    rw (all_ends-push ls l)
    (all_differ-push same (all_ends ls ++ l.first ∷ []) l.second (all_differ-push same (all_ends ls) l.first differ parts.0) parts.1)

link_push : (routers : List (List ℕ)) (tables : List RouterTable) (es : List Data) (x : Data) (l : TopoLink) → link_of_entry routers x ≡ Some l → AreLinks routers tables es → nat_le 4096 (length es) ≡ false
    → passes (λ n. not (is_name_text n)) (name_of_entry x) ≡ false → passes (has_text (filter_map name_of_entry es)) (name_of_entry x) ≡ false
    → (l.first.router.0 == l.second.router.0) ≡ false → (has_end tables (all_ends (links_said routers es)) l.first || has_end tables (all_ends (links_said routers es) ++ l.first ∷ []) l.second) ≡ false
    → AreLinks routers tables (es ++ x ∷ [])
link_push routers tables es x l is sound few named fresh apart ends =
    let said : links_said routers (es ++ x ∷ []) ≡ links_said routers es ++ l ∷ [] = filter_map-append (link_of_entry routers) es (x ∷ []) ∙ rw is in
    let facts = link_of_entry-parts routers x l is in
    let name_is : name_of_entry x ≡ Some l.name = facts.name in
    let low : length es < 4096 = leb-false _ _ few in
    let more_named : map (λ (k : TopoLink). k.name) (links_said routers es ++ l ∷ []) ≡ map (λ (k : TopoLink). k.name) (links_said routers es) ++ l.name ∷ [] =
    map-append (λ (k : TopoLink). k.name) (links_said routers es) (l ∷ []) in
    let own_name : not (is_name_text l.name) ≡ false = ap (passes (λ n. not (is_name_text n))) (sym name_is) ∙ named in
    let new_name : has_text (filter_map name_of_entry es) l.name ≡ false = ap (passes (has_text (filter_map name_of_entry es))) (sym name_is) ∙ fresh in
    let good : is_link_of (length routers) l ≡ true =
    and_from _ _ (and_from _ _ (and_from _ _ (not-false _ own_name) facts.first) facts.second) (ap not apart) in
    let entries_named : filter_map name_of_entry (es ++ x ∷ []) ≡ filter_map name_of_entry es ++ l.name ∷ [] = filter_map-append name_of_entry es (x ∷ []) ∙ rw name_is in
    record {
      few = rw (length-append es (x ∷ [])) (omega arith);
      as_many = rw (said, length-append (links_said routers es) (l ∷ []), length-append es (x ∷ []), sound.as_many);
      sound = rw (said, list_all-append (is_link_of (length routers)) (links_said routers es) (l ∷ []), sound.sound) (and_from _ _ good refl);
      named = rw (said, more_named, entries_named, sound.named);
      names = rw (said, more_named) (all_differ-push same_text (map (λ (k : TopoLink). k.name) (links_said routers es)) l.name sound.names (rw (← sound.named) new_name));
      ends = rw said (ends_push tables (links_said routers es) l sound.ends ends);
    }

-- an entry at which no row of its table stands
link_step : (routers : List (List ℕ)) (tables : List RouterTable) (es : List Data) (x : Data) (l : Option TopoLink) → link_of_entry routers x ≡ l → AreLinks routers tables es → nat_le 4096 (length es) ≡ false
    → passes (λ n. not (is_name_text n)) (name_of_entry x) ≡ false → passes (has_text (filter_map name_of_entry es)) (name_of_entry x) ≡ false
    → is_none l ≡ false → passes (λ both. both.0.router.0 == both.1.router.0) (ends_of_entry routers x) ≡ false
    → passes (λ both. has_end tables (all_ends (links_said routers es)) both.0 || has_end tables (all_ends (links_said routers es) ++ both.0 ∷ []) both.1) (ends_of_entry routers x) ≡ false → AreLinks routers tables (es ++ x ∷ [])
link_step routers tables es x None is sound few named fresh there apart ends = absurd (true≢false there)
link_step routers tables es x (Some l) is sound few named fresh there apart ends =
    let ends_are : ends_of_entry routers x ≡ Some (l.first, l.second) = (link_of_entry-parts routers x l is).ends in
    let taken = all_ends (links_said routers es) in
    link_push routers tables es x l is sound few named fresh
    (ap (passes (λ both. both.0.router.0 == both.1.router.0)) (sym ends_are) ∙ apart)
    (ap (passes (λ both. has_end tables taken both.0 || has_end tables (taken ++ both.0 ∷ []) both.1)) (sym ends_are) ∙ ends)

pub link_next : (routers : List (List ℕ)) (tables : List RouterTable) (es : List Data) (x : Data) → AreLinks routers tables es → NoneStands (link_rows routers tables es) x → AreLinks routers tables (es ++ x ∷ [])
link_next routers tables es x sound rows =
    link_step routers tables es x (link_of_entry routers x) refl sound rows.0 rows.1.1.1.1.0 rows.1.1.1.1.1.0 (link_there routers (as_table x) rows.1.0 rows.1.1.1.0 rows.1.1.1.1.1.1.0) rows.1.1.1.1.1.1.1.0 rows.1.1.1.1.1.1.1.1.0

pub links_sound : (routers : List (List ℕ)) (tables : List RouterTable) (es more : List Data) → AreLinks routers tables es → faults_along Link (link_rows routers tables) es more ≡ [] → AreLinks routers tables (es ++ more)
unfolding faults_along
links_sound routers tables es [] sound none = rw (append-nil es) sound
links_sound routers tables es (x ∷ more) sound none =
    let stand : standing (link_rows routers tables es) x ≡ [] = map_empty (λ (cause : ℕ). record { part = Link; entry = length es + 1; cause = cause }) _ (front_empty _ _ none) in
    let more_sound : AreLinks routers tables ((es ++ x ∷ []) ++ more) =
    links_sound routers tables (es ++ x ∷ []) more (link_next routers tables es x sound (none_stands (link_rows routers tables es) x stand)) (back_empty _ _ none) in
    rw append_assoc at more_sound

-- ---- edges

pub record AreEdges (routers : List (List ℕ)) (tables : List RouterTable) (links : List TopoLink) (es : List Data) : Type 0 where
  pub few : length es ≤ 16384
  pub as_many : length (edges_said routers es) ≡ length es
  pub sound : list_all (is_end_of (length routers)) (edges_said routers es) ≡ true
  pub ends : all_differ (same_end tables) (all_ends links ++ edges_said routers es) ≡ true

edge_step : (routers : List (List ℕ)) (tables : List RouterTable) (links : List TopoLink) (es : List Data) (x : Data) (e : Option TopoEnd) → end_of_entry routers x ≡ e → AreEdges routers tables links es → nat_le 16384 (length es) ≡ false
    → is_none e ≡ false → passes (has_end tables (all_ends links ++ edges_said routers es)) e ≡ false → AreEdges routers tables links (es ++ x ∷ [])
edge_step routers tables links es x None is sound few there fresh = absurd (true≢false there)
edge_step routers tables links es x (Some e) is sound few there fresh =
    let said : edges_said routers (es ++ x ∷ []) ≡ edges_said routers es ++ e ∷ [] = filter_map-append (end_of_entry routers) es (x ∷ []) ∙ rw is in
    let text = and_then_some (read_end routers) (option_and_then at_in (as_table x)) e is in
    let good : is_end_of (length routers) e ≡ true = read_end-sound routers text.0 e text.1.1 in
    let low : length es < 16384 = leb-false _ _ few in
    record {
      few = rw (length-append es (x ∷ [])) (omega arith);
      as_many = rw (said, length-append (edges_said routers es) (e ∷ []), length-append es (x ∷ []), sound.as_many);
      sound = rw (said, list_all-append (is_end_of (length routers)) (edges_said routers es) (e ∷ []), sound.sound) (and_from _ _ good refl);
      ends = rw (said, ← append_assoc) (all_differ-push (same_end tables) (all_ends links ++ edges_said routers es) e sound.ends fresh);
    }

pub edge_next : (routers : List (List ℕ)) (tables : List RouterTable) (links : List TopoLink) (es : List Data) (x : Data) → AreEdges routers tables links es → NoneStands (edge_rows routers tables links es) x → AreEdges routers tables links (es ++ x ∷ [])
edge_next routers tables links es x sound rows = edge_step routers tables links es x (end_of_entry routers x) refl sound rows.0 rows.1.1.1.1.0 rows.1.1.1.1.1.0

pub edges_sound : (routers : List (List ℕ)) (tables : List RouterTable) (links : List TopoLink) (es more : List Data) → AreEdges routers tables links es → faults_along Edge (edge_rows routers tables links) es more ≡ [] → AreEdges routers tables links (es ++ more)
unfolding faults_along
edges_sound routers tables links es [] sound none = rw (append-nil es) sound
edges_sound routers tables links es (x ∷ more) sound none =
    let stand : standing (edge_rows routers tables links es) x ≡ [] = map_empty (λ (cause : ℕ). record { part = Edge; entry = length es + 1; cause = cause }) _ (front_empty _ _ none) in
    let more_sound : AreEdges routers tables links ((es ++ x ∷ []) ++ more) =
    edges_sound routers tables links (es ++ x ∷ []) more (edge_next routers tables links es x sound (none_stands (edge_rows routers tables links es) x stand)) (back_empty _ _ none) in
    rw append_assoc at more_sound

-- ---- the whole

-- lists of entries without a fault say a sound topology
pub entries_sound : (lists : Sections) → faults_along Routers router_rows [] lists.routers ≡ []
    → faults_along Vrf (vrf_rows (routers_said lists.routers)) [] lists.vrfs ≡ []
    → faults_along Link (link_rows (names_said lists) (unmarked_tables lists)) [] lists.links ≡ []
    → faults_along Edge (edge_rows (names_said lists) (unmarked_tables lists) (links_said (names_said lists) lists.links)) [] lists.edges ≡ []
    → is_sound_topology (parts_said lists) ≡ true
entries_sound lists no_router no_vrf no_link no_edge =
    let devices : List (List ℕ) = routers_said lists.routers in
    let names : List (List ℕ) = names_said lists in
    let tables : List RouterTable = unmarked_tables lists in
    let marks : List Mark = marks_said names lists.marks in
    let links : List TopoLink = links_said names lists.links in
    let first : AreRouters lists.routers = routers_sound [] lists.routers (record { few = lit≤ tt; as_many = refl; names = refl; differ = refl }) no_router in
    let few_devices : length devices ≤ 1024 = rw first.as_many first.few in
    let virtual : AreVrfs devices lists.vrfs = vrfs_sound devices [] lists.vrfs (vrfs_start devices few_devices first.names first.differ) no_vrf in
    let second : AreLinks names tables lists.links = links_sound names tables [] lists.links (record { few = lit≤ tt; as_many = refl; sound = refl; named = refl; names = refl; ends = refl }) no_link in
    let third : AreEdges names tables links lists.edges =
    edges_sound names tables links [] lists.edges
    (record { few = lit≤ tt; as_many = refl; sound = refl; ends = rw (append-nil (all_ends links)) second.ends }) no_edge in
    let few_routers : nat_le (length names) 1024 ≡ true = le-leb _ _ (rw (names_long devices lists.vrfs virtual) virtual.few) in
    let few_links : nat_le (length links) 4096 ≡ true = le-leb _ _ (rw second.as_many second.few) in
    let few_edges : nat_le (length (edges_said names lists.edges)) 16384 ≡ true = le-leb _ _ (rw third.as_many third.few) in
    let has_tables : are_tables (length names) (tables_said lists) ≡ true = are_tables-marked (length names) tables marks ∙ vrf_tables-sound devices lists.vrfs virtual in
    let ends : all_differ (same_end (tables_said lists)) (all_ends links ++ edges_said names lists.edges) ≡ true =
    ends_differ-marked tables marks (all_ends links ++ edges_said names lists.edges) ∙ third.ends in
    and_from _ _ (and_from _ _ (and_from _ _ (and_from _ _ (and_from _ _ (and_from _ _ (and_from _ _ (and_from _ _ (and_from _ _ has_tables few_routers) few_links) few_edges) virtual.names) virtual.differ) second.sound) second.names) third.sound) ends

-- the same of one list of all their faults
pub lists_sound : (lists : Sections) → list_faults lists ≡ [] → is_sound_topology (parts_said lists) ≡ true
lists_sound lists none =
    let names : List (List ℕ) = names_said lists in
    let tables : List RouterTable = unmarked_tables lists in
    let first : List TopoFault = faults_along Routers router_rows [] lists.routers in
    let second : List TopoFault = faults_along Vrf (vrf_rows (routers_said lists.routers)) [] lists.vrfs in
    let third : List TopoFault = faults_along Link (link_rows names tables) [] lists.links in
    let fourth : List TopoFault = faults_along Edge (edge_rows names tables (links_said names lists.links)) [] lists.edges in
    let four : ((first ++ second) ++ third) ++ fourth ≡ [] = front_empty (((first ++ second) ++ third) ++ fourth) (faults_along Router (mark_rows names) [] lists.marks) none in
    let three : (first ++ second) ++ third ≡ [] = front_empty ((first ++ second) ++ third) fourth four in
    let two : first ++ second ≡ [] = front_empty (first ++ second) third three in
    entries_sound lists (front_empty first second two) (back_empty first second two) (back_empty (first ++ second) third three)
    (back_empty ((first ++ second) ++ third) fourth four)

pub document_sound : (doc : Members) → faults_of doc ≡ [] → is_sound_topology (parts_of doc) ≡ true
document_sound doc none =
    lists_sound (sections_of doc) (back_empty (map top_fault (standing top_causes doc)) (list_faults (sections_of doc)) none)

unless_faulty_sound : (doc : Members) (faults : List TopoFault) (p : Parts) → faults_of doc ≡ faults → unless_faulty faults (parts_of doc) ≡ Ok p
    → is_sound_topology p ≡ true
unless_faulty_sound doc [] p none e =
    let said : parts_of doc ≡ p = cc in
    rw (← said) (document_sound doc none)
unless_faulty_sound doc (f ∷ more) p some e = cc

said_sound : (doc : Option Members) (p : Parts) → said_by doc ≡ Ok p → is_sound_topology p ≡ true
said_sound None p e = cc
said_sound (Some doc) p e = unless_faulty_sound doc (faults_of doc) p refl e

past_test : (b : Bool) (fault : TopoFault) (r : Result Parts TopoFault) (p : Parts) → cond b (Err fault) r ≡ Ok p → r ≡ Ok p
past_test true fault r p e = cc
past_test false fault r p e = e

-- what a text says of a network is a sound topology
pub topology_of-sound : (bytes : List ℕ) (p : Parts) → topology_of bytes ≡ Ok p → is_sound_topology p ≡ true
topology_of-sound bytes p e = said_sound (document_of bytes) p (past_test (nat_lt 16777216 (length bytes)) (top_fault too_long) (said_by (document_of bytes)) p e)
