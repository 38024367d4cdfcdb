-- The VRFs of a document without a fault are routers beside the devices, each with its own table.
use Rattle.std.proofs.Common.{◌≡◌, ℕ, ℤ, pos, negsuc, ◌+◌, ◌<◌, ◌≤◌, true, false, not, ◌&&◌, ◌||◌, ◌==◌, nat_le, List, [], ◌∷◌, ◌++◌, length, Option, Some, None, is_none, option_and_then, refl, sym, ap, ◌∙◌, arith, append_assoc, length-append}
use Rattle.std.proofs.lemmas.Bool.{and_parts, and_from, or_parts, not-true, not-false, leb-false, true≢false, eq-eqb}
use Rattle.std.proofs.lemmas.Option.{same_Some}
use Rattle.std.proofs.lemmas.List.{append-nil}
use Rattle.std.proofs.lemmas.List.Elements.{filter_map-append}
use Rattle.std.proofs.lemmas.List.Folds.{list_all-append}
use Rattle.std.proofs.lemmas.List.Quantifiers.{position-Some}
use Rattle.std.specs.List.{list_all}
use Rattle.toml.specs.Data.{Data, Members, as_table}
use Rattle.dn_model.specs.declared.topology.RouterTable.{RouterTable}
use Rattle.dn_formats.specs.declared.topology_fault.TopoPart.TheVariants.{Vrf}
use Rattle.base.specs.Name.{is_name_text, same_text}
use Rattle.base.specs.Lists.{all_differ}
use Rattle.dn_model.specs.Topology.{are_tables_from, are_tables, same_table}
use Rattle.dn_formats.specs.EndText.{place_of}
use Rattle.dn_formats.specs.TopologyText.{passes, standing, faults_along, has_text, has_table, name_in, router_in, table_in, vrf_number, name_of_entry, device_of_entry, number_of_entry, vrf_from, vrf_of_entry, main_tables, vrf_names_said, vrf_tables_said, names_with, tables_with, vrf_rows}
use Rattle.dn_formats.proofs.MainTables.{main_tables-long, tables_after, tables_differ, tables_push, vrf_after}
use Rattle.dn_formats.proofs.TopologySound.{NoneStands, none_stands, map_empty, front_empty, back_empty, all_differ-push, and_then_some, cond_some}

-- ---- what an entry of `vrf` says

vrf_from-parts : (device number : Option ℕ) (t : RouterTable) → vrf_from device number ≡ Some t → (device ≡ Some t.device.0) × (number ≡ Some t.number)
vrf_from-parts (Some d) (Some n) t is = (ap (λ o. Some o.device.0) (same_Some _ _ is), ap (λ o. Some o.number) (same_Some _ _ is))
vrf_from-parts (Some d) None t is = cc
vrf_from-parts None number t is = cc

vrf_from_there : (device number : Option ℕ) → is_none device ≡ false → is_none number ≡ false → is_none (vrf_from device number) ≡ false
vrf_from_there (Some d) (Some n) one two = refl
vrf_from_there (Some d) None one two = two
vrf_from_there None number one two = one

vrf_number-bounds : (z : ℤ) (n : ℕ) → vrf_number z ≡ Some n → (nat_le 1 n ≡ true) × ((n == 254) ≡ false)
vrf_number-bounds (pos m) n is =
    let parts = cond_some (nat_le 1 m && nat_le m 4294967295 && not (m == 254)) m n is in
    let bounds = and_parts (nat_le 1 m && nat_le m 4294967295) (not (m == 254)) parts.0 in
    (rw (← parts.1) (and_parts _ _ bounds.0).0, rw (← parts.1) (not-true _ bounds.1))
vrf_number-bounds (negsuc m) n is = cc

-- the table of an entry is one of a device, and no main one
pub record SaysVrf (devices : List (List ℕ)) (t : RouterTable) : Type 0 where
  pub device : t.device.0 < length devices
  pub low : nat_le 1 t.number ≡ true
  pub other : (t.number == 254) ≡ false

pub vrf_of_entry-parts : (devices : List (List ℕ)) (x : Data) (t : RouterTable) → vrf_of_entry devices x ≡ Some t → SaysVrf devices t
vrf_of_entry-parts devices x t is =
    let parts = vrf_from-parts (device_of_entry devices x) (number_of_entry x) t is in
    let name = and_then_some (place_of devices) (option_and_then router_in (as_table x)) t.device.0 parts.0 in
    let number = and_then_some vrf_number (option_and_then table_in (as_table x)) t.number parts.1 in
    let bounds = vrf_number-bounds number.0 t.number number.1.1 in
    record { device = (position-Some _ devices t.device.0 [] name.1.1).0; low = bounds.0; other = bounds.1 }

pub name_there : (table : Option Members) → is_none table ≡ false
    → passes (λ ms. is_none (router_in ms) || is_none (table_in ms) || is_none (name_in ms)) table ≡ false → is_none (option_and_then name_in table) ≡ false
name_there None there keys = there
name_there (Some ms) there keys = (or_parts (is_none (router_in ms) || is_none (table_in ms)) (is_none (name_in ms)) keys).1

-- ---- VRFs

-- devices and the VRFs that entries say after them
pub record AreVrfs (devices : List (List ℕ)) (es : List Data) : Type 0 where
  pub few : length devices + length es ≤ 1024
  pub named : length (vrf_names_said es) ≡ length es
  pub as_many : length (vrf_tables_said devices es) ≡ length es
  pub names : list_all is_name_text (names_with devices es) ≡ true
  pub differ : all_differ same_text (names_with devices es) ≡ true
  pub tables : are_tables_from [] (tables_with devices es) ≡ true
  pub apart : all_differ same_table (tables_with devices es) ≡ true

pub vrfs_start : (devices : List (List ℕ)) → length devices ≤ 1024 → list_all is_name_text devices ≡ true → all_differ same_text devices ≡ true → AreVrfs devices []
vrfs_start devices few names differ =
    record {
      few = omega arith;
      named = refl;
      as_many = refl;
      names = rw (append-nil devices) names;
      differ = rw (append-nil devices) differ;
      tables = rw (append-nil (main_tables devices)) (tables_after [] devices refl);
      apart = rw (append-nil (main_tables devices)) (tables_differ 0 devices);
    }

vrf_push : (devices : List (List ℕ)) (es : List Data) (x : Data) (name : List ℕ) (t : RouterTable) → name_of_entry x ≡ Some name → vrf_of_entry devices x ≡ Some t → AreVrfs devices es
    → nat_le 1024 (length devices + length es) ≡ false → not (is_name_text name) ≡ false → has_text (names_with devices es) name ≡ false → has_table (tables_with devices es) t ≡ false
    → AreVrfs devices (es ++ x ∷ [])
vrf_push devices es x name t is_name is_table sound few named fresh apart =
    let facts = vrf_of_entry-parts devices x t is_table in
    let low : length devices + length es < 1024 = leb-false _ _ few in
    let more_names : vrf_names_said (es ++ x ∷ []) ≡ vrf_names_said es ++ name ∷ [] = filter_map-append name_of_entry es (x ∷ []) ∙ rw is_name in
    let more_tables : vrf_tables_said devices (es ++ x ∷ []) ≡ vrf_tables_said devices es ++ t ∷ [] = filter_map-append (vrf_of_entry devices) es (x ∷ []) ∙ rw is_table in
    let names : names_with devices (es ++ x ∷ []) ≡ names_with devices es ++ name ∷ [] =
    ap (λ ns. devices ++ ns) more_names ∙ sym (append_assoc devices (vrf_names_said es) (name ∷ [])) in
    let tables : tables_with devices (es ++ x ∷ []) ≡ tables_with devices es ++ t ∷ [] =
    ap (λ ts. main_tables devices ++ ts) more_tables ∙ sym (append_assoc (main_tables devices) (vrf_tables_said devices es) (t ∷ [])) in
    let all_names : list_all is_name_text (names_with devices es ++ name ∷ []) ≡ true =
    list_all-append is_name_text (names_with devices es) (name ∷ []) ∙ rw (sound.names, not-false _ named) in
    record {
      few = rw (length-append es (x ∷ [])) (omega arith);
      named = rw (more_names, length-append (vrf_names_said es) (name ∷ []), length-append es (x ∷ []), sound.named);
      as_many = rw (more_tables, length-append (vrf_tables_said devices es) (t ∷ []), length-append es (x ∷ []), sound.as_many);
      names = ap (list_all is_name_text) names ∙ all_names;
      differ = ap (all_differ same_text) names ∙ all_differ-push same_text (names_with devices es) name sound.differ fresh;
      tables = ap (are_tables_from []) tables
          ∙ tables_push [] (tables_with devices es) t sound.tables (vrf_after devices (vrf_tables_said devices es) t facts.device facts.other facts.low);
      apart = ap (all_differ same_table) tables ∙ all_differ-push same_table (tables_with devices es) t sound.apart apart;
    }

-- an entry at which no row of its table stands
vrf_step : (devices : List (List ℕ)) (es : List Data) (x : Data) (name : Option (List ℕ)) (t : Option RouterTable) → name_of_entry x ≡ name → vrf_of_entry devices x ≡ t → AreVrfs devices es
    → nat_le 1024 (length devices + length es) ≡ false → is_none name ≡ false → passes (λ n. not (is_name_text n)) name ≡ false → passes (has_text (names_with devices es)) name ≡ false
    → is_none t ≡ false → passes (has_table (tables_with devices es)) t ≡ false → AreVrfs devices (es ++ x ∷ [])
vrf_step devices es x None t is_name is_table sound few here named fresh there apart = absurd (true≢false here)
vrf_step devices es x (Some name) None is_name is_table sound few here named fresh there apart = absurd (true≢false there)
vrf_step devices es x (Some name) (Some t) is_name is_table sound few here named fresh there apart = vrf_push devices es x name t is_name is_table sound few named fresh apart

pub vrf_next : (devices : List (List ℕ)) (es : List Data) (x : Data) → AreVrfs devices es → NoneStands (vrf_rows devices es) x → AreVrfs devices (es ++ x ∷ [])
vrf_next devices es x sound rows =
    vrf_step devices es x (name_of_entry x) (vrf_of_entry devices x) refl refl sound rows.0 (name_there (as_table x) rows.1.0 rows.1.1.1.0) rows.1.1.1.1.0 rows.1.1.1.1.1.0
    (vrf_from_there (device_of_entry devices x) (number_of_entry x) rows.1.1.1.1.1.1.0 rows.1.1.1.1.1.1.1.0) rows.1.1.1.1.1.1.1.1.0

pub vrfs_sound : (devices : List (List ℕ)) (es more : List Data) → AreVrfs devices es → faults_along Vrf (vrf_rows devices) es more ≡ [] → AreVrfs devices (es ++ more)
unfolding faults_along
vrfs_sound devices es [] sound none = rw (append-nil es) sound
vrfs_sound devices es (x ∷ more) sound none =
    let stand : standing (vrf_rows devices es) x ≡ [] = map_empty (λ (cause : ℕ). record { part = Vrf; entry = length es + 1; cause = cause }) _ (front_empty _ _ none) in
    let more_sound : AreVrfs devices ((es ++ x ∷ []) ++ more) =
    vrfs_sound devices (es ++ x ∷ []) more (vrf_next devices es x sound (none_stands (vrf_rows devices es) x stand)) (back_empty _ _ none) in
    rw append_assoc at more_sound

-- as many names as tables, and few enough
pub names_long : (devices : List (List ℕ)) (es : List Data) → AreVrfs devices es → length (names_with devices es) ≡ length devices + length es
names_long devices es sound = length-append devices (vrf_names_said es) ∙ ap (λ n. length devices + n) sound.named

pub tables_long : (devices : List (List ℕ)) (es : List Data) → AreVrfs devices es → length (tables_with devices es) ≡ length devices + length es
tables_long devices es sound =
    let all : length (tables_with devices es) ≡ length (main_tables devices) + length (vrf_tables_said devices es) = length-append (main_tables devices) (vrf_tables_said devices es) in
    let mains : length (main_tables devices) ≡ length devices = main_tables-long 0 devices in
    let more : length (vrf_tables_said devices es) ≡ length es = sound.as_many in
    omega arith

-- each router has its table
pub vrf_tables-sound : (devices : List (List ℕ)) (es : List Data) → AreVrfs devices es → are_tables (length (names_with devices es)) (tables_with devices es) ≡ true
vrf_tables-sound devices es sound =
    and_from _ _ (and_from _ _ (eq-eqb _ _ (tables_long devices es sound ∙ sym (names_long devices es sound))) sound.tables) sound.apart
