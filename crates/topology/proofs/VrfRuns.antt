-- The entries of `vrf`, one after the other.
use Rattle.std.proofs.Common.{◌≡◌, ℕ, ◌+◌, ◌-◌, ◌<◌, ◌≤◌, Bool, List, [], ◌∷◌, ◌++◌, length, get_or, take, map, None, refl, sym, ap, ◌∙◌, subst, arith, append_assoc}
use Rattle.std.proofs.lemmas.Bool.{leb-false}
use Rattle.std.proofs.lemmas.List.{append-nil, take_more, take_all, length-map, length-append}
use Rattle.toml.specs.declared.value.Value.{Value}
use Rattle.toml.specs.View.{view}
use Rattle.std.specs.Option.{option_to_list}
use Rattle.toml.specs.Data.{Data, as_table}
use Rattle.dn_model.specs.declared.topology.RouterTable.{RouterTable}
use Rattle.dn_formats.specs.declared.topology_fault.TopoPart.TheVariants.{Vrf}
use Rattle.dn_formats.specs.declared.topology_fault.TopoRefused.{TopoRefused}
use Rattle.dn_formats.specs.TopologyText.{faults_along, name_of_entry, vrf_of_entry, main_tables, vrf_causes, vrf_names_said, vrf_tables_said, names_with, tables_with, vrf_rows}
use Rattle.dn_formats.proofs.TopologySound.{NoneStands}
use Rattle.dn_formats.proofs.TopologyVrfsSound.{name_there}
use Rattle.topology.specs.Reading.{first_standing, IsRefusalAt, IsFirstFault, SayVrfs}
use Rattle.topology.proofs.Runs.{none_from_first, Left, left_more, left_refused, left_none, said_more, one_said, item_is, item_within}

pub record VrfsSoFar (devices : List (List ℕ)) (all : List Data) (i : ℕ) (names : List (List ℕ)) (tables : List RouterTable) : Type 0 where
  pub left : Left Vrf (vrf_rows devices) all i
  pub named : names ≡ names_with devices (take i all)
  pub said : tables ≡ tables_with devices (take i all)
  pub as_many : length names ≡ length devices + length (take i all)
  pub few : length names ≤ 1024

pub vrfs_start : (devices : List (List ℕ)) (tables : List RouterTable) (all : List Data) → length devices ≤ 1024 → tables ≡ main_tables devices → VrfsSoFar devices all 0 devices tables
vrfs_start devices tables all few main =
    record {
      left = record { same = refl };
      named = sym (append-nil devices);
      said = main ∙ sym (append-nil (main_tables devices));
      as_many = omega arith;
      few = few;
    }

vrf_table-so_far : (devices : List (List ℕ)) (all : List Data) (i : ℕ) (names : List (List ℕ)) (tables : List RouterTable) → VrfsSoFar devices all i names tables
    → vrf_rows devices (take i all) ≡ vrf_causes devices (length names) names tables
vrf_table-so_far devices all i names tables far =
    ap (λ n. vrf_causes devices n (names_with devices (take i all)) (tables_with devices (take i all))) (sym far.as_many)
    ∙ ap (λ ns. vrf_causes devices (length names) ns (tables_with devices (take i all))) (sym far.named)
    ∙ ap (λ ts. vrf_causes devices (length names) names ts) (sym far.said)

vrfs_more : (devices : List (List ℕ)) (all : List Data) (i : ℕ) (names new : List (List ℕ)) (tables more : List RouterTable) (d : Data) → i < length all → VrfsSoFar devices all i names tables
    → first_standing (vrf_causes devices (length names) names tables) (get_or all i d) ≡ None → new ≡ names ++ option_to_list (name_of_entry (get_or all i d))
    → more ≡ tables ++ option_to_list (vrf_of_entry devices (get_or all i d)) → VrfsSoFar devices all (i + 1) new more
vrfs_more devices all i names new tables more d within far none pushed put =
    let x : Data = get_or all i d in
    let rows : NoneStands (vrf_rows devices (take i all)) (get_or all i d) =
    none_from_first (vrf_rows devices (take i all)) (get_or all i d) (ap (λ rows. first_standing rows (get_or all i d)) (vrf_table-so_far devices all i names tables far) ∙ none) in
    let low : length devices + length (take i all) < 1024 = leb-false _ _ rows.0 in
    let same : length names ≡ length devices + length (take i all) = far.as_many in
    let one_more : length new ≡ length names + 1 = one_said names new (name_of_entry x) (name_there (as_table x) rows.1.0 rows.1.1.1.0) pushed in
    let taken : length (take i all ++ get_or all i d ∷ []) ≡ length (take i all) + 1 = length-append (take i all) (get_or all i d ∷ []) in
    let next : take (i + 1) all ≡ take i all ++ get_or all i d ∷ [] = take_more all i d within in
    record {
      left = left_more Vrf (vrf_rows devices) all i d within far.left rows;
      named = pushed ∙ ap (λ ns. ns ++ option_to_list (name_of_entry x)) far.named ∙ append_assoc devices (vrf_names_said (take i all)) (option_to_list (name_of_entry x))
          ∙ ap (λ ns. devices ++ ns) (sym (said_more name_of_entry (take i all) x)) ∙ ap (names_with devices) (sym next);
      said = put ∙ ap (λ ts. ts ++ option_to_list (vrf_of_entry devices x)) far.said ∙ append_assoc (main_tables devices) (vrf_tables_said devices (take i all)) (option_to_list (vrf_of_entry devices x))
          ∙ ap (λ ts. main_tables devices ++ ts) (sym (said_more (vrf_of_entry devices) (take i all) x)) ∙ ap (tables_with devices) (sym next);
      as_many = rw next (omega arith);
      few = omega arith;
    }

vrfs_refused : (devices : List (List ℕ)) (all : List Data) (i e : ℕ) (names : List (List ℕ)) (tables : List RouterTable) (d : Data) (refused : TopoRefused) → i < length all
    → VrfsSoFar devices all i names tables → e ≡ length (take i all) + 1 → IsRefusalAt Vrf e (first_standing (vrf_causes devices (length names) names tables) (get_or all i d)) refused
    → IsFirstFault (faults_along Vrf (vrf_rows devices) [] all) refused
vrfs_refused devices all i e names tables d refused within far entry here =
    let P : ℕ → Type 0 = λ n. IsRefusalAt Vrf n (first_standing (vrf_causes devices (length names) names tables) (get_or all i d)) refused in
    let Q : List (ℕ × (Data → Bool)) → Type 0 = λ rows. IsRefusalAt Vrf (length (take i all) + 1) (first_standing rows (get_or all i d)) refused in
    left_refused Vrf (vrf_rows devices) all i d refused within far.left (subst Q (sym (vrf_table-so_far devices all i names tables far)) (subst P entry here))

take_front : (xs ys : List (List ℕ)) → take (length xs) (xs ++ ys) ≡ xs
take_front [] ys = refl
take_front (x ∷ xs) ys = ap (λ rest. x ∷ rest) (take_front xs ys)

-- the devices stand first among the names
devices_first : (devices : List (List ℕ)) (all : List Data) (i n : ℕ) (names : List (List ℕ)) (tables : List RouterTable) → n ≡ length devices → VrfsSoFar devices all i names tables
    → take n names ≡ devices
devices_first devices all i n names tables is far =
    ap (λ k. take k names) is ∙ ap (take (length devices)) far.named ∙ take_front devices (vrf_names_said (take i all))

-- ---- the same at values of `toml`

pub vrfs_step : (devices : List (List ℕ)) (n : ℕ) (vs : List Value) (i : ℕ) (names new : List (List ℕ)) (tables more : List RouterTable) (v : Value) → n ≡ length devices → i < length vs → v ≡ get_or vs i v
    → VrfsSoFar devices (map view vs) i names tables → first_standing (vrf_causes (take n names) (length names) names tables) (view v) ≡ None
    → new ≡ names ++ option_to_list (name_of_entry (view v)) → more ≡ tables ++ option_to_list (vrf_of_entry (take n names) (view v)) → VrfsSoFar devices (map view vs) (i + 1) new more
vrfs_step devices n vs i names new tables more v count within is far none pushed put =
    let front : take n names ≡ devices = devices_first devices (map view vs) i n names tables count far in
    let none_here : first_standing (vrf_causes devices (length names) names tables) (view v) ≡ None =
    subst (λ ds. first_standing (vrf_causes ds (length names) names tables) (view v) ≡ None) front none in
    let put_here : more ≡ tables ++ option_to_list (vrf_of_entry devices (view v)) = subst (λ ds. more ≡ tables ++ option_to_list (vrf_of_entry ds (view v))) front put in
    vrfs_more devices (map view vs) i names new tables more (view v) (item_within vs i within) far
    (ap (λ x. first_standing (vrf_causes devices (length names) names tables) x) (item_is vs i v is) ∙ none_here)
    (pushed ∙ ap (λ x. names ++ option_to_list (name_of_entry x)) (sym (item_is vs i v is)))
    (put_here ∙ ap (λ x. tables ++ option_to_list (vrf_of_entry devices x)) (sym (item_is vs i v is)))

pub vrfs_stop : (devices : List (List ℕ)) (n : ℕ) (vs : List Value) (i : ℕ) (names : List (List ℕ)) (tables : List RouterTable) (v : Value) (refused : TopoRefused) → n ≡ length devices → i < length vs → v ≡ get_or vs i v
    → VrfsSoFar devices (map view vs) i names tables → IsRefusalAt Vrf (length names - n + 1) (first_standing (vrf_causes (take n names) (length names) names tables) (view v)) refused
    → IsFirstFault (faults_along Vrf (vrf_rows devices) [] (map view vs)) refused
vrfs_stop devices n vs i names tables v refused count within is far here =
    let front : take n names ≡ devices = devices_first devices (map view vs) i n names tables count far in
    let same : length names ≡ length devices + length (take i (map view vs)) = far.as_many in
    let P : Data → Type 0 = λ x. IsRefusalAt Vrf (length names - n + 1) (first_standing (vrf_causes devices (length names) names tables) x) refused in
    let Q : List (List ℕ) → Type 0 = λ ds. IsRefusalAt Vrf (length names - n + 1) (first_standing (vrf_causes ds (length names) names tables) (view v)) refused in
    vrfs_refused devices (map view vs) i (length names - n + 1) names tables (view v) refused (item_within vs i within) far (omega arith)
    (subst P (sym (item_is vs i v is)) (subst Q front here))

pub vrfs_end : (devices : List (List ℕ)) (vs : List Value) (i : ℕ) (names : List (List ℕ)) (tables : List RouterTable) → length vs ≤ i → VrfsSoFar devices (map view vs) i names tables
    → SayVrfs devices (map view vs) names tables
vrfs_end devices vs i names tables past far =
    let end : length (map view vs) ≤ i = rw length-map past in
    let whole : take i (map view vs) ≡ map view vs = take_all i (map view vs) end in
    record {
      faultless = left_none Vrf (vrf_rows devices) (map view vs) i end far.left;
      named = far.named ∙ ap (names_with devices) whole;
      said = far.said ∙ ap (tables_with devices) whole;
      few = far.few;
    }
