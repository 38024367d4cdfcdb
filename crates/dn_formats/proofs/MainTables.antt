-- The main tables of devices, one for each, whose device is the router itself, and the tables of VRFs after them.
use Rattle.std.proofs.Common.{◌≡◌, ℕ, zero, suc, ◌+◌, ◌<◌, true, false, not, nat_le, ◌==◌, List, [], ◌∷◌, ◌++◌, length, refl, sym, ap, subst, ◌∙◌, arith, length-append, append_assoc, slice_get}
use Rattle.std.proofs.lemmas.Bool.{and_parts, and_from, eq-eqb, ne_eqb}
use Rattle.std.proofs.lemmas.List.{append-nil}
use Rattle.std.proofs.lemmas.List.Folds.{list_all-append}
use Rattle.std.specs.List.{list_any, list_all}
use Rattle.std.specs.Option.{option_map_or}
use Rattle.base.specs.Lists.{all_differ}
use Rattle.dn_model.specs.declared.topology.Replace.TheVariants.{Key}
use Rattle.dn_model.specs.declared.topology.RouterTable.{RouterTable}
use Rattle.dn_model.specs.Topology.{is_table_at, are_tables_from, same_table}
use Rattle.dn_formats.specs.TopologyText.{main_tables_from, main_tables}

pub main_tables-long : (first : ℕ) (names : List (List ℕ)) → length (main_tables_from first names) ≡ length names
main_tables-long first [] = refl
main_tables-long first (name ∷ names) = ap suc (main_tables-long (first + 1) names)

-- after main tables, main tables are tables
pub tables_after : (earlier : List RouterTable) (names : List (List ℕ)) → list_all (λ (t : RouterTable). t.number == 254) earlier ≡ true
    → are_tables_from earlier (main_tables_from (length earlier) names) ≡ true
tables_after earlier [] main = refl
tables_after earlier (name ∷ names) main =
    let table : RouterTable = record { device = record { 0 = length earlier }; number = 254; replace = Key } in
    let long : length (earlier ++ table ∷ []) ≡ length earlier + 1 = length-append earlier (table ∷ []) in
    let all_main : list_all (λ (t : RouterTable). t.number == 254) (earlier ++ table ∷ []) ≡ true =
    list_all-append (λ (t : RouterTable). t.number == 254) earlier (table ∷ []) ∙ rw main in
    let more : are_tables_from (earlier ++ table ∷ []) (main_tables_from (length earlier + 1) names) ≡ true =
    rw (← long) (tables_after (earlier ++ table ∷ []) names all_main) in
    let here : is_table_at earlier (length earlier) table ≡ true = rw (eq-eqb (length earlier) (length earlier) refl, main) in
    and_from _ _ here more

-- a table before main tables is none of them
other_table : (i first : ℕ) (table : RouterTable) (names : List (List ℕ)) → table.device.0 ≡ i → i < first
    → list_any (same_table table) (main_tables_from first names) ≡ false
other_table i first table [] is before = refl
other_table i first table (name ∷ names) is before =
    let apart : (table.device.0 == first) ≡ false = ne_eqb table.device.0 first (λ (same : table.device.0 ≡ first). omega arith) in
    rw (apart, other_table i (first + 1) table names is (omega arith))

pub tables_differ : (first : ℕ) (names : List (List ℕ)) → all_differ same_table (main_tables_from first names) ≡ true
tables_differ first [] = refl
tables_differ first (name ∷ names) =
    let table : RouterTable = record { device = record { 0 = first }; number = 254; replace = Key } in
    rw (other_table first (first + 1) table names refl (omega arith), tables_differ (first + 1) names)

-- one table more
pub tables_push : (earlier tables : List RouterTable) (t : RouterTable) → are_tables_from earlier tables ≡ true
    → is_table_at (earlier ++ tables) (length (earlier ++ tables)) t ≡ true → are_tables_from earlier (tables ++ t ∷ []) ≡ true
tables_push earlier [] t so here =
    let P : List RouterTable → Type 0 = λ es. is_table_at es (length es) t ≡ true in
    and_from (is_table_at earlier (length earlier) t) true (subst P (append-nil earlier) here) refl
tables_push earlier (x ∷ tables) t so here =
    let parts = and_parts (is_table_at earlier (length earlier) x) (are_tables_from (earlier ++ x ∷ []) tables) so in
    let P : List RouterTable → Type 0 = λ es. is_table_at es (length es) t ≡ true in
    and_from _ _ parts.0 (tables_push (earlier ++ x ∷ []) tables t parts.1 (subst P (sym (append_assoc earlier (x ∷ []) tables)) here))

-- a device's main table stands at its place
main_at : (first : ℕ) (names : List (List ℕ)) (more : List RouterTable) (i d : ℕ) → i < length names → d ≡ first + i
    → option_map_or (λ (of : RouterTable). of.device.0 == d) (slice_get (main_tables_from first names ++ more) i) false ≡ true
main_at first [] more i d within is = absurd (omega arith)
main_at first (name ∷ names) more zero d within is = eq-eqb first d (omega arith)
main_at first (name ∷ names) more (suc i) d within is = main_at (first + 1) names more i d (omega arith) (omega arith)

-- the table of a VRF stands after the main tables of devices, one of which is its own
pub vrf_after : (names : List (List ℕ)) (more : List RouterTable) (t : RouterTable) → t.device.0 < length names → (t.number == 254) ≡ false
    → nat_le 1 t.number ≡ true → is_table_at (main_tables names ++ more) (length (main_tables names ++ more)) t ≡ true
vrf_after names more t within other low =
    let long : length (main_tables names ++ more) ≡ length (main_tables names) + length more = length-append (main_tables names) more in
    let mains : length (main_tables names) ≡ length names = main_tables-long 0 names in
    let apart : (t.device.0 == length (main_tables names ++ more)) ≡ false =
    ne_eqb t.device.0 (length (main_tables names ++ more)) (λ (same : t.device.0 ≡ length (main_tables names ++ more)). omega arith) in
    let of : option_map_or (λ (of : RouterTable). of.device.0 == t.device.0) (slice_get (main_tables names ++ more) t.device.0) false ≡ true =
    main_at 0 names more t.device.0 t.device.0 within (omega arith) in
    rw apart (and_from _ _ (and_from _ _ of (ap not other)) low)
