-- Devices: a router's device is a device, and which router a table of a device is.
use Rattle.std.proofs.Common.{◌≡◌, ◌≢◌, ℕ, zero, suc, ◌+◌, ◌<◌, ◌≤◌, ◌⊎◌, ◌∙◌, ◌&&◌, ◌==◌, not, Bool, true, false, cond, nat_le, nat_lt, Option, Some, None, List, [], ◌∷◌, ◌++◌, length, get_or, take, inl, inr, refl, ap, sym, subst, ⊎_elim, arith}
use Rattle.std.specs.Prelude.{slice_get, position, option_map}
use Rattle.std.specs.List.{list_all, position_or_len}
use Rattle.std.specs.Option.{option_map_or}
use Rattle.std.proofs.lemmas.Bool.{and_parts, and_from, both_ways, eq-eqb, eqb-true, lt-ltb, not-true, false_from_ne_true, false≢true}
use Rattle.std.proofs.lemmas.List.{append_assoc, append-nil, length-append}
use Rattle.std.proofs.lemmas.List.Quantifiers.{position-Some}
use Rattle.std.proofs.lemmas.List.Sums.{position_or_len_is}
use Rattle.std.proofs.lemmas.Option.{none-some, same_Some, slice_get_cases, slice_get-get_or}
use Rattle.base.specs.declared.ids.RouterId.{RouterId}
use Rattle.base.proofs.DeltaParts.{same-router}
use Rattle.dn_model.specs.Tables.{device_of, router_of_table}
use Rattle.dn_model.specs.Topology.{are_tables_from, is_table_at}
use Rattle.dn_model.specs.declared.topology.Replace.TheVariants.{Key}
use Rattle.dn_model.specs.declared.topology.RouterTable.{RouterTable}
use Rattle.dn_model.specs.declared.topology.Topology.{Topology}
use Rattle.dn_model.proofs.Nowhere.{sound-parts, tables-long}

-- ---- the tables of a network

-- each is one beside those before it
table-at : (earlier tables : List RouterTable) (i : ℕ) (x : RouterTable) → are_tables_from earlier tables ≡ true → slice_get tables i ≡ Some x → is_table_at (earlier ++ take i tables) (length earlier + i) x ≡ true
table-at earlier [] i x h e = absurd (none-some x e)
table-at earlier (y ∷ ys) zero x h e =
    let first : is_table_at earlier (length earlier) y ≡ true = (and_parts (is_table_at earlier (length earlier) y) (are_tables_from (earlier ++ y ∷ []) ys) h).0 in
    let same : y ≡ x = same_Some y x e in
    let at : length earlier ≡ length earlier + 0 = omega arith in
    subst (λ z. is_table_at (earlier ++ []) (length earlier + 0) z ≡ true) same
    (subst (λ n. is_table_at (earlier ++ []) n y ≡ true) at
    (subst (λ es. is_table_at es (length earlier) y ≡ true) (sym (append-nil earlier)) first))
table-at earlier (y ∷ ys) (suc i) x h e =
    let rest : is_table_at ((earlier ++ y ∷ []) ++ take i ys) (length (earlier ++ y ∷ []) + i) x ≡ true = table-at (earlier ++ y ∷ []) ys i x (and_parts (is_table_at earlier (length earlier) y) (are_tables_from (earlier ++ y ∷ []) ys) h).1 e in
    let long : length (earlier ++ y ∷ []) ≡ length earlier + 1 = length-append earlier (y ∷ []) in
    let at : length (earlier ++ y ∷ []) + i ≡ length earlier + suc i = omega arith in
    subst (λ n. is_table_at (earlier ++ y ∷ take i ys) n x ≡ true) at
    (subst (λ es. is_table_at es (length (earlier ++ y ∷ []) + i) x ≡ true) (append_assoc earlier (y ∷ []) (take i ys)) rest)

take-get : {X : Type 0} (i : ℕ) (xs : List X) (k : ℕ) (x : X) → slice_get (take i xs) k ≡ Some x → slice_get xs k ≡ Some x
take-get zero xs k x e = absurd (none-some x e)
take-get (suc i) [] k x e = absurd (none-some x e)
take-get (suc i) (y ∷ ys) zero x e = e
take-get (suc i) (y ∷ ys) (suc k) x e = take-get i ys k x e

-- what a test of an option's value finds
found : {X : Type 0} (p : X → Bool) (o : Option X) → option_map_or p o false ≡ true → (x : X) × (o ≡ Some x) × (p x ≡ true)
found p None h = absurd (false≢true h)
found p (Some x) h = (x, refl, h)

-- a table is that of a device, or of a VRF of one that has its own main table
record IsVrf (tables : List RouterTable) (i : ℕ) (x : RouterTable) : Type 0 where
  apart : x.device.0 ≢ i
  of : RouterTable
  at : slice_get tables x.device.0 ≡ Some of
  own : of.device.0 ≡ x.device.0
  other : x.number ≢ 254

table-cases : (t : Topology) (i : ℕ) (x : RouterTable) → slice_get t.tables i ≡ Some x → ((x.device.0 ≡ i) × (x.number ≡ 254)) ⊎ IsVrf t.tables i x
table-cases t i x e =
    let at : 0 + i ≡ i = omega arith in
    by (x.device.0 == i) refl (subst (λ n. is_table_at (take i t.tables) n x ≡ true) at (table-at [] t.tables i x (sound-parts t).1 e))
  where
    main : Bool
    main = (x.number == 254) && list_all (λ (o : RouterTable). o.number == 254) (take i t.tables)

    vrf : Bool
    vrf = option_map_or (λ (o : RouterTable). o.device.0 == x.device.0) (slice_get (take i t.tables) x.device.0) false && not (x.number == 254) && nat_le 1 x.number

    by : (b : Bool) → (x.device.0 == i) ≡ b → cond b main vrf ≡ true → ((x.device.0 ≡ i) × (x.number ≡ 254)) ⊎ IsVrf t.tables i x
    by true y h = inl (eqb-true x.device.0 i y, eqb-true x.number 254 (and_parts (x.number == 254) (list_all (λ (o : RouterTable). o.number == 254) (take i t.tables)) h).0)
    by false n h =
        let parts = and_parts _ _ (and_parts _ _ h).0 in
        let of : (o : RouterTable) × (slice_get (take i t.tables) x.device.0 ≡ Some o) × ((o.device.0 == x.device.0) ≡ true) = found (λ (o : RouterTable). o.device.0 == x.device.0) (slice_get (take i t.tables) x.device.0) parts.0 in
        inr (record {
          apart = λ e. both_ways (x.device.0 == i) n (eq-eqb x.device.0 i e);
          of = of.0;
          at = take-get i t.tables x.device.0 of.0 of.1;
          own = eqb-true of.0.device.0 x.device.0 of.2;
          other = λ e. both_ways (x.number == 254) (not-true (x.number == 254) parts.1) (eq-eqb x.number 254 e);
        })

-- ---- devices

device-at : (t : Topology) (r : RouterId) (x : RouterTable) → slice_get t.tables r.0 ≡ Some x → device_of t r ≡ x.device
device-at t r x e = rw e refl

-- a device is its own
pub device-own : (t : Topology) (r : RouterId) → device_of t (device_of t r) ≡ device_of t r
device-own t r = ⊎_elim
    (λ (s : (x : RouterTable) × (r.0 < length t.tables) × (slice_get t.tables r.0 ≡ Some x) × (get_or t.tables r.0 x ≡ x)).
    let is : device_of t r ≡ s.0.device = device-at t r s.0 s.2 in
    ap (device_of t) is ∙ ⊎_elim
    (λ (main : (s.0.device.0 ≡ r.0) × (s.0.number ≡ 254)). ap (device_of t) (same-router s.0.device r main.0) ∙ is)
    (λ (vrf : IsVrf t.tables r.0 s.0). device-at t s.0.device vrf.of vrf.at ∙ same-router vrf.of.device s.0.device vrf.own)
    (table-cases t r.0 s.0 s.2) ∙ sym is)
    (λ (o : (length t.tables ≤ r.0) × (slice_get t.tables r.0 ≡ None)).
    let is : device_of t r ≡ r = rw o.1 refl in
    ap (device_of t) is)
    (slice_get_cases t.tables r.0).1

-- the place of a table of a device is a router of the device
pub place_device : (t : Topology) (d : RouterId) (n i : ℕ) (r : RouterId) → r.0 ≡ i → position (λ (x : RouterTable). (x.device.0 == d.0) && (x.number == n)) t.tables ≡ Some i → device_of t r ≡ d
place_device t d n i r at p =
    let none : RouterTable = record { device = d; number = n; replace = Key } in
    let first : (i < length t.tables) × (is_it (get_or t.tables i none) ≡ true) × ((k : ℕ) → k < i → is_it (get_or t.tables k none) ≡ false) = position-Some is_it t.tables i none p in
    let there : slice_get t.tables r.0 ≡ Some (get_or t.tables i none) = ap (slice_get t.tables) at ∙ slice_get-get_or t.tables i none first.0 in
    device-at t r (get_or t.tables i none) there
    ∙ same-router (get_or t.tables i none).device d (eqb-true (get_or t.tables i none).device.0 d.0 (and_parts ((get_or t.tables i none).device.0 == d.0) ((get_or t.tables i none).number == n) first.1).0)
  where
    is_it : RouterTable → Bool
    is_it x = (x.device.0 == d.0) && (x.number == n)

-- a table of a device is a router of the device
pub table-device : (t : Topology) (d r : RouterId) (n : ℕ) → router_of_table t d n ≡ Some r → device_of t r ≡ d
table-device t d r n h = by (position is_it t.tables) refl h
  where
    is_it : RouterTable → Bool
    is_it x = (x.device.0 == d.0) && (x.number == n)

    by : (o : Option ℕ) → position is_it t.tables ≡ o → option_map (λ i. record { 0 = i }) o ≡ Some r → device_of t r ≡ d
    by None p e = absurd (none-some r e)
    by (Some i) p e = place_device t d n i r (sym (ap (λ (x : RouterId). x.0) (same_Some (record { 0 = i }) r e))) p

-- the main table of a device is the device
pub main-table : (t : Topology) (d : RouterId) → d.0 < length t.routers → device_of t d ≡ d → router_of_table t d 254 ≡ Some d
main-table t d inside own =
    let long : length t.tables ≡ length t.routers = tables-long t in
    let below : d.0 < length t.tables = omega arith in
    let none : RouterTable = record { device = d; number = 254; replace = Key } in
    let x : RouterTable = get_or t.tables d.0 none in
    let there : slice_get t.tables d.0 ≡ Some x = slice_get-get_or t.tables d.0 none below in
    let device : x.device ≡ d = sym (device-at t d x there) ∙ own in
    let its : x.device.0 ≡ d.0 = ap (λ (r : RouterId). r.0) device in
    let number : x.number ≡ 254 = ⊎_elim
    (λ (main : (x.device.0 ≡ d.0) × (x.number ≡ 254)). main.1)
    (λ (vrf : IsVrf t.tables d.0 x). absurd (vrf.apart its))
    (table-cases t d.0 x there) in
    let passes : is_it x ≡ true = and_from (x.device.0 == d.0) (x.number == 254) (eq-eqb x.device.0 d.0 its) (eq-eqb x.number 254 number) in
    let place : position_or_len is_it t.tables ≡ d.0 = position_or_len_is is_it t.tables d.0 none (let l : d.0 ≤ length t.tables = omega arith in l) (λ k l. earlier k l) (λ l. passes) in
    let less : nat_lt (position_or_len is_it t.tables) (length t.tables) ≡ true = ap (λ n. nat_lt n (length t.tables)) place ∙ lt-ltb d.0 (length t.tables) below in
    let at : position is_it t.tables ≡ Some d.0 = ap (λ b. cond b (Some (position_or_len is_it t.tables)) None) less ∙ ap (λ n. Some n) place in
    ap (option_map (λ i. record { 0 = i })) at
  where
    is_it : RouterTable → Bool
    is_it y = (y.device.0 == d.0) && (y.number == 254)

    earlier : (k : ℕ) → k < d.0 → is_it (get_or t.tables k (record { device = d; number = 254; replace = Key })) ≡ false
    earlier k l =
        let none : RouterTable = record { device = d; number = 254; replace = Key } in
        let y : RouterTable = get_or t.tables k none in
        let long : length t.tables ≡ length t.routers = tables-long t in
        let below : k < length t.tables = omega arith in
        let there : slice_get t.tables k ≡ Some y = slice_get-get_or t.tables k none below in
        false_from_ne_true (is_it y) (λ h.
        let parts = and_parts (y.device.0 == d.0) (y.number == 254) h in
        let device : y.device.0 ≡ d.0 = eqb-true y.device.0 d.0 parts.0 in
        let number : y.number ≡ 254 = eqb-true y.number 254 parts.1 in
        ⊎_elim
        (λ (main : (y.device.0 ≡ k) × (y.number ≡ 254)). let at : y.device.0 ≡ k = main.0 in let z : ⊥ = omega arith in z)
        (λ (vrf : IsVrf t.tables k y). vrf.other number)
        (table-cases t k y there))
