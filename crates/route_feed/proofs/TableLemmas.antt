-- A table that stands at a place is the router of that place: no two routers are one table.
use Rattle.std.proofs.Common.{◌≡◌, ◌≢◌, ℕ, zero, suc, ◌<◌, ◌≤◌, ◌∙◌, ◌&&◌, ◌==◌, not, Bool, true, false, cond, nat_lt, Option, Some, None, List, [], ◌∷◌, length, get_or, ap, refl, sym, subst, arith}
use Rattle.std.specs.Prelude.{position, option_map, unwrap_or}
use Rattle.std.specs.List.{list_any, position_or_len}
use Rattle.std.proofs.lemmas.Bool.{and_parts, and_from, both_ways, eq-eqb, eqb-true, lt-ltb, ltb-true, not-true, false_from_ne_true}
use Rattle.std.proofs.lemmas.Option.{none-some}
use Rattle.std.proofs.lemmas.List.Folds.{list_any_at}
use Rattle.std.proofs.lemmas.List.Sums.{position_or_len_is}
use Rattle.base.specs.Lists.{all_differ}
use Rattle.base.specs.declared.ids.RouterId.{RouterId}
use Rattle.dn_model.specs.Tables.{device_of, router_of_table, vrf_of}
use Rattle.dn_model.proofs.DeviceTables.{device-own, table-device}
use Rattle.dn_model.specs.Topology.{same_table}
use Rattle.dn_model.specs.declared.topology.RouterTable.{RouterTable}
use Rattle.dn_model.specs.declared.topology.Topology.{Topology}

-- whether a table is that of a device with this number
abbrev is_table : RouterId → ℕ → RouterTable → Bool
is_table d n x = (x.device.0 == d.0) && (x.number == n)

both-tables : (d : RouterId) (n : ℕ) (x y : RouterTable) → is_table d n x ≡ true → is_table d n y ≡ true → same_table x y ≡ true
both-tables d n x y h k =
    let a = and_parts (x.device.0 == d.0) (x.number == n) h in
    let b = and_parts (y.device.0 == d.0) (y.number == n) k in
    and_from (x.device.0 == y.device.0) (x.number == y.number)
    (eq-eqb x.device.0 y.device.0 (eqb-true x.device.0 d.0 a.0 ∙ sym (eqb-true y.device.0 d.0 b.0)))
    (eq-eqb x.number y.number (eqb-true x.number n a.1 ∙ sym (eqb-true y.number n b.1)))

-- no earlier table is the same
none-earlier : (d : RouterId) (n : ℕ) (ts : List RouterTable) (k i : ℕ) (e : RouterTable) → all_differ same_table ts ≡ true → k < i → i < length ts →
    is_table d n (get_or ts i e) ≡ true → is_table d n (get_or ts k e) ≡ false
none-earlier d n [] k i e differ l m h = absurd (omega arith)
none-earlier d n (t ∷ ts) k zero e differ l m h = absurd (omega arith)
none-earlier d n (t ∷ ts) zero (suc i) e differ l m h =
    let parts = and_parts (not (list_any (same_table t) ts)) (all_differ same_table ts) differ in
    let inside : i < length ts = omega arith in
    false_from_ne_true (is_table d n t) (λ here.
    both_ways (list_any (same_table t) ts) (not-true (list_any (same_table t) ts) parts.0)
    (list_any_at (same_table t) ts i e inside (both-tables d n t (get_or ts i e) here h)))
none-earlier d n (t ∷ ts) (suc k) (suc i) e differ l m h =
    let parts = and_parts (not (list_any (same_table t) ts)) (all_differ same_table ts) differ in
    none-earlier d n ts k i e parts.1 (omega arith) (omega arith) h

tables-differ : (t : Topology) → all_differ same_table t.tables ≡ true
tables-differ t =
    let first = λ (x y : Bool) (h : (x && y) ≡ true). (and_parts x y h).0 in
    let tables = first _ _ (first _ _ (first _ _ (first _ _ (first _ _ (first _ _ (first _ _ (first _ _ (first _ _ t.sound)))))))) in
    (and_parts _ _ tables).1

place-of : (d : RouterId) (n : ℕ) (ts : List RouterTable) (i : ℕ) (x : RouterTable) → all_differ same_table ts ≡ true → i < length ts →
    is_table d n (get_or ts i x) ≡ true → position (is_table d n) ts ≡ Some i
place-of d n ts i x differ inside is =
    let place : position_or_len (is_table d n) ts ≡ i =
    position_or_len_is (is_table d n) ts i x (let l : i ≤ length ts = omega arith in l) (λ k l. none-earlier d n ts k i x differ l inside is) (λ l. is) in
    let less : nat_lt (position_or_len (is_table d n) ts) (length ts) ≡ true = ap (λ m. nat_lt m (length ts)) place ∙ lt-ltb i (length ts) inside in
    ap (λ b. cond b (Some (position_or_len (is_table d n) ts)) None) less ∙ ap (λ m. Some m) place

-- the table at a place is the VRF of its device and number
pub vrf-at : (t : Topology) (d : RouterId) (n i : ℕ) (ts : List RouterTable) (x : RouterTable) → n ≢ 254 → ts ≡ t.tables → nat_lt i (length ts) ≡ true → x ≡ get_or ts i x →
    x.device.0 ≡ d.0 → x.number ≡ n → vrf_of t d n ≡ Some (record { 0 = i })
vrf-at t d n i ts x other all inside at device number =
    let is : is_table d n (get_or ts i x) ≡ true =
    ap (is_table d n) (sym at) ∙ and_from (x.device.0 == d.0) (x.number == n) (eq-eqb x.device.0 d.0 device) (eq-eqb x.number n number) in
    let none : (n == 254) ≡ false = false_from_ne_true (n == 254) (λ h. other (eqb-true n 254 h)) in
    let place : position (is_table d n) ts ≡ Some i =
    place-of d n ts i x (subst (λ (xs : List RouterTable). all_differ same_table xs ≡ true) (sym all) (tables-differ t)) (ltb-true i (length ts) inside) is in
    ap (λ b. cond b None (option_map (λ m. record { 0 = m }) (position (is_table d n) t.tables))) none
    ∙ ap (option_map (λ m. record { 0 = m })) (subst (λ (xs : List RouterTable). position (is_table d n) xs ≡ Some i) all place)

-- the router that a route of a device's feed belongs to is the device or one of its VRFs
pub router-own : (t : Topology) (d : RouterId) (n : ℕ) (o : Option RouterId) → o ≡ vrf_of t d n → device_of t (unwrap_or o d) ≡ device_of t d
router-own t d n None e = refl
router-own t d n (Some r) e = by (n == 254) refl e
  where
    by : (b : Bool) → (n == 254) ≡ b → Some r ≡ cond b None (router_of_table t d n) → device_of t r ≡ device_of t d
    by true is e = absurd (none-some r (sym e))
    by false is e =
        let of : device_of t r ≡ d = table-device t d r n (sym e) in
        of ∙ sym (sym (ap (device_of t) of) ∙ device-own t r ∙ of)
