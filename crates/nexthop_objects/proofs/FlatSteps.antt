-- What a flat history makes of a router's routes, entry by entry.
use Rattle.std.proofs.Common.{◌≡◌, ℕ, zero, suc, ◌+◌, ◌<◌, ◌≤◌, ◌∙◌, ◌||◌, ◌==◌, Bool, true, false, cond, Some, None, List, [], ◌∷◌, ◌++◌, length, fold, map, refl, ap, sym, subst, ⊎_elim, arith}
use Rattle.std.specs.Prelude.{unwrap_or}
use Rattle.std.specs.List.{Contains, flat_map, list_any}
use Rattle.std.specs.Map.{lookup}
use Rattle.std.proofs.lemmas.Bool.{and_parts, both_ways, cases_Bool, cases_lt, eq-eqb, eqb-true}
use Rattle.std.proofs.lemmas.List.{append-nil}
use Rattle.std.proofs.lemmas.List.Elements.{filter_map-append}
use Rattle.std.proofs.lemmas.List.Folds.{list_any-append}
use Rattle.std.proofs.lemmas.List.Sums.{fold-append}
use Rattle.std.proofs.lemmas.Option.{slice_get_past}
use Rattle.base.specs.declared.ids.RouterId.{RouterId}
use Rattle.base.specs.declared.target.Target.{Target}
use Rattle.base.specs.declared.target.Target.TheVariants.{NoRoute}
use Rattle.base.proofs.DeltaParts.{same-router}
use Rattle.base.proofs.Elements.{contains-cases, contains-filter, contains-here, contains-none, contains-there, filter-contains}
use Rattle.dn_model.specs.Entry.{object_op, op_on}
use Rattle.dn_model.specs.LastSays.{last_made, names_object, object_made}
use Rattle.dn_model.specs.Table.{after_object, after_op, followed, is_by, is_of_prefix, objects, ops_on, table}
use Rattle.dn_model.specs.Tables.{device_of, replaces_prefix}
use Rattle.dn_model.specs.declared.entry.Entry.{Entry}
use Rattle.dn_model.specs.declared.entry.Entry.TheVariants.{Route}
use Rattle.dn_model.specs.declared.entry.Op.{Op}
use Rattle.dn_model.specs.declared.entry.Op.TheVariants as ops
use Rattle.dn_model.specs.declared.entry.Route as route
use Rattle.dn_model.specs.declared.topology.RouterTable.{RouterTable}
use Rattle.dn_model.specs.declared.topology.Topology.{Topology}
use Rattle.dn_model.specs.declared.way.Way.{Way}
use Rattle.dn_model.specs.declared.way.Way.TheVariants.{Straight, By}
use Rattle.dn_model.proofs.Keys.{eqb-turned, key-once, table-keys}
use Rattle.dn_model.proofs.LastSays.{object-last}
use Rattle.dn_model.proofs.Nowhere.{tables-long}
use Rattle.dn_model.proofs.PrefixOnce.{prefix-once}
use Rattle.dn_model.proofs.SameRoutes.{SameRoutes, same-after, same-trans}
use Rattle.nexthop_objects.specs.Flat.{routers_from, routers_of}
use Rattle.nexthop_objects.proofs.FlatRoutes.{AreAlike, AreApart, differ-once, prefix-turned}

-- ---- histories with more entries

pub ops-append : (t : Topology) (r : RouterId) (xs ys : List Entry) → ops_on t r (xs ++ ys) ≡ ops_on t r xs ++ ops_on t r ys
ops-append t r xs ys = filter_map-append (op_on t r) xs ys

pub table-append : (t : Topology) (r : RouterId) (xs ys : List Entry) → table t (xs ++ ys) r ≡ fold (after_op (replaces_prefix t r)) (table t xs r) (ops_on t r ys)
table-append t r xs ys = ap (fold (after_op (replaces_prefix t r)) []) (ops-append t r xs ys) ∙ fold-append (after_op (replaces_prefix t r)) [] (ops_on t r xs) (ops_on t r ys)

one-op : (t : Topology) (r : RouterId) (e : Entry) (op : Op) → op_on t r e ≡ Some op → ops_on t r (e ∷ []) ≡ op ∷ []
one-op t r e op h = rw h refl

no-op : (t : Topology) (r : RouterId) (e : Entry) → op_on t r e ≡ None → ops_on t r (e ∷ []) ≡ []
no-op t r e h = rw h refl

pub objects-own : (t : Topology) (history : List Entry) (e : Entry) (r : RouterId) (op : Op) → op_on t (device_of t r) e ≡ Some op → objects t (history ++ e ∷ []) r ≡ after_object (objects t history r) op
objects-own t history e r op h =
    ap (fold after_object []) (ops-append t (device_of t r) history (e ∷ []) ∙ ap (λ all. ops_on t (device_of t r) history ++ all) (one-op t (device_of t r) e op h))
    ∙ fold-append after_object [] (ops_on t (device_of t r) history) (op ∷ [])

pub objects-other : (t : Topology) (history : List Entry) (e : Entry) (r : RouterId) → op_on t (device_of t r) e ≡ None → objects t (history ++ e ∷ []) r ≡ objects t history r
objects-other t history e r h =
    ap (fold after_object []) (ops-append t (device_of t r) history (e ∷ []) ∙ ap (λ all. ops_on t (device_of t r) history ++ all) (no-op t (device_of t r) e h) ∙ append-nil (ops_on t (device_of t r) history))

-- ---- what objects do after one more update

made-push : (id : ℕ) (all : List Op) (op : Op) → last_made id (all ++ op ∷ []) ≡ cond (names_object id op) (object_made op) (last_made id all)
made-push id [] op = refl
made-push id (x ∷ xs) op = by (list_any (names_object id) xs) (names_object id op) refl refl (made-push id xs op) (list_any-append (names_object id) xs (op ∷ []))
  where
    by : (a b : Bool) → list_any (names_object id) xs ≡ a → names_object id op ≡ b → last_made id (xs ++ op ∷ []) ≡ cond (names_object id op) (object_made op) (last_made id xs)
        → list_any (names_object id) (xs ++ op ∷ []) ≡ (list_any (names_object id) xs || (names_object id op || false))
        → last_made id ((x ∷ xs) ++ op ∷ []) ≡ cond (names_object id op) (object_made op) (last_made id (x ∷ xs))
    by true true f g h k = let any : list_any (names_object id) (xs ++ op ∷ []) ≡ true = rw f at k in let is : last_made id (xs ++ op ∷ []) ≡ object_made op = rw g at h in rw (any, g) is
    by true false f g h k = let any : list_any (names_object id) (xs ++ op ∷ []) ≡ true = rw f at k in let is : last_made id (xs ++ op ∷ []) ≡ last_made id xs = rw g at h in rw (any, g, f) is
    by false true f g h k = let any : list_any (names_object id) (xs ++ op ∷ []) ≡ true = rw (f, g) at k in let is : last_made id (xs ++ op ∷ []) ≡ object_made op = rw g at h in rw (any, g) is
    by false false f g h k = let any : list_any (names_object id) (xs ++ op ∷ []) ≡ false = rw (f, g) at k in rw (any, g, f) refl

pub object-push : (t : Topology) (history : List Entry) (e : Entry) (r : RouterId) (op : Op) (id : ℕ) → op_on t (device_of t r) e ≡ Some op
    → lookup (λ i. i == id) (objects t (history ++ e ∷ []) r) ≡ cond (names_object id op) (object_made op) (lookup (λ i. i == id) (objects t history r))
object-push t history e r op id h =
    object-last t (history ++ e ∷ []) r id
    ∙ ap (last_made id) (ops-append t (device_of t r) history (e ∷ []) ∙ ap (λ all. ops_on t (device_of t r) history ++ all) (one-op t (device_of t r) e op h))
    ∙ made-push id (ops_on t (device_of t r) history) op
    ∙ ap (λ o. cond (names_object id op) (object_made op) o) (sym (object-last t history r id))

-- an update of an object makes no difference to what is not by it
pub alike-after : (t : Topology) (history : List Entry) (e : Entry) (r : RouterId) (op : Op) (id : ℕ) → op_on t (device_of t r) e ≡ Some op → ((i : ℕ) → names_object i op ≡ (id == i)) → AreAlike id (objects t history r) (objects t (history ++ e ∷ []) r)
alike-after t history e r op id h names (Straight v) other = refl
alike-after t history e r op id h names (By i) other =
    let off : names_object i op ≡ false = names i ∙ eqb-turned id i ∙ other in
    let same : lookup (λ j. j == i) (objects t (history ++ e ∷ []) r) ≡ lookup (λ j. j == i) (objects t history r) = rw off at (object-push t history e r op i h) in
    ap (λ o. unwrap_or o NoRoute) (sym same)

pub does-after : (t : Topology) (history : List Entry) (e : Entry) (r : RouterId) (id : ℕ) (v : Target) → op_on t (device_of t r) e ≡ Some (ops.Object id v) → (w : Way) → is_by id w ≡ true → followed (objects t (history ++ e ∷ []) r) w ≡ v
does-after t history e r id v h (Straight u) by = absurd (both_ways false refl by)
does-after t history e r id v h (By i) by =
    let on : (id == i) ≡ true = eqb-turned id i ∙ by in
    let is : lookup (λ j. j == i) (objects t (history ++ e ∷ []) r) ≡ Some v = rw on at (object-push t history e r (ops.Object id v) i h) in
    ap (λ o. unwrap_or o NoRoute) is

-- ---- tables

-- of a table's routes each replaces itself alone
pub table-apart : (t : Topology) (history : List Entry) (r : RouterId) → AreApart (replaces_prefix t r) (table t history r)
table-apart t history r = by (replaces_prefix t r) refl
  where
    by : (b : Bool) → replaces_prefix t r ≡ b → AreApart b (table t history r)
    by true on x y i j h = differ-once (λ a c. is_of_prefix a.prefix c) prefix-turned (table t history r) x y (prefix-once t history r on) i j (and_parts (is_of_prefix x.prefix y) true h).0
    by false on x y i j h = key-once (table t history r) x y (table-keys t history r) i j h

pub table-apart_keys : (t : Topology) (history : List Entry) (r : RouterId) → AreApart false (table t history r)
table-apart_keys t history r x y i j h = key-once (table t history r) x y (table-keys t history r) i j h

same-fold : (alone : Bool) (xs ys : List route.Route) (all : List Op) → SameRoutes xs ys → SameRoutes (fold (after_op alone) xs all) (fold (after_op alone) ys all)
same-fold alone xs ys [] h = h
same-fold alone xs ys (op ∷ all) h = same-fold alone (after_op alone xs op) (after_op alone ys op) all (same-after alone xs ys op h)

-- ---- updates of routes, router by router

-- updates of routes of one router are updates to it alone
pub told : (t : Topology) (r q : RouterId) (n : ℕ) (f : route.Route → Op) (xs : List route.Route) → ((x : route.Route) → object_op (f x) ≡ None) → ops_on t r (map (λ x. Route q n (f x)) xs) ≡ cond (q.0 == r.0) (map f xs) []
told t r q n f xs none = by (q.0 == r.0) refl xs
  where
    by : (b : Bool) → (q.0 == r.0) ≡ b → (xs : List route.Route) → ops_on t r (map (λ x. Route q n (f x)) xs) ≡ cond b (map f xs) []
    by true e [] = refl
    by true e (x ∷ xs) = let own : op_on t r (Route q n (f x)) ≡ Some (f x) = rw e refl in rw own (ap (λ all. f x ∷ all) (by true e xs))
    by false e [] = refl
    by false e (x ∷ xs) =
        let other : op_on t r (Route q n (f x)) ≡ None = rw e (⊎_elim (λ (y : (q.0 == (device_of t r).0) ≡ true). rw y (none x)) (λ (z : (q.0 == (device_of t r).0) ≡ false). rw z refl) (cases_Bool (q.0 == (device_of t r).0))) in
        rw other (by false e xs)

module _ (t : Topology) (r : RouterId) (alone : Bool) (g : RouterId → List Entry) (all : List Op) (tells : (q : RouterId) → ops_on t r (g q) ≡ cond (q.0 == r.0) all []) where
  one-router : (q : RouterId) (qs : List RouterId) (F : List route.Route) → fold (after_op alone) F (ops_on t r (flat_map g (q ∷ qs))) ≡ fold (after_op alone) (fold (after_op alone) F (cond (q.0 == r.0) all [])) (ops_on t r (flat_map g qs))
  one-router q qs F = ap (fold (after_op alone) F) (ops-append t r (g q) (flat_map g qs) ∙ ap (λ xs. xs ++ ops_on t r (flat_map g qs)) (tells q)) ∙ fold-append (after_op alone) F (cond (q.0 == r.0) all []) (ops_on t r (flat_map g qs))

  -- routers that aren't this one tell it nothing
  pub none-told : (qs : List RouterId) → ((q : RouterId) → Contains qs q → q.0 ≡ r.0 → ⊥) → ops_on t r (flat_map g qs) ≡ []
  none-told [] other = refl
  none-told (q ∷ qs) other = ⊎_elim
      (λ (y : (q.0 == r.0) ≡ true). absurd (other q (contains-here q qs) (eqb-true q.0 r.0 y)))
      (λ (n : (q.0 == r.0) ≡ false).
      let nothing : ops_on t r (g q) ≡ [] = tells q ∙ ap (λ b. cond b all []) n in
      ops-append t r (g q) (flat_map g qs) ∙ ap (λ xs. xs ++ ops_on t r (flat_map g qs)) nothing ∙ none-told qs (λ p i. other p (contains-there q p qs i)))
      (cases_Bool (q.0 == r.0))

  -- where the updates are made again, nothing changes
  again-told : (B : List route.Route) → SameRoutes (fold (after_op alone) B all) B → (qs : List RouterId) (F : List route.Route) → SameRoutes F B → SameRoutes (fold (after_op alone) F (ops_on t r (flat_map g qs))) B
  again-told B again [] F h = h
  again-told B again (q ∷ qs) F h =
      subst (λ xs. SameRoutes xs B) (sym (one-router q qs F))
      (again-told B again qs (fold (after_op alone) F (cond (q.0 == r.0) all []))
      (⊎_elim
      (λ (y : (q.0 == r.0) ≡ true). rw y (same-trans (fold (after_op alone) F all) (fold (after_op alone) B all) B (same-fold alone F B all h) again))
      (λ (n : (q.0 == r.0) ≡ false). rw n h)
      (cases_Bool (q.0 == r.0))))

  -- among routers that have this one the updates are made once or more
  pub all-told : (A B : List route.Route) → SameRoutes (fold (after_op alone) A all) B → SameRoutes (fold (after_op alone) B all) B → (qs : List RouterId) (F : List route.Route) → SameRoutes F A → Contains qs r → SameRoutes (fold (after_op alone) F (ops_on t r (flat_map g qs))) B
  all-told A B first again [] F h i = absurd (contains-none r i)
  all-told A B first again (q ∷ qs) F h i =
      subst (λ xs. SameRoutes xs B) (sym (one-router q qs F))
      (⊎_elim
      (λ (y : (q.0 == r.0) ≡ true). again-told B again qs (fold (after_op alone) F (cond (q.0 == r.0) all []))
      (rw y (same-trans (fold (after_op alone) F all) (fold (after_op alone) A all) B (same-fold alone F A all h) first)))
      (λ (n : (q.0 == r.0) ≡ false). all-told A B first again qs (fold (after_op alone) F (cond (q.0 == r.0) all [])) (rw n h)
      (⊎_elim
      (λ (same : q ≡ r). absurd (both_ways (q.0 == r.0) n (eq-eqb q.0 r.0 (ap (λ (s : RouterId). s.0) same))))
      (λ (rest : Contains qs r). rest)
      (contains-cases q r qs i)))
      (cases_Bool (q.0 == r.0)))

-- ---- the routers of a device

routers-have : (i k : ℕ) (xs : List RouterTable) (r : RouterId) → k < length xs → r.0 ≡ i + k → Contains (routers_from i xs) r
routers-have i k [] r l e = absurd (let z : ⊥ = omega arith in z)
routers-have i zero (x ∷ xs) r l e =
    let P : RouterId → Type 0 = λ s. Contains (record { 0 = i } ∷ routers_from (i + 1) xs) s in
    let at : i ≡ r.0 = omega arith in
    subst P (same-router (record { 0 = i }) r at) (contains-here (record { 0 = i }) (routers_from (i + 1) xs))
routers-have i (suc k) (x ∷ xs) r l e =
    let at : r.0 ≡ i + 1 + k = omega arith in
    let low : k < length xs = omega arith in
    contains-there (record { 0 = i }) r (routers_from (i + 1) xs) (routers-have (i + 1) k xs r low at)

-- the routers of a device are those that it is the device of, where it is a router of the network
pub has-router : (t : Topology) (d r : RouterId) → d.0 < length t.routers → device_of t r ≡ d → Contains (routers_of t d) r
has-router t d r inside own =
    let long : length t.tables ≡ length t.routers = tables-long t in
    let low : r.0 < length t.tables = ⊎_elim
    (λ (l : r.0 < length t.tables). l)
    (λ (l : length t.tables ≤ r.0).
    let itself : device_of t r ≡ r = rw (slice_get_past t.tables r.0 l) refl in
    let is : r.0 ≡ d.0 = ap (λ (s : RouterId). s.0) (sym itself ∙ own) in
    omega arith)
    (cases_lt r.0 (length t.tables)) in
    let at : r.0 ≡ 0 + r.0 = omega arith in
    contains-filter (λ q. (device_of t q).0 == d.0) r (routers_from 0 t.tables) (routers-have 0 r.0 t.tables r low at) (eq-eqb (device_of t r).0 d.0 (ap (λ (s : RouterId). s.0) own))

pub router-has : (t : Topology) (d r q : RouterId) → (d.0 ≡ (device_of t r).0 → ⊥) → Contains (routers_of t d) q → q.0 ≡ r.0 → ⊥
router-has t d r q apart i e =
    let is : device_of t q ≡ device_of t r = ap (device_of t) (same-router q r e) in
    let of : (device_of t q).0 ≡ d.0 = eqb-true (device_of t q).0 d.0 (filter-contains (λ s. (device_of t s).0 == d.0) q (routers_from 0 t.tables) i).1 in
    apart (sym of ∙ ap (λ (s : RouterId). s.0) is)
