-- What an entry of a next-hop object comes to: the routes by it, in its device and that's VRFs, are cleared or moved.
use Rattle.std.proofs.Common.{◌≡◌, ℕ, ◌∙◌, ◌&&◌, ◌||◌, ◌==◌, not, Bool, true, false, cond, Option, Some, None, List, [], ◌∷◌, ◌++◌, filter, fold, refl, ap, sym, subst, ⊎_elim}
use Rattle.std.specs.List.{Contains, list_any}
use Rattle.std.proofs.lemmas.Bool.{and_from, and_parts, both_ways, cases_Bool, eq-eqb, eqb-true, false_from_ne_true, not-true, or_from, or_left, or_right}
use Rattle.std.proofs.lemmas.List.Sums.{fold-append}
use Rattle.base.specs.Cidr.{Cidr}
use Rattle.base.specs.declared.ids.RouterId.{RouterId}
use Rattle.base.specs.declared.target.Target.{Target}
use Rattle.base.proofs.DeltaParts.{same-router}
use Rattle.base.proofs.Elements.{contains-cases, contains-here, contains-none, contains-there, filter-contains}
use Rattle.base.proofs.Filtered.{filter-whole}
use Rattle.dn_model.specs.Entry.{object_op, op_on}
use Rattle.dn_model.specs.Table.{Object as ObjectIs, after_object, after_op, best, followed, has_key, is_by, objects, ops_on, table, target_after, way_in, way_or_none, HasKeysOnce, IsBest}
use Rattle.dn_model.specs.Tables.{device_of, replaces_prefix}
use Rattle.dn_model.specs.declared.entry.Entry.{Entry}
use Rattle.dn_model.specs.declared.entry.Entry.TheVariants.{Route}
use Rattle.dn_model.specs.declared.entry.Op.{Op}
use Rattle.dn_model.specs.declared.entry.Op.TheVariants as ops
use Rattle.dn_model.specs.declared.entry.Route as route
use Rattle.dn_model.specs.declared.topology.Topology.{Topology}
use Rattle.dn_model.specs.declared.way.Way.{Way}
use Rattle.dn_model.proofs.Best.{best-is}
use Rattle.dn_model.proofs.DeviceTables.{device-own}
use Rattle.dn_model.proofs.Keys.{eqb-turned, key-once, table-keys}
use Rattle.dn_model.proofs.Tables.{op-other, op-own, table-push_other, table-push_own}
use Rattle.nexthop_objects.specs.Book.{clears, AreUsersAfter}
use Rattle.nexthop_objects.specs.Objects.{User, is_same_user}
use Rattle.nexthop_objects.proofs.FlatSteps.{alike-after, does-after, objects-other, ops-append, table-append}

-- ---- lists

filter-same : {X : Type 0} (p q : X → Bool) (xs : List X) → ((x : X) → Contains xs x → p x ≡ q x) → filter p xs ≡ filter q xs
filter-same {X} p q [] h = refl
filter-same {X} p q (x ∷ xs) h =
    ap (λ b. cond b (x ∷ filter p xs) (filter p xs)) (h x (contains-here x xs)) ∙ ap (λ ys. cond (q x) (x ∷ ys) ys) (filter-same p q xs (λ y i. h y (contains-there x y xs i)))

filter-twice : {X : Type 0} (p q : X → Bool) (xs : List X) → filter p (filter q xs) ≡ filter (λ x. q x && p x) xs
filter-twice {X} p q [] = refl
filter-twice {X} p q (x ∷ xs) = ⊎_elim
    (λ (y : q x ≡ true). rw y (ap (λ ys. cond (p x) (x ∷ ys) ys) (filter-twice p q xs)))
    (λ (n : q x ≡ false). rw n (filter-twice p q xs))
    (cases_Bool (q x))

any-same : {X : Type 0} (p q : X → Bool) (xs : List X) → ((x : X) → p x ≡ q x) → list_any p xs ≡ list_any q xs
any-same {X} p q [] h = refl
any-same {X} p q (x ∷ xs) h = ap (λ b. b || list_any p xs) (h x) ∙ ap (λ b. q x || b) (any-same p q xs h)

any-none : {X : Type 0} (p : X → Bool) (xs : List X) → ((x : X) → Contains xs x → p x ≡ false) → list_any p xs ≡ false
any-none {X} p [] h = refl
any-none {X} p (x ∷ xs) h = or_from (p x) (list_any p xs) (h x (contains-here x xs)) (any-none p xs (λ y i. h y (contains-there x y xs i)))

any-one : {X : Type 0} (p : X → Bool) (x : X) (xs : List X) → Contains xs x → p x ≡ true → list_any p xs ≡ true
any-one {X} p x [] i e = absurd (contains-none x i)
any-one {X} p x (y ∷ ys) i e = ⊎_elim
    (λ (same : y ≡ x). or_left (p y) (list_any p ys) (ap p same ∙ e))
    (λ (rest : Contains ys x). or_right (p y) (list_any p ys) (any-one p x ys rest e))
    (contains-cases y x ys i)

-- ---- tests

not-or : (a b : Bool) → (not a && not b) ≡ not (a || b)
not-or true b = refl
not-or false b = refl

four : (a b c d : Bool) → (a && ((b && c) && d)) ≡ (((a && b) && c) && d)
four false b c d = refl
four true b c d = refl

own-key : (x : route.Route) → has_key x.prefix x.metric x ≡ true
own-key x = let base : (x.prefix.base == x.prefix.base) ≡ true = eq-eqb x.prefix.base x.prefix.base refl in
    let len : (x.prefix.len == x.prefix.len) ≡ true = eq-eqb x.prefix.len x.prefix.len refl in
    let metric : (x.metric == x.metric) ≡ true = eq-eqb x.metric x.metric refl in
    and_from ((x.prefix.base == x.prefix.base) && (x.prefix.len == x.prefix.len)) (x.metric == x.metric) (and_from (x.prefix.base == x.prefix.base) (x.prefix.len == x.prefix.len) base len) metric

-- whether a user has a route's router and key
user-of : (r : RouterId) (x : route.Route) (w : User) → ((w.0.0 == r.0) && has_key w.1 w.2 x) ≡ is_same_user (r, x.prefix, x.metric) w
user-of r x w = ap (λ b. b && has_key w.1 w.2 x) (eqb-turned w.0.0 r.0) ∙ four (r.0 == w.0.0) (x.prefix.base == w.1.base) (x.prefix.len == w.1.len) (x.metric == w.2)

-- of a table's routes with one key there is one
any-key : (xs : List route.Route) (x : route.Route) (q : route.Route → Bool) → HasKeysOnce xs → Contains xs x → list_any (λ y. has_key x.prefix x.metric y && q y) xs ≡ q x
any-key xs x q once i = ⊎_elim
    (λ (y : q x ≡ true). any-one (λ z. has_key x.prefix x.metric z && q z) x xs i (and_from (has_key x.prefix x.metric x) (q x) (own-key x) y) ∙ sym y)
    (λ (n : q x ≡ false).
    any-none (λ z. has_key x.prefix x.metric z && q z) xs
    (λ z j. false_from_ne_true (has_key x.prefix x.metric z && q z) (λ both.
    let parts : (has_key x.prefix x.metric z ≡ true) × (q z ≡ true) = and_parts (has_key x.prefix x.metric z) (q z) both in
    both_ways (q x) n (ap q (key-once xs x z once i j parts.0) ∙ parts.1)))
    ∙ sym n)
    (cases_Bool (q x))

-- ---- routes that are cleared

abbrev is_cleared : RouterId → List User → route.Route → Bool
is_cleared r users x = list_any (λ (u : User). (u.0.0 == r.0) && has_key u.1 u.2 x) users

clear-told : (t : Topology) (r q : RouterId) (n : ℕ) (p : Cidr) (m : Option ℕ) (es : List Entry) → ops_on t r (Route q n (ops.Clear p m) ∷ es) ≡ cond (q.0 == r.0) (ops.Clear p m ∷ ops_on t r es) (ops_on t r es)
clear-told t r q n p m es = ⊎_elim
    (λ (y : (q.0 == r.0) ≡ true). rw y refl)
    (λ (z : (q.0 == r.0) ≡ false). rw z (⊎_elim (λ (y : (q.0 == (device_of t r).0) ≡ true). rw y refl) (λ (w : (q.0 == (device_of t r).0) ≡ false). rw w refl) (cases_Bool (q.0 == (device_of t r).0))))
    (cases_Bool (q.0 == r.0))

cleared : (t : Topology) (r : RouterId) (alone : Bool) (n : ℕ) (users : List User) (xs : List route.Route) → fold (after_op alone) xs (ops_on t r (clears n users)) ≡ filter (λ x. not (is_cleared r users x)) xs
cleared t r alone n [] xs = sym (filter-whole (λ x. true) xs (λ x i. refl))
cleared t r alone n (u ∷ us) xs =
    let P : Bool → Type 0 = λ b. fold (after_op alone) xs (cond b (ops.Clear u.1 (Some u.2) ∷ ops_on t r (clears n us)) (ops_on t r (clears n us))) ≡ filter (λ x. not ((b && has_key u.1 u.2 x) || is_cleared r us x)) xs in
    ap (fold (after_op alone) xs) (clear-told t r u.0 n u.1 (Some u.2) (clears n us))
    ∙ ⊎_elim
    (λ (y : (u.0.0 == r.0) ≡ true).
    subst P (sym y)
    (cleared t r alone n us (filter (λ x. not (has_key u.1 u.2 x)) xs)
    ∙ filter-twice (λ x. not (is_cleared r us x)) (λ x. not (has_key u.1 u.2 x)) xs
    ∙ filter-same (λ x. not (has_key u.1 u.2 x) && not (is_cleared r us x)) (λ x. not (has_key u.1 u.2 x || is_cleared r us x)) xs (λ x i. not-or (has_key u.1 u.2 x) (is_cleared r us x))))
    (λ (z : (u.0.0 == r.0) ≡ false). subst P (sym z) (cleared t r alone n us xs))
    (cases_Bool (u.0.0 == r.0))

-- the routes of an object's users are those by the object
cleared-by : (t : Topology) (history : List Entry) (d r : RouterId) (id : ℕ) (users : List User) (x : route.Route) → AreUsersAfter t history d id users → Contains (table t history r) x
    → is_cleared r users x ≡ (((device_of t r).0 == d.0) && is_by id x.way)
cleared-by t history d r id users x exact i =
    any-same (λ (w : User). (w.0.0 == r.0) && has_key w.1 w.2 x) (is_same_user (r, x.prefix, x.metric)) users (user-of r x)
    ∙ exact (r, x.prefix, x.metric)
    ∙ ap (λ b. ((device_of t r).0 == d.0) && b) (any-key (table t history r) x (λ y. is_by id y.way) (table-keys t history r) i)

-- ---- an object that goes away

not-own : (t : Topology) (r d : RouterId) → device_of t d ≡ d → ((device_of t r).0 == d.0) ≡ false → d.0 ≡ (device_of t r).0 → ⊥
not-own t r d device n e = both_ways ((device_of t r).0 == d.0) n (eq-eqb (device_of t r).0 d.0 (sym e))

tells : (t : Topology) (r d : RouterId) (n : ℕ) (op : Op) → object_op op ≡ Some op → d.0 ≡ (device_of t r).0 → op_on t r (Route d n op) ≡ Some op
tells t r d n op is e = ⊎_elim
    (λ (y : (d.0 == r.0) ≡ true). op-own t r d n op (eqb-true d.0 r.0 y))
    (λ (z : (d.0 == r.0) ≡ false). rw (z, eq-eqb d.0 (device_of t r).0 e) is)
    (cases_Bool (d.0 == r.0))

tells-none : (t : Topology) (r d : RouterId) (n : ℕ) (op : Op) → device_of t d ≡ d → (d.0 ≡ (device_of t r).0 → ⊥) → op_on t r (Route d n op) ≡ None
tells-none t r d n op device apart = op-other t r d n op (λ e. apart (ap (λ (s : RouterId). s.0) (sym device ∙ ap (device_of t) (same-router d r e)))) apart

pub no-object-table : (t : Topology) (history : List Entry) (d r : RouterId) (n id : ℕ) → device_of t d ≡ d
    → table t (history ++ Route d n (ops.NoObject id) ∷ []) r ≡ filter (λ x. not (((device_of t r).0 == d.0) && is_by id x.way)) (table t history r)
no-object-table t history d r n id device =
    let e : Entry = Route d n (ops.NoObject id) in
    let P : Bool → Type 0 = λ b. table t (history ++ e ∷ []) r ≡ filter (λ x. not (b && is_by id x.way)) (table t history r) in
    ⊎_elim
    (λ (y : ((device_of t r).0 == d.0) ≡ true).
    subst P (sym y) (table-push_own t history e r (ops.NoObject id) (tells t r d n (ops.NoObject id) refl (sym (eqb-true (device_of t r).0 d.0 y)))))
    (λ (z : ((device_of t r).0 == d.0) ≡ false).
    subst P (sym z)
    (table-push_other t history e r (tells-none t r d n (ops.NoObject id) device (not-own t r d device z))
    ∙ sym (filter-whole (λ x. true) (table t history r) (λ x i. refl))))
    (cases_Bool ((device_of t r).0 == d.0))

-- it leaves the tables that a clear of each route by it leaves
pub no_object_clears : (t : Topology) (history : List Entry) (d : RouterId) (n id : ℕ) (users : List User) → device_of t d ≡ d → AreUsersAfter t history d id users → (r : RouterId)
    → table t (history ++ Route d n (ops.NoObject id) ∷ []) r ≡ table t (history ++ clears n users) r
no_object_clears t history d n id users device exact r =
    let xs : List route.Route = table t history r in
    no-object-table t history d r n id device
    ∙ filter-same (λ x. not (((device_of t r).0 == d.0) && is_by id x.way)) (λ x. not (is_cleared r users x)) xs (λ x i. ap not (sym (cleared-by t history d r id users x exact i)))
    ∙ sym (table-append t r history (clears n users) ∙ cleared t r (replaces_prefix t r) n users xs)

pub none-device : (t : Topology) (r d : RouterId) (n : ℕ) (op : Op) → (d.0 ≡ (device_of t r).0 → ⊥) → op_on t (device_of t r) (Route d n op) ≡ None
none-device t r d n op apart = op-other t (device_of t r) d n op apart (λ e. apart (e ∙ ap (λ (s : RouterId). s.0) (device-own t r)))

objects-cleared : (t : Topology) (r : RouterId) (n : ℕ) (users : List User) (os : List ObjectIs) → fold after_object os (ops_on t r (clears n users)) ≡ os
objects-cleared t r n [] os = refl
objects-cleared t r n (u ∷ us) os =
    let P : Bool → Type 0 = λ b. fold after_object os (cond b (ops.Clear u.1 (Some u.2) ∷ ops_on t r (clears n us)) (ops_on t r (clears n us))) ≡ os in
    ap (fold after_object os) (clear-told t r u.0 n u.1 (Some u.2) (clears n us))
    ∙ ⊎_elim
    (λ (y : (u.0.0 == r.0) ≡ true). subst P (sym y) (objects-cleared t r n us os))
    (λ (z : (u.0.0 == r.0) ≡ false). subst P (sym z) (objects-cleared t r n us os))
    (cases_Bool (u.0.0 == r.0))

objects-clears : (t : Topology) (history : List Entry) (r : RouterId) (n : ℕ) (users : List User) → objects t (history ++ clears n users) r ≡ objects t history r
objects-clears t history r n users =
    ap (fold after_object []) (ops-append t (device_of t r) history (clears n users))
    ∙ fold-append after_object [] (ops_on t (device_of t r) history) (ops_on t (device_of t r) (clears n users))
    ∙ objects-cleared t (device_of t r) n users (objects t history r)

-- none of the routes that are left is by the object
followed-kept : (t : Topology) (history : List Entry) (d r : RouterId) (n id a : ℕ) → device_of t d ≡ d
    → followed (objects t (history ++ Route d n (ops.NoObject id) ∷ []) r) (way_in (table t (history ++ Route d n (ops.NoObject id) ∷ []) r) a)
    ≡ followed (objects t history r) (way_in (table t (history ++ Route d n (ops.NoObject id) ∷ []) r) a)
followed-kept t history d r n id a device = ⊎_elim
    (λ (y : ((device_of t r).0 == d.0) ≡ true). by y (best left a) refl)
    (λ (z : ((device_of t r).0 == d.0) ≡ false).
    ap (λ os. followed os (way_in left a)) (objects-other t history entry r (none-device t r d n (ops.NoObject id) (not-own t r d device z))))
    (cases_Bool ((device_of t r).0 == d.0))
  where
    entry : Entry
    entry = Route d n (ops.NoObject id)

    left : List route.Route
    left = table t (history ++ entry ∷ []) r

    by : ((device_of t r).0 == d.0) ≡ true → (o : Option route.Route) → best left a ≡ o → followed (objects t (history ++ entry ∷ []) r) (way_or_none (best left a)) ≡ followed (objects t history r) (way_or_none (best left a))
    by y None is = rw is refl
    by y (Some x) is =
        let first : IsBest left a (Some x) = subst (λ o. IsBest left a o) is (best-is left a) in
        let among : Contains (filter (λ z. not (((device_of t r).0 == d.0) && is_by id z.way)) (table t history r)) x = subst (λ ys. Contains ys x) (no-object-table t history d r n id device) first.0 in
        let kept : not (((device_of t r).0 == d.0) && is_by id x.way) ≡ true = (filter-contains (λ z. not (((device_of t r).0 == d.0) && is_by id z.way)) x (table t history r) among).1 in
        let other : is_by id x.way ≡ false = rw y at (not-true (((device_of t r).0 == d.0) && is_by id x.way) kept) in
        let at_device : op_on t (device_of t r) entry ≡ Some (ops.NoObject id) = op-own t (device_of t r) d n (ops.NoObject id) (sym (eqb-true (device_of t r).0 d.0 y)) in
        rw is (sym (alike-after t history entry r (ops.NoObject id) id at_device (λ i. refl) x.way other))

-- and the routers do with each address what they do after those
pub no_object_targets : (t : Topology) (history : List Entry) (d : RouterId) (n id : ℕ) (users : List User) → device_of t d ≡ d → AreUsersAfter t history d id users → (r : RouterId) (a : ℕ)
    → target_after t (history ++ Route d n (ops.NoObject id) ∷ []) r a ≡ target_after t (history ++ clears n users) r a
no_object_targets t history d n id users device exact r a =
    followed-kept t history d r n id a device
    ∙ ap (λ os. followed os (way_in (table t (history ++ Route d n (ops.NoObject id) ∷ []) r) a)) (sym (objects-clears t history r n users))
    ∙ ap (λ xs. followed (objects t (history ++ clears n users) r) (way_in xs a)) (no_object_clears t history d n id users device exact r)

-- ---- an object that is set

pub object-table : (t : Topology) (history : List Entry) (d r : RouterId) (n id : ℕ) (v : Target) → table t (history ++ Route d n (ops.Object id v) ∷ []) r ≡ table t history r
object-table t history d r n id v = ⊎_elim
    (λ (y : (d.0 == r.0) ≡ true). table-push_own t history entry r (ops.Object id v) (op-own t r d n (ops.Object id v) (eqb-true d.0 r.0 y)))
    (λ (z : (d.0 == r.0) ≡ false). ⊎_elim
    (λ (y : (d.0 == (device_of t r).0) ≡ true). let is : op_on t r entry ≡ Some (ops.Object id v) = rw (z, y) refl in table-push_own t history entry r (ops.Object id v) is)
    (λ (w : (d.0 == (device_of t r).0) ≡ false). let is : op_on t r entry ≡ None = rw (z, w) refl in table-push_other t history entry r is)
    (cases_Bool (d.0 == (device_of t r).0)))
    (cases_Bool (d.0 == r.0))
  where
    entry : Entry
    entry = Route d n (ops.Object id v)

followed-moved : (t : Topology) (history : List Entry) (d r : RouterId) (n id : ℕ) (v : Target) (w : Way)
    → followed (objects t (history ++ Route d n (ops.Object id v) ∷ []) r) w ≡ cond (((device_of t r).0 == d.0) && is_by id w) v (followed (objects t history r) w)
followed-moved t history d r n id v w = ⊎_elim
    (λ (y : ((device_of t r).0 == d.0) ≡ true).
    let at_device : op_on t (device_of t r) entry ≡ Some (ops.Object id v) = op-own t (device_of t r) d n (ops.Object id v) (sym (eqb-true (device_of t r).0 d.0 y)) in
    subst P (sym y)
    (⊎_elim
    (λ (by : is_by id w ≡ true). subst Q (sym by) (does-after t history entry r id v at_device w by))
    (λ (other : is_by id w ≡ false). subst Q (sym other) (sym (alike-after t history entry r (ops.Object id v) id at_device (λ i. refl) w other)))
    (cases_Bool (is_by id w))))
    (λ (z : ((device_of t r).0 == d.0) ≡ false).
    subst P (sym z)
    (ap (λ os. followed os w) (objects-other t history entry r (none-device t r d n (ops.Object id v) (λ e. both_ways ((device_of t r).0 == d.0) z (eq-eqb (device_of t r).0 d.0 (sym e)))))))
    (cases_Bool ((device_of t r).0 == d.0))
  where
    entry : Entry
    entry = Route d n (ops.Object id v)

    P : Bool → Type 0
    P b = followed (objects t (history ++ entry ∷ []) r) w ≡ cond (b && is_by id w) v (followed (objects t history r) w)

    Q : Bool → Type 0
    Q b = followed (objects t (history ++ entry ∷ []) r) w ≡ cond b v (followed (objects t history r) w)

-- it moves the routes by it that are in force
pub object_moves : (t : Topology) (history : List Entry) (d : RouterId) (n id : ℕ) (v : Target) (r : RouterId) (a : ℕ)
    → target_after t (history ++ Route d n (ops.Object id v) ∷ []) r a ≡ cond (((device_of t r).0 == d.0) && is_by id (way_in (table t history r) a)) v (target_after t history r a)
object_moves t history d n id v r a =
    ap (λ xs. followed (objects t (history ++ Route d n (ops.Object id v) ∷ []) r) (way_in xs a)) (object-table t history d r n id v)
    ∙ followed-moved t history d r n id v (way_in (table t history r) a)
