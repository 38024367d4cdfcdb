-- A flat history does what the history does.
use Rattle.std.proofs.Common.{◌≡◌, ℕ, ◌<◌, ◌∙◌, ◌==◌, Bool, true, false, cond, Option, Some, None, List, [], ◌∷◌, ◌++◌, fold, length, map, refl, ap, sym, subst, ⊎_elim}
use Rattle.std.specs.Prelude.{option_map}
use Rattle.std.specs.List.{All, Contains, flat_map}
use Rattle.std.proofs.lemmas.Bool.{both_ways, cases_Bool, eq-eqb, eqb-true}
use Rattle.std.proofs.lemmas.List.{append-nil, append_assoc}
use Rattle.std.proofs.lemmas.List.Elements.{All-head, All-tail}
use Rattle.base.specs.Cidr.{IsCidr}
use Rattle.base.specs.Links.{without}
use Rattle.base.specs.declared.ids.RouterId.{RouterId}
use Rattle.base.specs.declared.target.Target.{Target}
use Rattle.base.proofs.DeltaParts.{same-router}
use Rattle.base.proofs.Elements.{contains-map}
use Rattle.dn_model.specs.Downs.{downs}
use Rattle.dn_model.specs.Entry.{object_op, op_on, IsEntryOf}
use Rattle.dn_model.specs.Routes.{IsTable}
use Rattle.dn_model.specs.Table.{Object as ObjectIs, after_object, after_op, best, does_after, followed, is_by, objects, ops_on, table, target_after, way_or_none}
use Rattle.dn_model.specs.Tables.{device_of, replaces_prefix}
use Rattle.dn_model.specs.declared.entry.Entry.{Entry}
use Rattle.dn_model.specs.declared.entry.Entry.TheVariants.{Route, Link}
use Rattle.dn_model.specs.declared.entry.Op.{Op}
use Rattle.dn_model.specs.declared.entry.Op.TheVariants as ops
use Rattle.dn_model.specs.declared.entry.Route as route
use Rattle.dn_model.specs.declared.topology.Topology.{Topology}
use Rattle.dn_model.specs.declared.way.Way.{Way}
use Rattle.dn_model.specs.declared.way.Way.TheVariants.{Straight, By}
use Rattle.dn_model.proofs.DeviceTables.{device-own}
use Rattle.dn_model.proofs.Keys.{table-keys}
use Rattle.dn_model.proofs.SameRoutes.{SameRoutes, same-after, same-best, same-refl}
use Rattle.dn_model.proofs.Tables.{op-other, op-own, table-push_other, table-push_own}
use Rattle.nexthop_objects.specs.Flat.{flat, flat_entry, flat_from, routers_of, routes_by}
use Rattle.nexthop_objects.proofs.FlatEnds.{flat_links}
use Rattle.nexthop_objects.proofs.FlatRoutes.{best-straight, by_object, clear-again, clear_all, clear-straight, others, set_all, set-straight, straight, straight-clear, straight-put, straightened}
use Rattle.nexthop_objects.proofs.FlatSteps.{all-told, alike-after, does-after, has-router, none-told, objects-other, objects-own, router-has, table-append, table-apart, table-apart_keys, told}

-- a router's routes after a flat history are those after the history, straightened
abbrev IsFlatAt : Topology → List Entry → List Entry → RouterId → Type 0
IsFlatAt t made before r = SameRoutes (table t made r) (straight (objects t before r) (table t before r))

same-by : (F G : List route.Route) (os new : List ObjectIs) (xs ys : List route.Route) → G ≡ F → new ≡ os → ys ≡ xs → SameRoutes F (straight os xs) → SameRoutes G (straight new ys)
same-by F G os new xs ys f o x h =
    subst (λ z. SameRoutes z (straight new ys)) (sym f)
    (subst (λ z. SameRoutes F (straight z ys)) (sym o)
    (subst (λ z. SameRoutes F (straight os z)) (sym x) h))

pub op-none : (t : Topology) (r q : RouterId) (n : ℕ) (op : Op) → object_op op ≡ None → (q.0 == r.0) ≡ false → op_on t r (Route q n op) ≡ None
op-none t r q n op none off = rw off (⊎_elim (λ (y : (q.0 == (device_of t r).0) ≡ true). rw y none) (λ (z : (q.0 == (device_of t r).0) ≡ false). rw z refl) (cases_Bool (q.0 == (device_of t r).0)))

-- ---- an update of a route

pub objects-kept : (t : Topology) (before : List Entry) (r q : RouterId) (n : ℕ) (op : Op) → object_op op ≡ None → ((os : List ObjectIs) → after_object os op ≡ os) → objects t (before ++ Route q n op ∷ []) r ≡ objects t before r
objects-kept t before r q n op none keeps = ⊎_elim
    (λ (y : (q.0 == (device_of t r).0) ≡ true). objects-own t before (Route q n op) r op (op-own t (device_of t r) q n op (eqb-true q.0 (device_of t r).0 y)) ∙ keeps (objects t before r))
    (λ (z : (q.0 == (device_of t r).0) ≡ false). objects-other t before (Route q n op) r (op-none t (device_of t r) q n op none z))
    (cases_Bool (q.0 == (device_of t r).0))

route-step : (t : Topology) (r : RouterId) (made before : List Entry) (q : RouterId) (n : ℕ) (op now : Op) → object_op op ≡ None → object_op now ≡ None → ((os : List ObjectIs) → after_object os op ≡ os)
    → (q ≡ r → straight (objects t before r) (after_op (replaces_prefix t r) (table t before r) op) ≡ after_op (replaces_prefix t r) (straight (objects t before r) (table t before r)) now)
    → IsFlatAt t made before r → IsFlatAt t (made ++ Route q n now ∷ []) (before ++ Route q n op ∷ []) r
route-step t r made before q n op now none none_now keeps own h =
    let alone : Bool = replaces_prefix t r in
    let os : List ObjectIs = objects t before r in
    let kept : objects t (before ++ Route q n op ∷ []) r ≡ os = objects-kept t before r q n op none keeps in
    ⊎_elim
    (λ (y : (q.0 == r.0) ≡ true).
    let e : q.0 ≡ r.0 = eqb-true q.0 r.0 y in
    same-by (after_op alone (table t made r) now) (table t (made ++ Route q n now ∷ []) r) os (objects t (before ++ Route q n op ∷ []) r) (after_op alone (table t before r) op) (table t (before ++ Route q n op ∷ []) r)
    (table-push_own t made (Route q n now) r now (op-own t r q n now e)) kept (table-push_own t before (Route q n op) r op (op-own t r q n op e))
    (subst (λ z. SameRoutes (after_op alone (table t made r) now) z) (sym (own (same-router q r e))) (same-after alone (table t made r) (straight os (table t before r)) now h)))
    (λ (z : (q.0 == r.0) ≡ false).
    same-by (table t made r) (table t (made ++ Route q n now ∷ []) r) os (objects t (before ++ Route q n op ∷ []) r) (table t before r) (table t (before ++ Route q n op ∷ []) r)
    (table-push_other t made (Route q n now) r (op-none t r q n now none_now z)) kept (table-push_other t before (Route q n op) r (op-none t r q n op none z)) h)
    (cases_Bool (q.0 == r.0))

-- ---- an update of an object

-- it is told to the routers of its device
tells-own : (t : Topology) (r d : RouterId) (n : ℕ) (op : Op) → object_op op ≡ Some op → d.0 ≡ (device_of t r).0 → op_on t r (Route d n op) ≡ Some op
tells-own t r d n op is e = ⊎_elim
    (λ (y : (d.0 == r.0) ≡ true). op-own t r d n op (eqb-true d.0 r.0 y))
    (λ (z : (d.0 == r.0) ≡ false). rw (z, eq-eqb d.0 (device_of t r).0 e) is)
    (cases_Bool (d.0 == r.0))

-- where the device is another one, it changes nothing
object-other : (t : Topology) (r : RouterId) (made before : List Entry) (d : RouterId) (n : ℕ) (op : Op) (g : RouterId → List Entry) (all : List Op) → ((q : RouterId) → ops_on t r (g q) ≡ cond (q.0 == r.0) all []) → device_of t d ≡ d → (d.0 ≡ (device_of t r).0 → ⊥)
    → IsFlatAt t made before r → IsFlatAt t (made ++ flat_map g (routers_of t d)) (before ++ Route d n op ∷ []) r
object-other t r made before d n op g all tells device apart h =
    let off : d.0 ≡ r.0 → ⊥ = λ e. apart (ap (λ (s : RouterId). s.0) (sym device ∙ ap (device_of t) (same-router d r e))) in
    let none : ops_on t r (flat_map g (routers_of t d)) ≡ [] = none-told t r (replaces_prefix t r) g all tells (routers_of t d) (λ q i e. router-has t d r q apart i e) in
    let off_device : d.0 ≡ (device_of t (device_of t r)).0 → ⊥ = λ e. apart (e ∙ ap (λ (s : RouterId). s.0) (device-own t r)) in
    same-by (table t made r) (table t (made ++ flat_map g (routers_of t d)) r) (objects t before r) (objects t (before ++ Route d n op ∷ []) r) (table t before r) (table t (before ++ Route d n op ∷ []) r)
    (table-append t r made (flat_map g (routers_of t d)) ∙ ap (fold (after_op (replaces_prefix t r)) (table t made r)) none)
    (objects-other t before (Route d n op) r (op-other t (device_of t r) d n op apart off_device))
    (table-push_other t before (Route d n op) r (op-other t r d n op off apart)) h

-- the updates of the routes of each router by an object
tells-by : (t : Topology) (before : List Entry) (r q : RouterId) (n id : ℕ) (f : route.Route → Op) → ((x : route.Route) → object_op (f x) ≡ None)
    → ops_on t r (map (λ x. Route q n (f x)) (routes_by t before id q)) ≡ cond (q.0 == r.0) (map f (routes_by t before id r)) []
tells-by t before r q n id f none =
    told t r q n f (routes_by t before id q) none
    ∙ ⊎_elim
    (λ (y : (q.0 == r.0) ≡ true). rw y (ap (λ (s : RouterId). map f (routes_by t before id s)) (same-router q r (eqb-true q.0 r.0 y))))
    (λ (z : (q.0 == r.0) ≡ false). rw z refl)
    (cases_Bool (q.0 == r.0))

object-step : (t : Topology) (r : RouterId) (made before : List Entry) (d : RouterId) (n id : ℕ) (v : Target) → d.0 < length t.routers → device_of t d ≡ d → IsFlatAt t made before r
    → IsFlatAt t (made ++ flat_entry t before (Route d n (ops.Object id v))) (before ++ Route d n (ops.Object id v) ∷ []) r
object-step t r made before d n id v inside device h = ⊎_elim
    (λ (y : (d.0 == (device_of t r).0) ≡ true).
    let e : d.0 ≡ (device_of t r).0 = eqb-true d.0 (device_of t r).0 y in
    let own : device_of t r ≡ d = sym (same-router d (device_of t r) e) in
    let at_device : op_on t (device_of t r) entry ≡ Some op = op-own t (device_of t r) d n op e in
    let xs : List route.Route = table t before r in
    let new : List ObjectIs = objects t (before ++ entry ∷ []) r in
    let does : (w : Way) → is_by id w ≡ true → followed new w ≡ v = does-after t before entry r id v at_device in
    let moved : SameRoutes (fold (after_op (replaces_prefix t r)) (table t made r) (ops_on t r (flat_map g (routers_of t d)))) (straight new xs) =
    all-told t r (replaces_prefix t r) g (set_all v (by_object id xs)) tells (straight (objects t before r) xs) (straight new xs)
    (set-straight (replaces_prefix t r) (objects t before r) new v id xs (table-apart t before r) (alike-after t before entry r op id at_device (λ i. refl)) does)
    (set-straight (replaces_prefix t r) new new v id xs (table-apart t before r) (λ w other. refl) does)
    (routers_of t d) (table t made r) h (has-router t d r inside own) in
    same-by (fold (after_op (replaces_prefix t r)) (table t made r) (ops_on t r (flat_map g (routers_of t d)))) (table t (made ++ flat_map g (routers_of t d)) r) new new xs (table t (before ++ entry ∷ []) r)
    (table-append t r made (flat_map g (routers_of t d))) refl (table-push_own t before entry r op (tells-own t r d n op refl e)) moved)
    (λ (z : (d.0 == (device_of t r).0) ≡ false).
    object-other t r made before d n op g (set_all v (by_object id (table t before r))) tells device (λ e. both_ways (d.0 == (device_of t r).0) z (eq-eqb d.0 (device_of t r).0 e)) h)
    (cases_Bool (d.0 == (device_of t r).0))
  where
    op : Op
    op = ops.Object id v

    entry : Entry
    entry = Route d n op

    g : RouterId → List Entry
    g q = map (λ (x : route.Route). Route q n (ops.Set x.prefix x.metric v)) (routes_by t before id q)

    tells : (q : RouterId) → ops_on t r (g q) ≡ cond (q.0 == r.0) (set_all v (by_object id (table t before r))) []
    tells q = tells-by t before r q n id (λ (x : route.Route). ops.Set x.prefix x.metric v) (λ x. refl)

no-object-step : (t : Topology) (r : RouterId) (made before : List Entry) (d : RouterId) (n id : ℕ) → d.0 < length t.routers → device_of t d ≡ d → IsFlatAt t made before r
    → IsFlatAt t (made ++ flat_entry t before (Route d n (ops.NoObject id))) (before ++ Route d n (ops.NoObject id) ∷ []) r
no-object-step t r made before d n id inside device h = ⊎_elim
    (λ (y : (d.0 == (device_of t r).0) ≡ true).
    let e : d.0 ≡ (device_of t r).0 = eqb-true d.0 (device_of t r).0 y in
    let own : device_of t r ≡ d = sym (same-router d (device_of t r) e) in
    let at_device : op_on t (device_of t r) entry ≡ Some op = op-own t (device_of t r) d n op e in
    let xs : List route.Route = table t before r in
    let new : List ObjectIs = objects t (before ++ entry ∷ []) r in
    let moved : SameRoutes (fold (after_op (replaces_prefix t r)) (table t made r) (ops_on t r (flat_map g (routers_of t d)))) (straight new (others id xs)) =
    all-told t r (replaces_prefix t r) g (clear_all (by_object id xs)) tells (straight (objects t before r) xs) (straight new (others id xs))
    (clear-straight (replaces_prefix t r) (objects t before r) new id xs (table-apart_keys t before r) (alike-after t before entry r op id at_device (λ i. refl)))
    (clear-again (replaces_prefix t r) new id xs (table-apart_keys t before r))
    (routers_of t d) (table t made r) h (has-router t d r inside own) in
    same-by (fold (after_op (replaces_prefix t r)) (table t made r) (ops_on t r (flat_map g (routers_of t d)))) (table t (made ++ flat_map g (routers_of t d)) r) new new (others id xs) (table t (before ++ entry ∷ []) r)
    (table-append t r made (flat_map g (routers_of t d))) refl (table-push_own t before entry r op (tells-own t r d n op refl e)) moved)
    (λ (z : (d.0 == (device_of t r).0) ≡ false).
    object-other t r made before d n op g (clear_all (by_object id (table t before r))) tells device (λ e. both_ways (d.0 == (device_of t r).0) z (eq-eqb d.0 (device_of t r).0 e)) h)
    (cases_Bool (d.0 == (device_of t r).0))
  where
    op : Op
    op = ops.NoObject id

    entry : Entry
    entry = Route d n op

    g : RouterId → List Entry
    g q = map (λ (x : route.Route). Route q n (ops.Clear x.prefix (Some x.metric))) (routes_by t before id q)

    tells : (q : RouterId) → ops_on t r (g q) ≡ cond (q.0 == r.0) (clear_all (by_object id (table t before r))) []
    tells q = tells-by t before r q n id (λ (x : route.Route). ops.Clear x.prefix (Some x.metric)) (λ x. refl)

-- ---- histories

step : (t : Topology) (r : RouterId) (made before : List Entry) (e : Entry) → IsEntryOf t e → IsFlatAt t made before r → IsFlatAt t (made ++ flat_entry t before e) (before ++ e ∷ []) r
step t r made before (Link j l down) sound h =
    same-by (table t made r) (table t (made ++ Link j l down ∷ []) r) (objects t before r) (objects t (before ++ Link j l down ∷ []) r) (table t before r) (table t (before ++ Link j l down ∷ []) r)
    (table-push_other t made (Link j l down) r refl) (objects-other t before (Link j l down) r refl) (table-push_other t before (Link j l down) r refl) h
step t r made before (Route q n (ops.Set p m v)) sound h =
    route-step t r made before q n (ops.Set p m v) (ops.Set p m v) refl refl (λ os. refl) (λ e. straight-put (replaces_prefix t r) (objects t before r) (table t before r) p m (Straight v)) h
step t r made before (Route q n (ops.SetBy p m id)) sound h =
    route-step t r made before q n (ops.SetBy p m id) (ops.Set p m (followed (objects t before q) (By id))) refl refl (λ os. refl)
    (λ e. straight-put (replaces_prefix t r) (objects t before r) (table t before r) p m (By id)
    ∙ ap (λ (s : RouterId). after_op (replaces_prefix t r) (straight (objects t before r) (table t before r)) (ops.Set p m (followed (objects t before s) (By id)))) (sym e)) h
step t r made before (Route q n (ops.Clear p m)) sound h =
    route-step t r made before q n (ops.Clear p m) (ops.Clear p m) refl refl (λ os. refl) (λ e. straight-clear (replaces_prefix t r) (objects t before r) (table t before r) p m) h
step t r made before (Route q n (ops.Object id v)) sound h = object-step t r made before q n id v sound.0 sound.1.0 h
step t r made before (Route q n (ops.NoObject id)) sound h = no-object-step t r made before q n id sound.0 sound.1 h

steps : (t : Topology) (r : RouterId) (made before es : List Entry) → All (IsEntryOf t) es → IsFlatAt t made before r → IsFlatAt t (made ++ flat_from t before es) (before ++ es) r
steps t r made before [] sound h = subst (λ z. IsFlatAt t z (before ++ []) r) (sym (append-nil made)) (subst (λ z. IsFlatAt t made z r) (sym (append-nil before)) h)
steps t r made before (e ∷ es) sound h =
    let one : IsFlatAt t (made ++ flat_entry t before e) (before ++ e ∷ []) r = step t r made before e (All-head (IsEntryOf t) e es sound) h in
    let rest : IsFlatAt t ((made ++ flat_entry t before e) ++ flat_from t (before ++ e ∷ []) es) ((before ++ e ∷ []) ++ es) r = steps t r (made ++ flat_entry t before e) (before ++ e ∷ []) es (All-tail (IsEntryOf t) e es sound) one in
    subst (λ z. IsFlatAt t z (before ++ e ∷ es) r) (append_assoc made (flat_entry t before e) (flat_from t (before ++ e ∷ []) es))
    (subst (λ z. IsFlatAt t ((made ++ flat_entry t before e) ++ flat_from t (before ++ e ∷ []) es) z r) (append_assoc before (e ∷ []) es) rest)

-- ---- what a flat history does

flat-table : (t : Topology) (history : List Entry) (r : RouterId) → ((x : route.Route) → Contains (table t history r) x → IsCidr x.prefix) → SameRoutes (table t (flat t history) r) (straight (objects t history r) (table t history r)) → IsTable (table t (flat t history) r)
flat-table t history r prefixes same = record {
  keys = table-keys t (flat t history) r;
  prefixes = λ x i.
      let w : (y : route.Route) × Contains (table t history r) y × (straightened (objects t history r) y ≡ x) = contains-map (straightened (objects t history r)) (table t history r) x (same.there x i) in
      let P : route.Route → Type 0 = λ z. IsCidr z.prefix in
      subst P w.2 (prefixes w.0 w.1);
}

straight-follows : (os other : List ObjectIs) (o : Option route.Route) → followed other (way_or_none (option_map (straightened os) o)) ≡ followed os (way_or_none o)
straight-follows os other None = refl
straight-follows os other (Some x) = refl

-- of a network's history the routers do the same with each address without objects
pub flat_is_same : (t : Topology) (history : List Entry) → All (IsEntryOf t) history → (r : RouterId) (a : ℕ) → ((x : route.Route) → Contains (table t history r) x → IsCidr x.prefix) → target_after t (flat t history) r a ≡ target_after t history r a
flat_is_same t history sound r a prefixes =
    let os : List ObjectIs = objects t history r in
    let xs : List route.Route = table t history r in
    let same : SameRoutes (table t (flat t history) r) (straight os xs) = steps t r [] [] history sound (same-refl []) in
    let first : best (table t (flat t history) r) a ≡ option_map (straightened os) (best xs a) =
    same-best (table t (flat t history) r) (straight os xs) a (flat-table t history r prefixes same) same ∙ best-straight os xs a in
    ap (λ o. followed (objects t (flat t history) r) (way_or_none o)) first ∙ straight-follows os (objects t (flat t history) r) (best xs a)

-- and so they do where links are down
pub flat_does_same : (t : Topology) (history : List Entry) → All (IsEntryOf t) history → (r : RouterId) (a : ℕ) → ((x : route.Route) → Contains (table t history r) x → IsCidr x.prefix) → does_after t (flat t history) r a ≡ does_after t history r a
flat_does_same t history sound r a prefixes =
    ap (λ down. without down (target_after t (flat t history) r a)) (flat_links t history) ∙ ap (without (downs history)) (flat_is_same t history sound r a prefixes)
