-- A flat history takes the same links down, and sets prefixes that begin and end at the same addresses.
use Rattle.std.proofs.Common.{◌≡◌, ℕ, ◌∙◌, ◌||◌, ◌==◌, not, Bool, true, false, Option, Some, None, List, [], ◌∷◌, ◌++◌, filter, fold, map, refl, ap, subst, ⊎_elim}
use Rattle.std.specs.List.{Contains, flat_map, list_any}
use Rattle.std.proofs.lemmas.Bool.{cases_Bool, or_from, or_parts}
use Rattle.std.proofs.lemmas.List.Elements.{Contains-push_cases}
use Rattle.std.proofs.lemmas.List.Folds.{list_any-append}
use Rattle.std.proofs.lemmas.List.Sums.{fold-append}
use Rattle.std.proofs.lemmas.Option.{none-some, same_Some}
use Rattle.base.specs.Cidr.{Cidr}
use Rattle.base.specs.declared.ids.LinkId.{LinkId}
use Rattle.base.specs.declared.ids.RouterId.{RouterId}
use Rattle.base.proofs.Elements.{contains-here, contains-none, contains-there, filter-contains}
use Rattle.dn_model.specs.Downs.{after_link, downs}
use Rattle.dn_model.specs.Entry.{ends_of_set, is_bound_of, object_op, op_on, op_sets_end}
use Rattle.dn_model.specs.Table.{after_op, after_table_op, has_key, is_by, is_of_prefix, is_replaced, ops_on, table}
use Rattle.dn_model.specs.Tables.{device_of, replaces_prefix}
use Rattle.dn_model.specs.declared.entry.Entry.{Entry}
use Rattle.dn_model.specs.declared.entry.Entry.TheVariants.{Route, Link}
use Rattle.dn_model.specs.declared.entry.Op.{Op}
use Rattle.dn_model.specs.declared.entry.Op.TheVariants as ops
use Rattle.dn_model.specs.declared.entry.Route as route
use Rattle.dn_model.specs.declared.table_op.TableOp.TheVariants.{Put}
use Rattle.dn_model.specs.declared.topology.Topology.{Topology}
use Rattle.dn_model.specs.declared.way.Way.{Way}
use Rattle.dn_model.specs.declared.way.Way.TheVariants.{Straight, By}
use Rattle.nexthop_objects.specs.Flat.{flat, flat_entry, flat_from, routers_of, routes_by}

-- ---- links

links-routes : (down : List LinkId) (q : RouterId) (n : ℕ) (f : route.Route → Op) (xs : List route.Route) → fold after_link down (map (λ x. Route q n (f x)) xs) ≡ down
links-routes down q n f [] = refl
links-routes down q n f (x ∷ xs) = links-routes down q n f xs

links-all : (down : List LinkId) (g : RouterId → List Entry) → ((q : RouterId) → fold after_link down (g q) ≡ down) → (qs : List RouterId) → fold after_link down (flat_map g qs) ≡ down
links-all down g kept [] = refl
links-all down g kept (q ∷ qs) =
    fold-append after_link down (g q) (flat_map g qs) ∙ ap (λ z. fold after_link z (flat_map g qs)) (kept q) ∙ links-all down g kept qs

links-entry : (t : Topology) (before : List Entry) (down : List LinkId) (e : Entry) → fold after_link down (flat_entry t before e) ≡ after_link down e
links-entry t before down (Link j l d) = refl
links-entry t before down (Route r n (ops.Set p m v)) = refl
links-entry t before down (Route r n (ops.Clear p m)) = refl
links-entry t before down (Route r n (ops.SetBy p m id)) = refl
links-entry t before down (Route r n (ops.Object id v)) =
    links-all down (λ q. map (λ (x : route.Route). Route q n (ops.Set x.prefix x.metric v)) (routes_by t before id q))
    (λ q. links-routes down q n (λ (x : route.Route). ops.Set x.prefix x.metric v) (routes_by t before id q)) (routers_of t r)
links-entry t before down (Route r n (ops.NoObject id)) =
    links-all down (λ q. map (λ (x : route.Route). Route q n (ops.Clear x.prefix (Some x.metric))) (routes_by t before id q))
    (λ q. links-routes down q n (λ (x : route.Route). ops.Clear x.prefix (Some x.metric)) (routes_by t before id q)) (routers_of t r)

links-from : (t : Topology) (before : List Entry) (down : List LinkId) (es : List Entry) → fold after_link down (flat_from t before es) ≡ fold after_link down es
links-from t before down [] = refl
links-from t before down (e ∷ es) =
    fold-append after_link down (flat_entry t before e) (flat_from t (before ++ e ∷ []) es)
    ∙ ap (λ z. fold after_link z (flat_from t (before ++ e ∷ []) es)) (links-entry t before down e)
    ∙ links-from t (before ++ e ∷ []) (after_link down e) es

-- the same links are down after both
pub flat_links : (t : Topology) (history : List Entry) → downs (flat t history) ≡ downs history
flat_links t history = links-from t [] [] history

-- ---- prefixes that neither begin nor end at an address

NoneEnds : ℕ → List route.Route → Type 0
NoneEnds a xs = (x : route.Route) → Contains xs x → is_bound_of x.prefix a ≡ false

ends-filter : (a : ℕ) (p : route.Route → Bool) (xs : List route.Route) → NoneEnds a xs → NoneEnds a (filter p xs)
unfolding NoneEnds
ends-filter a p xs h x i = h x (filter-contains p x xs i).0

ends-put : (a : ℕ) (alone : Bool) (xs : List route.Route) (p : Cidr) (m : ℕ) (w : Way) → is_bound_of p a ≡ false → NoneEnds a xs → NoneEnds a (after_table_op alone xs (Put p m w))
unfolding NoneEnds
ends-put a alone xs p m w off h x i =
    let new : route.Route = record { prefix = p; metric = m; way = w } in
    ⊎_elim
    (λ (old : Contains (filter (λ r. not (is_replaced alone p m r)) xs) x). ends-filter a (λ r. not (is_replaced alone p m r)) xs h x old)
    (λ (same : new ≡ x). let P : route.Route → Type 0 = λ y. is_bound_of y.prefix a ≡ false in subst P same off)
    (Contains-push_cases (filter (λ r. not (is_replaced alone p m r)) xs) new x i)

ends-after : (a : ℕ) (alone : Bool) (xs : List route.Route) (op : Op) → op_sets_end a op ≡ false → NoneEnds a xs → NoneEnds a (after_op alone xs op)
ends-after a alone xs (ops.Set p m v) off h = ends-put a alone xs p m (Straight v) off h
ends-after a alone xs (ops.SetBy p m id) off h = ends-put a alone xs p m (By id) off h
ends-after a alone xs (ops.Clear p None) off h = ends-filter a (λ r. not (is_of_prefix p r)) xs h
ends-after a alone xs (ops.Clear p (Some m)) off h = ends-filter a (λ r. not (has_key p m r)) xs h
ends-after a alone xs (ops.Object id v) off h = h
ends-after a alone xs (ops.NoObject id) off h = ends-filter a (λ r. not (is_by id r.way)) xs h

ends-object : (a : ℕ) (o op : Op) → object_op o ≡ Some op → op_sets_end a op ≡ false
ends-object a (ops.Set p m v) op h = absurd (none-some op h)
ends-object a (ops.SetBy p m id) op h = absurd (none-some op h)
ends-object a (ops.Clear p m) op h = absurd (none-some op h)
ends-object a (ops.Object id v) op h = subst (λ (x : Op). op_sets_end a x ≡ false) (same_Some (ops.Object id v) op h) refl
ends-object a (ops.NoObject id) op h = subst (λ (x : Op). op_sets_end a x ≡ false) (same_Some (ops.NoObject id) op h) refl

ends-op : (a : ℕ) (t : Topology) (r : RouterId) (e : Entry) (op : Op) → ends_of_set a e ≡ false → op_on t r e ≡ Some op → op_sets_end a op ≡ false
ends-op a t r (Link j l down) op off h = absurd (none-some op h)
ends-op a t r (Route q n o) op off h = ⊎_elim
    (λ (y : (q.0 == r.0) ≡ true). let is : Some o ≡ Some op = rw y at h in subst (λ (x : Op). op_sets_end a x ≡ false) (same_Some o op is) off)
    (λ (z : (q.0 == r.0) ≡ false). ⊎_elim
    (λ (y : (q.0 == (device_of t r).0) ≡ true). let is : object_op o ≡ Some op = rw (z, y) at h in ends-object a o op is)
    (λ (w : (q.0 == (device_of t r).0) ≡ false). let is : None ≡ Some op = rw (z, w) at h in absurd (none-some op is))
    (cases_Bool (q.0 == (device_of t r).0)))
    (cases_Bool (q.0 == r.0))

ends-from : (a : ℕ) (t : Topology) (r : RouterId) (xs : List route.Route) (es : List Entry) → list_any (ends_of_set a) es ≡ false → NoneEnds a xs → NoneEnds a (fold (after_op (replaces_prefix t r)) xs (ops_on t r es))
ends-from a t r xs [] off h = h
ends-from a t r xs (e ∷ es) off h =
    let parts : (ends_of_set a e ≡ false) × (list_any (ends_of_set a) es ≡ false) = or_parts (ends_of_set a e) (list_any (ends_of_set a) es) off in
    by parts.0 (λ ys k. ends-from a t r ys es parts.1 k) (op_on t r e) refl
  where
    by : ends_of_set a e ≡ false → ((ys : List route.Route) → NoneEnds a ys → NoneEnds a (fold (after_op (replaces_prefix t r)) ys (ops_on t r es))) → (o : Option Op) → op_on t r e ≡ o → NoneEnds a (fold (after_op (replaces_prefix t r)) xs (ops_on t r (e ∷ es)))
    by first more None is = rw is (more xs h)
    by first more (Some op) is = rw is (more (after_op (replaces_prefix t r) xs op) (ends-after a (replaces_prefix t r) xs op (ends-op a t r e op first is) h))

-- where no entry sets a prefix that begins or ends at an address, no route of a table does
pub table-ends : (a : ℕ) (t : Topology) (history : List Entry) (r : RouterId) → list_any (ends_of_set a) history ≡ false → (x : route.Route) → Contains (table t history r) x → is_bound_of x.prefix a ≡ false
unfolding NoneEnds
table-ends a t history r off x i = ends-from a t r [] history off (λ y j. absurd (contains-none y j)) x i

-- ---- the prefixes that a flat history sets

set-ends : (a : ℕ) (q : RouterId) (n : ℕ) (f : route.Route → Op) (xs : List route.Route) → ((x : route.Route) → Contains xs x → op_sets_end a (f x) ≡ false) → list_any (ends_of_set a) (map (λ x. Route q n (f x)) xs) ≡ false
set-ends a q n f [] h = refl
set-ends a q n f (x ∷ xs) h =
    or_from (op_sets_end a (f x)) (list_any (ends_of_set a) (map (λ y. Route q n (f y)) xs)) (h x (contains-here x xs)) (set-ends a q n f xs (λ y i. h y (contains-there x y xs i)))

all-ends : (a : ℕ) (g : RouterId → List Entry) → ((q : RouterId) → list_any (ends_of_set a) (g q) ≡ false) → (qs : List RouterId) → list_any (ends_of_set a) (flat_map g qs) ≡ false
all-ends a g h [] = refl
all-ends a g h (q ∷ qs) = list_any-append (ends_of_set a) (g q) (flat_map g qs) ∙ or_from (list_any (ends_of_set a) (g q)) (list_any (ends_of_set a) (flat_map g qs)) (h q) (all-ends a g h qs)

ends-entry : (a : ℕ) (t : Topology) (before : List Entry) (e : Entry) → list_any (ends_of_set a) before ≡ false → list_any (ends_of_set a) (flat_entry t before e) ≡ list_any (ends_of_set a) (e ∷ [])
ends-entry a t before (Link j l d) off = refl
ends-entry a t before (Route r n (ops.Set p m v)) off = refl
ends-entry a t before (Route r n (ops.Clear p m)) off = refl
ends-entry a t before (Route r n (ops.SetBy p m id)) off = refl
ends-entry a t before (Route r n (ops.Object id v)) off =
    all-ends a (λ q. map (λ (x : route.Route). Route q n (ops.Set x.prefix x.metric v)) (routes_by t before id q))
    (λ q. set-ends a q n (λ (x : route.Route). ops.Set x.prefix x.metric v) (routes_by t before id q) (λ x i. table-ends a t before q off x (filter-contains (λ y. is_by id y.way) x (table t before q) i).0)) (routers_of t r)
ends-entry a t before (Route r n (ops.NoObject id)) off =
    all-ends a (λ q. map (λ (x : route.Route). Route q n (ops.Clear x.prefix (Some x.metric))) (routes_by t before id q))
    (λ q. set-ends a q n (λ (x : route.Route). ops.Clear x.prefix (Some x.metric)) (routes_by t before id q) (λ x i. refl)) (routers_of t r)

flat-ends_from : (a : ℕ) (t : Topology) (before es : List Entry) → list_any (ends_of_set a) before ≡ false → list_any (ends_of_set a) (flat_from t before es) ≡ list_any (ends_of_set a) es
flat-ends_from a t before [] off = refl
flat-ends_from a t before (e ∷ es) off =
    let rest : List Entry = flat_from t (before ++ e ∷ []) es in
    let one : list_any (ends_of_set a) (flat_entry t before e ++ rest) ≡ (list_any (ends_of_set a) (e ∷ []) || list_any (ends_of_set a) rest) =
    list_any-append (ends_of_set a) (flat_entry t before e) rest ∙ ap (λ b. b || list_any (ends_of_set a) rest) (ends-entry a t before e off) in
    ⊎_elim
    (λ (y : ends_of_set a e ≡ true). let first : list_any (ends_of_set a) (e ∷ []) ≡ true = rw y refl in one ∙ ap (λ b. b || list_any (ends_of_set a) rest) first ∙ (rw y refl))
    (λ (n : ends_of_set a e ≡ false).
    let first : list_any (ends_of_set a) (e ∷ []) ≡ false = rw n refl in
    let none : list_any (ends_of_set a) (before ++ e ∷ []) ≡ false = list_any-append (ends_of_set a) before (e ∷ []) ∙ or_from (list_any (ends_of_set a) before) (list_any (ends_of_set a) (e ∷ [])) off first in
    one ∙ ap (λ b. b || list_any (ends_of_set a) rest) first ∙ flat-ends_from a t (before ++ e ∷ []) es none ∙ (rw n refl))
    (cases_Bool (ends_of_set a e))

-- prefixes that are set begin or end at the same addresses in both
pub flat_ends : (t : Topology) (history : List Entry) (a : ℕ) → list_any (ends_of_set a) (flat t history) ≡ list_any (ends_of_set a) history
flat_ends t history a = flat-ends_from a t [] history refl
