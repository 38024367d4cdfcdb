-- The flat history of a network's is one of the network, without objects.
use Rattle.std.proofs.Common.{◌≡◌, ℕ, ◌+◌, ◌<◌, ◌==◌, not, Bool, true, false, Option, Some, None, List, [], ◌∷◌, ◌++◌, filter, fold, length, map, refl, subst, ⊎_elim, arith, IsSome}
use Rattle.std.specs.Prelude.{unwrap_or}
use Rattle.std.specs.List.{All, AllByRecursion, flat_map}
use Rattle.std.specs.Map.{lookup}
use Rattle.std.proofs.lemmas.Bool.{cases_Bool, false≢true}
use Rattle.std.proofs.lemmas.List.Elements.{All-from_recursion, All-weaker, recursion_from_All}
use Rattle.std.proofs.lemmas.Option.{none-some, same_Some}
use Rattle.base.specs.declared.ids.RouterId.{RouterId}
use Rattle.base.specs.declared.target.Target.TheVariants.{NoRoute}
use Rattle.dn_model.specs.Entry.{object_op, op_on, IsEntryOf, IsTargetOf}
use Rattle.dn_model.specs.Table.{Object as ObjectIs, after_object, objects, ops_on, other_objects}
use Rattle.dn_model.specs.Tables.{device_of}
use Rattle.dn_model.specs.declared.entry.Entry.{Entry}
use Rattle.dn_model.specs.declared.entry.Entry.TheVariants.{Route, Link}
use Rattle.dn_model.specs.declared.entry.Op.{Op}
use Rattle.dn_model.specs.declared.entry.Op.TheVariants as ops
use Rattle.dn_model.specs.declared.entry.Route as route
use Rattle.dn_model.specs.declared.topology.RouterTable.{RouterTable}
use Rattle.dn_model.specs.declared.topology.Topology.{Topology}
use Rattle.dn_model.proofs.Nowhere.{tables-long}
use Rattle.nexthop_objects.specs.Flat.{flat, flat_entry, flat_from, routers_from, routers_of, routes_by, AreLive, AreLiveFrom, HasNoObject, IsLive}

-- ---- lists

each-append : {X : Type 0} (P : X → Type 0) (xs ys : List X) → AllByRecursion P xs → AllByRecursion P ys → AllByRecursion P (xs ++ ys)
each-append {X} P [] ys h k = k
each-append {X} P (x ∷ xs) ys h k = (h.0, each-append P xs ys h.1 k)

each-filter : {X : Type 0} (P : X → Type 0) (p : X → Bool) (xs : List X) → AllByRecursion P xs → AllByRecursion P (filter p xs)
each-filter {X} P p [] h = tt
each-filter {X} P p (x ∷ xs) h = ⊎_elim
    (λ (y : p x ≡ true). rw y (h.0, each-filter P p xs h.1))
    (λ (n : p x ≡ false). rw n (each-filter P p xs h.1))
    (cases_Bool (p x))

each-map : {X Y : Type 0} (P : Y → Type 0) (f : X → Y) (xs : List X) → ((x : X) → P (f x)) → AllByRecursion P (map f xs)
each-map {X} {Y} P f [] h = tt
each-map {X} {Y} P f (x ∷ xs) h = (h x, each-map P f xs h)

each-of : {X Y : Type 0} (Q : X → Type 0) (P : Y → Type 0) (g : X → List Y) (xs : List X) → AllByRecursion Q xs → ((x : X) → Q x → AllByRecursion P (g x)) → AllByRecursion P (flat_map g xs)
each-of {X} {Y} Q P g [] h k = tt
each-of {X} {Y} Q P g (x ∷ xs) h k = each-append P (g x) (flat_map g xs) (k x h.0) (each-of Q P g xs h.1 k)

-- ---- what objects do

abbrev DoesOf : Topology → ObjectIs → Type 0
DoesOf t o = IsTargetOf t o.1

-- an update that sets an object sets it to what it may do
abbrev SetsOf : Topology → Op → Type 0
SetsOf t (ops.Set p m v) = Unit {0}
SetsOf t (ops.SetBy p m id) = Unit {0}
SetsOf t (ops.Clear p m) = Unit {0}
SetsOf t (ops.Object id v) = IsTargetOf t v
SetsOf t (ops.NoObject id) = Unit {0}

sets-own : (t : Topology) (q : RouterId) (n : ℕ) (op : Op) → IsEntryOf t (Route q n op) → SetsOf t op
sets-own t q n (ops.Set p m v) h = tt
sets-own t q n (ops.SetBy p m id) h = tt
sets-own t q n (ops.Clear p m) h = tt
sets-own t q n (ops.Object id v) h = h.1.1
sets-own t q n (ops.NoObject id) h = tt

sets-told : (t : Topology) (o op : Op) → SetsOf t o → object_op o ≡ Some op → SetsOf t op
sets-told t (ops.Set p m v) op h e = absurd (none-some op e)
sets-told t (ops.SetBy p m id) op h e = absurd (none-some op e)
sets-told t (ops.Clear p m) op h e = absurd (none-some op e)
sets-told t (ops.Object id v) op h e = subst (λ (x : Op). SetsOf t x) (same_Some (ops.Object id v) op e) h
sets-told t (ops.NoObject id) op h e = subst (λ (x : Op). SetsOf t x) (same_Some (ops.NoObject id) op e) h

sets-on : (t : Topology) (r : RouterId) (e : Entry) (op : Op) → IsEntryOf t e → op_on t r e ≡ Some op → SetsOf t op
sets-on t r (Link j l down) op sound h = absurd (none-some op h)
sets-on t r (Route q n o) op sound h = ⊎_elim
    (λ (y : (q.0 == r.0) ≡ true). let is : Some o ≡ Some op = rw y at h in subst (λ (x : Op). SetsOf t x) (same_Some o op is) (sets-own t q n o sound))
    (λ (z : (q.0 == r.0) ≡ false). ⊎_elim
    (λ (y : (q.0 == (device_of t r).0) ≡ true). let is : object_op o ≡ Some op = rw (z, y) at h in sets-told t o op (sets-own t q n o sound) is)
    (λ (w : (q.0 == (device_of t r).0) ≡ false). let is : None ≡ Some op = rw (z, w) at h in absurd (none-some op is))
    (cases_Bool (q.0 == (device_of t r).0)))
    (cases_Bool (q.0 == r.0))

does-after : (t : Topology) (os : List ObjectIs) (op : Op) → SetsOf t op → AllByRecursion (DoesOf t) os → AllByRecursion (DoesOf t) (after_object os op)
does-after t os (ops.Set p m v) sound h = h
does-after t os (ops.SetBy p m id) sound h = h
does-after t os (ops.Clear p m) sound h = h
does-after t os (ops.Object id v) sound h = each-append (DoesOf t) (other_objects id os) ((id, v) ∷ []) (each-filter (DoesOf t) (λ o. not (o.0 == id)) os h) (sound, tt)
does-after t os (ops.NoObject id) sound h = each-filter (DoesOf t) (λ o. not (o.0 == id)) os h

does-from : (t : Topology) (r : RouterId) (os : List ObjectIs) (es : List Entry) → AllByRecursion (IsEntryOf t) es → AllByRecursion (DoesOf t) os → AllByRecursion (DoesOf t) (fold after_object os (ops_on t r es))
does-from t r os [] sound h = h
does-from t r os (e ∷ es) sound h = by (λ ys k. does-from t r ys es sound.1 k) (op_on t r e) refl
  where
    by : ((ys : List ObjectIs) → AllByRecursion (DoesOf t) ys → AllByRecursion (DoesOf t) (fold after_object ys (ops_on t r es))) → (o : Option Op) → op_on t r e ≡ o → AllByRecursion (DoesOf t) (fold after_object os (ops_on t r (e ∷ es)))
    by more None is = rw is (more os h)
    by more (Some op) is = rw is (more (after_object os op) (does-after t os op (sets-on t r e op sound.0 is) h))

-- what an object that is there does
live-does : (t : Topology) (id : ℕ) (os : List ObjectIs) → AllByRecursion (DoesOf t) os → IsSome (lookup (λ i. i == id) os) → IsTargetOf t (unwrap_or (lookup (λ i. i == id) os) NoRoute)
live-does t id [] h k = absurd (false≢true k)
live-does t id (o ∷ os) h k = ⊎_elim
    (λ (y : (o.0 == id) ≡ true). rw y h.0)
    (λ (n : (o.0 == id) ≡ false). let more : IsSome (lookup (λ i. i == id) os) = rw n at k in rw n (live-does t id os h.1 more))
    (cases_Bool (o.0 == id))

-- ---- entries

numbers-low : (i n : ℕ) (xs : List RouterTable) → i + length xs ≡ n → AllByRecursion (λ (r : RouterId). r.0 < n) (routers_from i xs)
numbers-low i n [] h = tt
numbers-low i n (x ∷ xs) h = (omega arith, numbers-low (i + 1) n xs (omega arith))

routers-low : (t : Topology) (d : RouterId) → AllByRecursion (λ (r : RouterId). r.0 < length t.routers) (routers_of t d)
routers-low t d = each-filter (λ (r : RouterId). r.0 < length t.routers) (λ r. (device_of t r).0 == d.0) (routers_from 0 t.tables)
    (numbers-low 0 (length t.routers) t.tables (let long : length t.tables ≡ length t.routers = tables-long t in omega arith))

-- an entry of the network without an object
abbrev IsFlat : Topology → Entry → Type 0
IsFlat t e = IsEntryOf t e × HasNoObject e

entry-flat : (t : Topology) (before : List Entry) (e : Entry) → AllByRecursion (IsEntryOf t) before → IsEntryOf t e → IsLive t before e → AllByRecursion (IsFlat t) (flat_entry t before e)
entry-flat t before (Link j l down) earlier sound live = ((sound, tt), tt)
entry-flat t before (Route r n (ops.Set p m v)) earlier sound live = ((sound, tt), tt)
entry-flat t before (Route r n (ops.Clear p m)) earlier sound live = ((sound, tt), tt)
entry-flat t before (Route r n (ops.SetBy p m id)) earlier sound live =
    (((sound.0, live-does t id (objects t before r) (does-from t (device_of t r) [] before earlier tt) live), tt), tt)
entry-flat t before (Route r n (ops.Object id v)) earlier sound live =
    each-of (λ (q : RouterId). q.0 < length t.routers) (IsFlat t) (λ q. map (λ (x : route.Route). Route q n (ops.Set x.prefix x.metric v)) (routes_by t before id q)) (routers_of t r) (routers-low t r)
    (λ q low. each-map (IsFlat t) (λ (x : route.Route). Route q n (ops.Set x.prefix x.metric v)) (routes_by t before id q) (λ x. ((low, sound.1.1), tt)))
entry-flat t before (Route r n (ops.NoObject id)) earlier sound live =
    each-of (λ (q : RouterId). q.0 < length t.routers) (IsFlat t) (λ q. map (λ (x : route.Route). Route q n (ops.Clear x.prefix (Some x.metric))) (routes_by t before id q)) (routers_of t r) (routers-low t r)
    (λ q low. each-map (IsFlat t) (λ (x : route.Route). Route q n (ops.Clear x.prefix (Some x.metric))) (routes_by t before id q) (λ x. ((low, tt), tt)))

all-flat : (t : Topology) (before es : List Entry) → AllByRecursion (IsEntryOf t) before → AllByRecursion (IsEntryOf t) es → AreLiveFrom t before es → AllByRecursion (IsFlat t) (flat_from t before es)
all-flat t before [] earlier sound live = tt
all-flat t before (e ∷ es) earlier sound live =
    each-append (IsFlat t) (flat_entry t before e) (flat_from t (before ++ e ∷ []) es) (entry-flat t before e earlier sound.0 live.0)
    (all-flat t (before ++ e ∷ []) es (each-append (IsEntryOf t) before (e ∷ []) earlier (sound.0, tt)) sound.1 live.1)

-- where each object is there when a route by it is set, the flat history is one of the network, without objects
pub flat_has_no_objects : (t : Topology) (history : List Entry) → All (IsEntryOf t) history → AreLive t history → All (IsEntryOf t) (flat t history) × All HasNoObject (flat t history)
flat_has_no_objects t history sound live =
    let each : All (IsFlat t) (flat t history) = All-from_recursion (IsFlat t) (flat t history) (all-flat t [] history tt (recursion_from_All (IsEntryOf t) history sound) live) in
    (All-weaker (IsFlat t) (IsEntryOf t) (λ e h. h.0) (flat t history) each, All-weaker (IsFlat t) HasNoObject (λ e h. h.1) (flat t history) each)
