-- The routes of a network's updates stay within it.
use Rattle.std.proofs.Common.{◌≡◌, ◌∙◌, ◌==◌, eqb, cond, Bool, true, false, unwrap_or, ℕ, ◌<◌, not, Option, Some, None, List, [], ◌∷◌, length, filter, fold, refl, sym, subst, ⊎_elim}
use Rattle.std.specs.List.{Contains, All}
use Rattle.std.proofs.lemmas.Bool.{cases_Bool, cond_both}
use Rattle.std.proofs.lemmas.List.Elements.{Contains-append_cases, All-contains}
use Rattle.dn_model.specs.Entry.{IsTargetOf, IsOpOf, IsEntryOf, object_op, op_on}
use Rattle.base.specs.declared.ids.RouterId.{RouterId}
use Rattle.base.specs.declared.ids.LinkId.{LinkId}
use Rattle.base.specs.declared.target.Target.{Target}
use Rattle.base.specs.declared.target.Target.TheVariants.{NoRoute, Dropped, Local, Exit, OnLink, To, LinkDown}
use Rattle.dn_model.specs.declared.entry.Entry.{Entry}
use Rattle.dn_model.specs.declared.entry.Op.{Op}
use Rattle.dn_model.specs.declared.entry.Entry.TheVariants.{Route as Route_entry, Link}
use Rattle.dn_model.specs.declared.entry.Op.TheVariants as ops
use Rattle.dn_model.specs.declared.table_op.TableOp.TheVariants.{Put}
use Rattle.dn_model.specs.declared.way.Way.{Way}
use Rattle.dn_model.specs.declared.way.Way.TheVariants.{Straight, By}
use Rattle.base.specs.Cidr.{Cidr}
use Rattle.dn_model.specs.Tables.{device_of, replaces_prefix}
use Rattle.std.specs.Map.{lookup}
use Rattle.dn_model.specs.declared.entry.Route.{Route}
use Rattle.dn_model.specs.declared.topology.Topology.{Topology}
use Rattle.dn_model.specs.Table.{Object, is_by, is_of_prefix, is_replaced, has_key, after_op, after_object, after_table_op, does_after, followed, objects, ops_on, other_objects, table, target_after, best, target_or_none, IsBest}
use Rattle.dn_model.specs.Downs.{downs}
use Rattle.base.specs.Links.{is_down, without}
use Rattle.base.specs.Walk.{at_address, LeadsWithin}
use Rattle.dn_model.specs.Next.{next}
use Rattle.dn_model.proofs.Best.{best-is}
use Rattle.base.proofs.Elements.{contains-here, contains-there, contains-cases, contains-none, filter-contains}

-- what a way says is the network's
abbrev pub IsWayOf : Topology → Way → Type 0
IsWayOf t (Straight target) = IsTargetOf t target
IsWayOf t (By id) = Unit {0}

-- each route has a way that the network has, and each object a target
abbrev pub AreWithin : Topology → List Route → Type 0
AreWithin t routes = (r : Route) → Contains routes r → IsWayOf t r.way

abbrev pub ObjectsWithin : Topology → List Object → Type 0
ObjectsWithin t objects = (o : Object) → Contains objects o → IsTargetOf t o.1

within-put : (t : Topology) (alone : Bool) (routes : List Route) (p : Cidr) (m : ℕ) (w : Way) → AreWithin t routes → IsWayOf t w → AreWithin t (after_table_op alone routes (Put p m w))
within-put t alone routes p m w h k = λ r i. ⊎_elim
    (λ (old : Contains (filter (λ x. not (is_replaced alone p m x)) routes) r). h r (filter-contains (λ x. not (is_replaced alone p m x)) r routes old).0)
    (λ (here : Contains (record { prefix = p; metric = m; way = w } ∷ []) r). ⊎_elim
    (λ (same : record { prefix = p; metric = m; way = w } ≡ r). let P : Route → Type 0 = λ x. IsWayOf t x.way in subst P same k)
    (λ (rest : Contains [] r). absurd (contains-none r rest))
    (contains-cases (record { prefix = p; metric = m; way = w }) r [] here))
    (Contains-append_cases (filter (λ x. not (is_replaced alone p m x)) routes) (record { prefix = p; metric = m; way = w } ∷ []) r i)

within-after : (t : Topology) (q : RouterId) (alone : Bool) (routes : List Route) (op : Op) → AreWithin t routes → IsOpOf t q op → AreWithin t (after_op alone routes op)
within-after t q alone routes (ops.Set p m target) h k = within-put t alone routes p m (Straight target) h k
within-after t q alone routes (ops.SetBy p m id) h k = within-put t alone routes p m (By id) h tt
within-after t q alone routes (ops.Clear p None) h k = λ r i. h r (filter-contains (λ x. not (is_of_prefix p x)) r routes i).0
within-after t q alone routes (ops.Clear p (Some m)) h k = λ r i. h r (filter-contains (λ x. not (has_key p m x)) r routes i).0
within-after t q alone routes (ops.Object id target) h k = h
within-after t q alone routes (ops.NoObject id) h k = λ r i. h r (filter-contains (λ x. not (is_by id x.way)) r routes i).0

objects-after : (t : Topology) (q : RouterId) (objects : List Object) (op : Op) → ObjectsWithin t objects → IsOpOf t q op → ObjectsWithin t (after_object objects op)
objects-after t q objects (ops.Set p m target) h k = h
objects-after t q objects (ops.SetBy p m id) h k = h
objects-after t q objects (ops.Clear p m) h k = h
objects-after t q objects (ops.Object id target) h k = λ o i. ⊎_elim
    (λ (old : Contains (other_objects id objects) o). h o (filter-contains (λ x. not (x.0 == id)) o objects old).0)
    (λ (here : Contains ((id, target) ∷ []) o). ⊎_elim
    (λ (same : (id, target) ≡ o). let P : Object → Type 0 = λ x. IsTargetOf t x.1 in subst P same k.1)
    (λ (rest : Contains [] o). absurd (contains-none o rest))
    (contains-cases (id, target) o [] here))
    (Contains-append_cases (other_objects id objects) ((id, target) ∷ []) o i)
objects-after t q objects (ops.NoObject id) h k = λ o i. h o (filter-contains (λ x. not (x.0 == id)) o objects i).0

-- what an entry of the network does to a router is an update of some router
op-within : (t : Topology) (r : RouterId) (e : Entry) (op : Op) → IsEntryOf t e → op_on t r e ≡ Some op → (q : RouterId) × IsOpOf t q op
op-within t r (Link j l down) op h e = absurd (let n : None ≡ Some op = e in cc)
op-within t r (Route_entry q n o) op h e = (q, by o h.1 (eqb q.0 r.0) (eqb q.0 (device_of t r).0) e)
  where
    by : (o : Op) → IsOpOf t q o → (a b : Bool) → cond a (Some o) (cond b (object_op o) None) ≡ Some op → IsOpOf t q op
    by o k true b e = let same : o ≡ op = cc in subst (IsOpOf t q) same k
    by o k false false e = absurd (let n : None ≡ Some op = e in cc)
    by (ops.Set p m t') k false true e = absurd (let n : None ≡ Some op = e in cc)
    by (ops.SetBy p m id) k false true e = absurd (let n : None ≡ Some op = e in cc)
    by (ops.Clear p m) k false true e = absurd (let n : None ≡ Some op = e in cc)
    by (ops.Object id t') k false true e = let same : ops.Object id t' ≡ op = cc in subst (IsOpOf t q) same k
    by (ops.NoObject id) k false true e = let same : ops.NoObject id ≡ op = cc in subst (IsOpOf t q) same k

ops-within : {X : Type 0} (t : Topology) (r : RouterId) (P : X → Type 0) (step : X → Op → X) → ((q : RouterId) (x : X) (op : Op) → P x → IsOpOf t q op → P (step x op)) → (x : X) (es : List Entry) → P x → ((e : Entry) → Contains es e → IsEntryOf t e) → P (fold step x (ops_on t r es))
ops-within {X = X} t r P step keeps x [] h k = h
ops-within {X = X} t r P step keeps x (e ∷ es) h k = by (op_on t r e) refl (λ y p. ops-within t r P step keeps y es p (λ z i. k z (contains-there e z es i)))
  where
    by : (o : Option Op) → op_on t r e ≡ o → ((y : X) → P y → P (fold step y (ops_on t r es))) → P (fold step x (ops_on t r (e ∷ es)))
    by None n rest = let first : ops_on t r (e ∷ es) ≡ ops_on t r es = rw n refl in subst (λ ops. P (fold step x ops)) (sym first) (rest x h)
    by (Some op) s rest =
        let first : ops_on t r (e ∷ es) ≡ op ∷ ops_on t r es = rw s refl in
        let of : (q : RouterId) × IsOpOf t q op = op-within t r e op (k e (contains-here e es)) s in
        subst (λ ops. P (fold step x ops)) (sym first) (rest (step x op) (keeps of.0 x op h of.1))

without-to : (down : List LinkId) (target : Target) (s : RouterId) (l : LinkId) → without down target ≡ To s l → target ≡ To s l
without-to down NoRoute s l h = cc
without-to down (Dropped kind) s l h = cc
without-to down Local s l h = cc
without-to down (Exit i) s l h = cc
without-to down (OnLink i) s l h = cc
without-to down (LinkDown k) s l h = cc
without-to down (To r k) s l h =
    let P : Target → Type 0 = λ x. x ≡ To s l → To r k ≡ To s l in
    cond_both (is_down down k) (LinkDown k) (To r k) P (λ y e. cc) (λ n e. e) h

followed-within : (t : Topology) (objects : List Object) (id : ℕ) (s : RouterId) (l : LinkId) → ObjectsWithin t objects → unwrap_or (lookup (λ i. i == id) objects) NoRoute ≡ To s l → s.0 < length t.routers
followed-within t [] id s l h e = absurd (let f : NoRoute ≡ To s l = e in cc)
followed-within t (o ∷ os) id s l h e = ⊎_elim
    (λ (y : (o.0 == id) ≡ true).
    let f : unwrap_or (lookup (λ i. i == id) (o ∷ os)) NoRoute ≡ o.1 = rw y refl in
    let at : o.1 ≡ To s l = sym f ∙ e in
    (subst (IsTargetOf t) at (h o (contains-here o os))).0)
    (λ (n : (o.0 == id) ≡ false).
    let f : unwrap_or (lookup (λ i. i == id) (o ∷ os)) NoRoute ≡ unwrap_or (lookup (λ i. i == id) os) NoRoute = rw n refl in
    followed-within t os id s l (λ x i. h x (contains-there o x os i)) (sym f ∙ e))
    (cases_Bool (o.0 == id))

pub within-best : (t : Topology) (objects : List Object) (routes : List Route) (a : ℕ) (o : Option Route) (s : RouterId) (l : LinkId) → ObjectsWithin t objects → AreWithin t routes → IsBest routes a o → target_or_none objects o ≡ To s l → s.0 < length t.routers
within-best t objects routes a None s l g h k e = absurd (let f : NoRoute ≡ To s l = e in cc)
within-best t objects routes a (Some r) s l g h k e = by r.way (h r k.0) e
  where
    by : (w : Way) → IsWayOf t w → followed objects w ≡ To s l → s.0 < length t.routers
    by (Straight x) i e = (subst (IsTargetOf t) e i).0
    by (By id) i e = followed-within t objects id s l g e

-- after a network's updates each router goes on to one of the network, if to any
pub history-within : (t : Topology) (history : List Entry) (down : List LinkId) (a : ℕ) → All (IsEntryOf t) history → LeadsWithin (length t.routers) (at_address (next t history down) a)
history-within t history down a h = λ r s l in' e.
    let each : (x : Entry) → Contains history x → IsEntryOf t x = λ x i. All-contains (IsEntryOf t) history x h i in
    within-best t (objects t history r) (table t history r) a (best (table t history r) a) s l
    (ops-within t (device_of t r) (ObjectsWithin t) after_object (λ q x op. objects-after t q x op) [] history (λ x i. absurd (contains-none x i)) each)
    (ops-within t r (AreWithin t) (after_op (replaces_prefix t r)) (λ q x op. within-after t q (replaces_prefix t r) x op) [] history (λ x i. absurd (contains-none x i)) each)
    (best-is (table t history r) a)
    (without-to (downs history) (target_after t history r a) s l (without-to down (does_after t history r a) s l e))
