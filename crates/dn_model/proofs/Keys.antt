-- Tables have each key once, so the order of a table doesn't matter.
use Rattle.std.proofs.Common.{◌≡◌, ℕ, ◌+◌, ◌-◌, ◌*◌, ◌/◌, ◌%◌, ◌^◌, ◌<◌, ◌≤◌, ◌⊎◌, ◌∙◌, ◌&&◌, ◌||◌, not, Bool, true, false, Option, Some, None, List, [], ◌∷◌, ◌++◌, filter, fold, refl, ap, sym, subst, ⊎_elim, arith, eqb, ltb, leb}
use Rattle.std.specs.List.{list_any, Contains}
use Rattle.std.specs.List.Sorted.{IsPermutation}
use Rattle.std.proofs.lemmas.Bool.{cases_lt, cases_order, both_ways, and_parts, and_from, or_parts, or_from, or_left, or_right, not-true, not_from_false, eq-eqb, leb-true, ltb-true, cond_both, and_left, false_from_ne_true}
use Rattle.std.proofs.lemmas.Bool.Decides.{nat_tests}
use Rattle.std.proofs.lemmas.List.Folds.{list_any-append}
use Rattle.std.proofs.lemmas.List.Sorted.{Contains-permutation, IsPermutation-sym}
use Rattle.std.proofs.Math.Nat.{mul-le-mul_left}
use Rattle.base.specs.Cidr.{Cidr, IsCidr, covers, size}
use Rattle.base.specs.Lists.{all_differ}
use Rattle.base.specs.declared.ids.RouterId.{RouterId}
use Rattle.dn_model.specs.declared.entry.Entry.{Entry}
use Rattle.dn_model.specs.declared.entry.Op.{Op}
use Rattle.dn_model.specs.declared.entry.Op.TheVariants as ops
use Rattle.dn_model.specs.declared.table_op.TableOp.{TableOp}
use Rattle.dn_model.specs.declared.table_op.TableOp.TheVariants.{Put, Clear}
use Rattle.dn_model.specs.declared.way.Way.TheVariants.{Straight, By}
use Rattle.dn_model.specs.Tables.{replaces_prefix}
use Rattle.dn_model.specs.declared.entry.Route.{Route}
use Rattle.dn_model.specs.declared.topology.Topology.{Topology}
use Rattle.dn_model.specs.Table.{goes_before, best, is_of_prefix, has_key, is_by, is_replaced, same_key, after_op, after_table_op, ops_on, table, HasKeysOnce, IsBest}
use Rattle.dn_model.proofs.Best.{best-is}
use Rattle.base.proofs.Elements.{contains-cases, contains-none}

-- ---- tests that no two elements pass

any-filter : {X : Type 0} (q p : X → Bool) (xs : List X) → list_any q xs ≡ false → list_any q (filter p xs) ≡ false
any-filter {X} q p [] h = refl
any-filter {X} q p (x ∷ xs) h =
    let parts : (q x ≡ false) × (list_any q xs ≡ false) = or_parts (q x) (list_any q xs) h in
    let rest : list_any q (filter p xs) ≡ false = any-filter q p xs parts.1 in
    let P : List X → Type 0 = λ ys. list_any q ys ≡ false in
    cond_both (p x) (x ∷ filter p xs) (filter p xs) P (λ t. or_from (q x) (list_any q (filter p xs)) parts.0 rest) (λ f. rest)

pub differ-filter : {X : Type 0} (same : X → X → Bool) (p : X → Bool) (xs : List X) → all_differ same xs ≡ true → all_differ same (filter p xs) ≡ true
differ-filter {X} same p [] h = refl
differ-filter {X} same p (x ∷ xs) h =
    let parts : (not (list_any (same x) xs) ≡ true) × (all_differ same xs ≡ true) = and_parts (not (list_any (same x) xs)) (all_differ same xs) h in
    let rest : all_differ same (filter p xs) ≡ true = differ-filter same p xs parts.1 in
    let none : list_any (same x) (filter p xs) ≡ false = any-filter (same x) p xs (not-true (list_any (same x) xs) parts.0) in
    let P : List X → Type 0 = λ ys. all_differ same ys ≡ true in
    cond_both (p x) (x ∷ filter p xs) (filter p xs) P (λ t. and_from (not (list_any (same x) (filter p xs))) (all_differ same (filter p xs)) (not_from_false (list_any (same x) (filter p xs)) none) rest) (λ f. rest)

pub differ-push : {X : Type 0} (same : X → X → Bool) (xs : List X) (y : X) → all_differ same xs ≡ true → list_any (λ x. same x y) xs ≡ false → all_differ same (xs ++ y ∷ []) ≡ true
differ-push {X} same [] y h k = refl
differ-push {X} same (x ∷ xs) y h k =
    let parts : (not (list_any (same x) xs) ≡ true) × (all_differ same xs ≡ true) = and_parts (not (list_any (same x) xs)) (all_differ same xs) h in
    let others : (same x y ≡ false) × (list_any (λ z. same z y) xs ≡ false) = or_parts (same x y) (list_any (λ z. same z y) xs) k in
    let rest : all_differ same (xs ++ y ∷ []) ≡ true = differ-push same xs y parts.1 others.1 in
    let last : list_any (same x) (y ∷ []) ≡ false = or_from (same x y) false others.0 refl in
    let none : list_any (same x) (xs ++ y ∷ []) ≡ false = list_any-append (same x) xs (y ∷ []) ∙ or_from (list_any (same x) xs) (list_any (same x) (y ∷ [])) (not-true (list_any (same x) xs) parts.0) last in
    and_from (not (list_any (same x) (xs ++ y ∷ []))) (all_differ same (xs ++ y ∷ [])) (not_from_false (list_any (same x) (xs ++ y ∷ [])) none) rest

-- ---- keys

pub eqb-turned : (m n : ℕ) → eqb m n ≡ eqb n m
eqb-turned m n = grind (arith, nat_tests)

pub key-turned : (x y : Route) → same_key x y ≡ same_key y x
key-turned x y =
    let base : eqb y.prefix.base x.prefix.base ≡ eqb x.prefix.base y.prefix.base = eqb-turned y.prefix.base x.prefix.base in
    let len : eqb y.prefix.len x.prefix.len ≡ eqb x.prefix.len y.prefix.len = eqb-turned y.prefix.len x.prefix.len in
    let metric : eqb y.metric x.metric ≡ eqb x.metric y.metric = eqb-turned y.metric x.metric in
    ap (λ (b : Bool). (b && eqb y.prefix.len x.prefix.len) && eqb y.metric x.metric) base
    ∙ ap (λ (b : Bool). (eqb x.prefix.base y.prefix.base && b) && eqb y.metric x.metric) len
    ∙ ap (λ (b : Bool). (eqb x.prefix.base y.prefix.base && eqb x.prefix.len y.prefix.len) && b) metric

-- what is replaced by a key, or by the prefix alone, has it
key-replaced : (alone : Bool) (y x : Route) → is_replaced alone y.prefix y.metric x ≡ false → has_key y.prefix y.metric x ≡ false
key-replaced true y x h =
    let none : is_of_prefix y.prefix x ≡ false = false_from_ne_true (is_of_prefix y.prefix x) (λ t. both_ways (is_replaced true y.prefix y.metric x) h (and_from (is_of_prefix y.prefix x) true t refl)) in
    and_left (is_of_prefix y.prefix x) (eqb x.metric y.metric) none
key-replaced false y x h = h

-- of the routes that are left none has the key of the new one
key-gone : (alone : Bool) (y : Route) (xs : List Route) → list_any (λ x. same_key x y) (filter (λ r. not (is_replaced alone y.prefix y.metric r)) xs) ≡ false
key-gone alone y [] = refl
key-gone alone y (x ∷ xs) =
    let left : List Route = filter (λ r. not (is_replaced alone y.prefix y.metric r)) xs in
    let P : List Route → Type 0 = λ ys. list_any (λ z. same_key z y) ys ≡ false in
    cond_both (not (is_replaced alone y.prefix y.metric x)) (x ∷ left) left P
    (λ t. or_from (same_key x y) (list_any (λ z. same_key z y) left) (key-turned x y ∙ key-replaced alone y x (not-true (is_replaced alone y.prefix y.metric x) t)) (key-gone alone y xs))
    (λ f. key-gone alone y xs)

pub keys-put : (alone : Bool) (routes : List Route) (op : TableOp) → all_differ same_key routes ≡ true → all_differ same_key (after_table_op alone routes op) ≡ true
keys-put alone routes (Put p m w) h =
    let y : Route = record { prefix = p; metric = m; way = w } in
    differ-push same_key (filter (λ r. not (is_replaced alone p m r)) routes) y (differ-filter same_key (λ r. not (is_replaced alone p m r)) routes h) (key-gone alone y routes)
keys-put alone routes (Clear p None) h = differ-filter same_key (λ r. not (is_of_prefix p r)) routes h
keys-put alone routes (Clear p (Some m)) h = differ-filter same_key (λ r. not (has_key p m r)) routes h

pub keys-after : (alone : Bool) (routes : List Route) (op : Op) → all_differ same_key routes ≡ true → all_differ same_key (after_op alone routes op) ≡ true
keys-after alone routes (ops.Set p m t) h = keys-put alone routes (Put p m (Straight t)) h
keys-after alone routes (ops.SetBy p m id) h = keys-put alone routes (Put p m (By id)) h
keys-after alone routes (ops.Clear p m) h = keys-put alone routes (Clear p m) h
keys-after alone routes (ops.Object id t) h = h
keys-after alone routes (ops.NoObject id) h = differ-filter same_key (λ r. not (is_by id r.way)) routes h

keys-fold : (alone : Bool) (routes : List Route) (all : List Op) → all_differ same_key routes ≡ true → all_differ same_key (fold (after_op alone) routes all) ≡ true
keys-fold alone routes [] h = h
keys-fold alone routes (op ∷ all) h = keys-fold alone (after_op alone routes op) all (keys-after alone routes op h)

-- a table has each key once
pub table-keys : (t : Topology) (history : List Entry) (r : RouterId) → HasKeysOnce (table t history r)
table-keys t history r = keys-fold (replaces_prefix t r) [] (ops_on t r history) refl

-- ---- one route for each key

any-contains : {X : Type 0} (q : X → Bool) (x : X) (xs : List X) → Contains xs x → q x ≡ true → list_any q xs ≡ true
any-contains {X} q x [] h e = absurd (contains-none x h)
any-contains {X} q x (y ∷ ys) h e = ⊎_elim
    (λ (same : y ≡ x). or_left (q y) (list_any q ys) (ap q same ∙ e))
    (λ (rest : Contains ys x). or_right (q y) (list_any q ys) (any-contains q x ys rest e))
    (contains-cases y x ys h)

pub key-once : (xs : List Route) (x y : Route) → all_differ same_key xs ≡ true → Contains xs x → Contains xs y → same_key x y ≡ true → x ≡ y
key-once [] x y h i j e = absurd (contains-none x i)
key-once (z ∷ zs) x y h i j e =
    let parts : (not (list_any (same_key z) zs) ≡ true) × (all_differ same_key zs ≡ true) = and_parts (not (list_any (same_key z) zs)) (all_differ same_key zs) h in
    let none : list_any (same_key z) zs ≡ false = not-true (list_any (same_key z) zs) parts.0 in
    ⊎_elim
    (λ (at_x : z ≡ x). ⊎_elim
    (λ (at_y : z ≡ y). sym at_x ∙ at_y)
    (λ (rest : Contains zs y). absurd (both_ways (list_any (same_key z) zs) none (any-contains (same_key z) y zs rest (ap (λ (w : Route). same_key w y) at_x ∙ e))))
    (contains-cases z y zs j))
    (λ (in_x : Contains zs x). ⊎_elim
    (λ (at_y : z ≡ y). absurd (both_ways (list_any (same_key z) zs) none (any-contains (same_key z) x zs in_x (ap (λ (w : Route). same_key w x) at_y ∙ key-turned y x ∙ e))))
    (λ (in_y : Contains zs y). key-once zs x y parts.1 in_x in_y e)
    (contains-cases z y zs j))
    (contains-cases z x zs i)

-- ---- prefixes of one length that cover one address are one prefix

block-apart : (s q r a : ℕ) → s * r ≤ a → a < s * q + s → q < r → ⊥
block-apart s q r a l h lt =
    let m : s * (q + 1) ≤ s * r = mul-le-mul_left s (let n : q + 1 ≤ r = omega arith in n) in
    omega arith

block-lower : (b c s a : ℕ) → b % s ≡ 0 → c % s ≡ 0 → a < b + s → c ≤ a → b < c → ⊥
block-lower b c s a bz cz bh cl l =
    let b_is : s * (b / s) ≡ b = omega arith in
    let c_is : s * (c / s) ≡ c = omega arith in
    ⊎_elim
    (λ (lt : b / s < c / s). block-apart s (b / s) (c / s) a (omega arith) (omega arith) lt)
    (λ (ge : c / s ≤ b / s). let m : s * (c / s) ≤ s * (b / s) = mul-le-mul_left s ge in omega arith)
    (cases_lt (b / s) (c / s))

block-once : (b c s a : ℕ) → b % s ≡ 0 → c % s ≡ 0 → b ≤ a → a < b + s → c ≤ a → a < c + s → b ≡ c
block-once b c s a bz cz bl bh cl ch = ⊎_elim
    (λ (e : b ≡ c). e)
    (λ (o : (b < c) ⊎ (c < b)). ⊎_elim
    (λ (l : b < c). absurd (block-lower b c s a bz cz bh cl l))
    (λ (l : c < b). absurd (block-lower c b s a cz bz ch bl l))
    o)
    (cases_order b c)

pub base-once : (p q : Cidr) (a : ℕ) → IsCidr p → IsCidr q → p.len ≡ q.len → covers p a ≡ true → covers q a ≡ true → p.base ≡ q.base
base-once p q a sound_p sound_q e in_p in_q =
    let parts_p : (leb p.base a ≡ true) × (ltb a (p.base + size p) ≡ true) = and_parts (leb p.base a) (ltb a (p.base + size p)) in_p in
    let parts_q : (leb q.base a ≡ true) × (ltb a (q.base + size q) ≡ true) = and_parts (leb q.base a) (ltb a (q.base + size q)) in_q in
    let P : ℕ → Type 0 = λ n. q.base % 2 ^ (32 - n) ≡ 0 in
    let Q : ℕ → Type 0 = λ n. a < q.base + 2 ^ (32 - n) in
    block-once p.base q.base (2 ^ (32 - p.len)) a sound_p.aligned (subst P (sym e) sound_q.aligned)
    (leb-true p.base a parts_p.0) (ltb-true a (p.base + size p) parts_p.1) (leb-true q.base a parts_q.0) (subst Q (sym e) (ltb-true a (q.base + size q) parts_q.1))

-- ---- the order of a table

neither-len : (l m k n : ℕ) → (ltb k l || (eqb l k && ltb m n)) ≡ false → (ltb l k || (eqb k l && ltb n m)) ≡ false → l ≡ k
neither-len l m k n h g = grind (arith, nat_tests)

neither-metric : (l m k n : ℕ) → (ltb k l || (eqb l k && ltb m n)) ≡ false → (ltb l k || (eqb k l && ltb n m)) ≡ false → m ≡ n
neither-metric l m k n h g = grind (arith, nat_tests)

pub best-once : (xs ys : List Route) (a : ℕ) → ((r : Route) → Contains xs r → Contains ys r) → ((r : Route) → Contains ys r → Contains xs r) → ((r : Route) → Contains xs r → IsCidr r.prefix) → all_differ same_key xs ≡ true → (o p : Option Route) → IsBest xs a o → IsBest ys a p → o ≡ p
best-once xs ys a to back sound once None None h k = refl
best-once xs ys a to back sound once None (Some y) h k = absurd (both_ways (covers y.prefix a) (h y (back y k.0)) k.1)
best-once xs ys a to back sound once (Some x) None h k = absurd (both_ways (covers x.prefix a) (k x (to x h.0)) h.1)
best-once xs ys a to back sound once (Some x) (Some y) h k =
    let in_y : Contains xs y = back y k.0 in
    let not_y : goes_before y x ≡ false = h.2 y in_y k.1 in
    let not_x : goes_before x y ≡ false = k.2 x (to x h.0) h.1 in
    let len : y.prefix.len ≡ x.prefix.len = neither-len y.prefix.len y.metric x.prefix.len x.metric not_y not_x in
    let metric : y.metric ≡ x.metric = neither-metric y.prefix.len y.metric x.prefix.len x.metric not_y not_x in
    let base : y.prefix.base ≡ x.prefix.base = base-once y.prefix x.prefix a (sound y in_y) (sound x h.0) len k.1 h.1 in
    let prefix : is_of_prefix x.prefix y ≡ true = and_from (eqb y.prefix.base x.prefix.base) (eqb y.prefix.len x.prefix.len) (eq-eqb y.prefix.base x.prefix.base base) (eq-eqb y.prefix.len x.prefix.len len) in
    let key : same_key x y ≡ true = and_from (is_of_prefix x.prefix y) (eqb y.metric x.metric) prefix (eq-eqb y.metric x.metric metric) in
    ap (λ (r : Route). Some r) (key-once xs x y once h.0 in_y key)

-- a table in another order has the same route of each address
pub best-order : (xs ys : List Route) (a : ℕ) → ((r : Route) → Contains xs r → IsCidr r.prefix) → HasKeysOnce xs → IsPermutation xs ys → best xs a ≡ best ys a
best-order xs ys a sound once moved = best-once xs ys a
    (λ r h. Contains-permutation xs ys r moved h)
    (λ r h. Contains-permutation ys xs r (IsPermutation-sym xs ys moved) h)
    sound once (best xs a) (best ys a) (best-is xs a) (best-is ys a)
