-- The order of keys tells keys apart, and the users of an object stand between two keys.
use Rattle.std.proofs.Common.{◌≡◌, ℕ, ◌<◌, ◌≤◌, ◌^◌, ◌&&◌, ◌||◌, ◌==◌, ◌∙◌, not, nat_lt, Bool, true, false, cond, Option, Some, List, [], ◌∷◌, filter, refl, ap, sym, ⊎_elim, arith}
use Rattle.std.specs.BTreeMap.{is_at}
use Rattle.std.specs.BTreeMap.Range.{range_contains}
use Rattle.std.specs.List.{AllByRecursion, IsDistinct, list_any}
use Rattle.std.specs.List.Sorted.{IsStrictlySortedBy}
use Rattle.std.specs.Map.{lookup}
use Rattle.std.specs.Ordering.{eq_by_cmp, is_eq, is_gt, is_le, is_lt, nat_cmp, ordering_then}
use Rattle.std.specs.declared.cmp.Ordering.{Ordering}
use Rattle.std.specs.declared.cmp.Ordering.TheVariants.{Less, Equal, Greater}
use Rattle.std.specs.declared.ops.Bound.TheVariants.{Included}
use Rattle.std.proofs.lemmas.Bool.{and_from, and_parts, both_ways, cases_Bool, eq-eqb, eqb-true, false_from_ne_true, false≢true, not_from_false, or_from}
use Rattle.std.proofs.lemmas.Bool.Decides.{nat_tests}
use Rattle.std.proofs.lemmas.Cmp.{tied_itself}
use Rattle.std.proofs.lemmas.Map.Keys.{IsDistinct-from_sorted}
use Rattle.base.specs.Lists.{all_differ}
use Rattle.base.specs.declared.ids.RouterId.{RouterId}
use Rattle.base.specs.declared.target.Target.{Target}
use Rattle.nexthop_objects.specs.Keys.{first_key, key_of, last_key, object_at, AreUserKeys, IsUserKey}
use Rattle.nexthop_objects.specs.Objects.{Standing, User, cmp_user, has_user, is_object, is_same_object, is_same_user, target_of, user_of, users_among}
use Rattle.nexthop_objects.specs.declared.keys.ObjectKey.{ObjectKey}
use Rattle.nexthop_objects.specs.declared.keys.UserKey.{UserKey}
use Rattle.nexthop_objects.specs.contracts.keys.ObjectKeyOrd.TheImpl.{cmp-value as cmp_objects}
use Rattle.nexthop_objects.specs.contracts.keys.ObjectKeyOrd.TheImpl.Laws as object_laws
use Rattle.nexthop_objects.specs.contracts.keys.UserKeyOrd.TheImpl.{cmp-value as cmp_users}
use Rattle.nexthop_objects.specs.contracts.keys.UserKeyOrd.TheImpl.Laws as user_laws
use Rattle.nexthop_objects.specs.contracts.keys.UserKeyPartialEq.TheImpl.{eq-value as eq_users}

-- ---- tests of keys

all-of : (a b c d e : Bool) → (a && (b && (c && (d && e)))) ≡ (a && (((b && c) && d) && e))
all-of false b c d e = refl
all-of true false c d e = refl
all-of true true false d e = refl
all-of true true true d e = refl

users-eq : (d : RouterId) (i : ℕ) (u : User) (k : UserKey) → eq_users.it (key_of (object_at d i) u) k ≡ (is_object d i k.object && is_same_user u (user_of k))
users-eq d i u k = all-of (is_object d i k.object) (u.0.0 == k.router.0) (u.1.base == k.base) (u.1.len == k.len) (u.2 == k.metric)

-- the test of an object's key
pub at-object : (d : RouterId) (i : ℕ) (k : ObjectKey) → is_at (cmp_objects.it (object_at d i)) k ≡ is_object d i k
at-object d i k = sym (object_laws.matches_eq-law (object_at d i) k)

-- the test of a user's key
pub at-user : (d : RouterId) (i : ℕ) (u : User) (k : UserKey) → is_at (cmp_users.it (key_of (object_at d i) u)) k ≡ (is_object d i k.object && is_same_user u (user_of k))
at-user d i u k = sym (user_laws.matches_eq-law (key_of (object_at d i) u) k) ∙ users-eq d i u k

-- ---- targets

pub lookup-same : (d : RouterId) (i : ℕ) (es : List (ObjectKey × Target)) → lookup (is_at (cmp_objects.it (object_at d i))) es ≡ lookup (is_object d i) es
lookup-same d i [] = refl
lookup-same d i (e ∷ es) = ap (λ b. cond b (Some e.1) (lookup (is_at (cmp_objects.it (object_at d i))) es)) (at-object d i e.0) ∙ ap (λ o. cond (is_object d i e.0) (Some e.1) o) (lookup-same d i es)

-- what is put under one key
pub target-set : (old new : List (ObjectKey × Target)) (s : Standing) (device : RouterId) (id : ℕ) (o : Option Target) → old ≡ s.targets
    → ((q : ObjectKey) → lookup (is_at (cmp_objects.it q)) new ≡ cond (is_at (cmp_objects.it (object_at device id)) q) o (lookup (is_at (cmp_objects.it q)) old))
    → (d : RouterId) (i : ℕ) → lookup (is_object d i) new ≡ cond (is_same_object device id d i) o (target_of s d i)
target-set old new s device id o is h d i =
    sym (lookup-same d i new) ∙ h (object_at d i)
    ∙ ap (λ b. cond b o (lookup (is_at (cmp_objects.it (object_at d i))) old)) (at-object device id (object_at d i))
    ∙ ap (λ p. cond (is_same_object device id d i) o p) (lookup-same d i old ∙ ap (λ es. lookup (is_object d i) es) is)

-- ---- users

pub any-same : (d : RouterId) (i : ℕ) (u : User) (keys : List UserKey) → list_any (is_at (cmp_users.it (key_of (object_at d i) u))) keys ≡ list_any (is_same_user u) (users_among d i keys)
any-same d i u [] = refl
any-same d i u (k ∷ ks) =
    ap (λ b. b || list_any (is_at (cmp_users.it (key_of (object_at d i) u))) ks) (at-user d i u k)
    ∙ ap (λ b. (is_object d i k.object && is_same_user u (user_of k)) || b) (any-same d i u ks)
    ∙ ⊎_elim (λ (y : is_object d i k.object ≡ true). rw y refl) (λ (n : is_object d i k.object ≡ false). rw n refl) (cases_Bool (is_object d i k.object))

-- one key that is put in or taken away
pub user-set : (old new : List UserKey) (s : Standing) (k : UserKey) (device : RouterId) (id : ℕ) (user : User) (b : Bool) → old ≡ s.users → k ≡ key_of (object_at device id) user
    → ((q : UserKey) → list_any (is_at (cmp_users.it q)) new ≡ cond (is_at (cmp_users.it k) q) b (list_any (is_at (cmp_users.it q)) old))
    → (d : RouterId) (i : ℕ) (u : User) → list_any (is_same_user u) (users_among d i new) ≡ cond (is_same_object device id d i && is_same_user user u) b (has_user s d i u)
user-set old new s k device id user b is key h d i u =
    let q : UserKey = key_of (object_at d i) u in
    sym (any-same d i u new) ∙ h q
    ∙ ap (λ z. cond (is_at (cmp_users.it z) q) b (list_any (is_at (cmp_users.it q)) old)) key
    ∙ ap (λ z. cond z b (list_any (is_at (cmp_users.it q)) old)) (at-user device id user q)
    ∙ ap (λ z. cond (is_same_object device id d i && is_same_user user u) b z) (any-same d i u old ∙ ap (λ ks. list_any (is_same_user u) (users_among d i ks)) is)

-- ---- each user once

same-object : (d : RouterId) (i : ℕ) (a b : ObjectKey) → is_object d i a ≡ true → is_object d i b ≡ true → is_object a.device a.id b ≡ true
same-object d i a b h k =
    let x = and_parts (d.0 == a.device.0) (i == a.id) h in
    let y = and_parts (d.0 == b.device.0) (i == b.id) k in
    and_from (a.device.0 == b.device.0) (a.id == b.id)
    (eq-eqb a.device.0 b.device.0 (sym (eqb-true d.0 a.device.0 x.0) ∙ eqb-true d.0 b.device.0 y.0))
    (eq-eqb a.id b.id (sym (eqb-true i a.id x.1) ∙ eqb-true i b.id y.1))

none-same : (d : RouterId) (i : ℕ) (k : UserKey) (ks : List UserKey) → is_object d i k.object ≡ true → AllByRecursion (λ y. eq_by_cmp cmp_users.it k y ≡ false) ks → list_any (is_same_user (user_of k)) (users_among d i ks) ≡ false
none-same d i k [] own h = refl
none-same d i k (y ∷ ys) own h = ⊎_elim
    (λ (by : is_object d i y.object ≡ true).
    let off : is_same_user (user_of k) (user_of y) ≡ false = false_from_ne_true (is_same_user (user_of k) (user_of y))
    (λ same. both_ways (is_at (cmp_users.it k) y) h.0 (at-user k.object.device k.object.id (user_of k) y ∙ and_from (is_object k.object.device k.object.id y.object) (is_same_user (user_of k) (user_of y)) (same-object d i k.object y.object own by) same)) in
    rw by (or_from (is_same_user (user_of k) (user_of y)) (list_any (is_same_user (user_of k)) (users_among d i ys)) off (none-same d i k ys own h.1)))
    (λ (other : is_object d i y.object ≡ false). rw other (none-same d i k ys own h.1))
    (cases_Bool (is_object d i y.object))

distinct-once : (d : RouterId) (i : ℕ) (keys : List UserKey) → IsDistinct (eq_by_cmp cmp_users.it) keys → all_differ is_same_user (users_among d i keys) ≡ true
unfolding IsDistinct
distinct-once d i [] h = refl
distinct-once d i (k ∷ ks) h = ⊎_elim
    (λ (own : is_object d i k.object ≡ true).
    rw own (and_from (not (list_any (is_same_user (user_of k)) (users_among d i ks))) (all_differ is_same_user (users_among d i ks))
    (not_from_false (list_any (is_same_user (user_of k)) (users_among d i ks)) (none-same d i k ks own h.0)) (distinct-once d i ks h.1)))
    (λ (other : is_object d i k.object ≡ false). rw other (distinct-once d i ks h.1))
    (cases_Bool (is_object d i k.object))

-- keys in order stand for each user once
pub sorted-once : (d : RouterId) (i : ℕ) (keys : List UserKey) → IsStrictlySortedBy cmp_users.it keys → all_differ is_same_user (users_among d i keys) ≡ true
sorted-once d i keys h = distinct-once d i keys (IsDistinct-from_sorted cmp_users.it keys h)

-- ---- users in order

after-equal : (a o : Ordering) → is_eq a ≡ true → ordering_then a o ≡ Less → o ≡ Less
after-equal Less o h k = absurd (both_ways false refl h)
after-equal Equal o h k = k
after-equal Greater o h k = absurd (both_ways false refl h)

users-behind : (d : RouterId) (i : ℕ) (k : UserKey) (ks : List UserKey) → is_object d i k.object ≡ true → AllByRecursion (λ y. cmp_users.it k y ≡ Less) ks → AllByRecursion (λ u. cmp_user (user_of k) u ≡ Less) (users_among d i ks)
users-behind d i k [] own h = tt
users-behind d i k (y ∷ ys) own h = ⊎_elim
    (λ (by : is_object d i y.object ≡ true).
    let same : is_eq (cmp_objects.it k.object y.object) ≡ true = at-object k.object.device k.object.id y.object ∙ same-object d i k.object y.object own by in
    rw by (after-equal (cmp_objects.it k.object y.object) (cmp_user (user_of k) (user_of y)) same h.0, users-behind d i k ys own h.1))
    (λ (other : is_object d i y.object ≡ false). rw other (users-behind d i k ys own h.1))
    (cases_Bool (is_object d i y.object))

-- the users of an object stand in their order where all keys do
pub sorted-order : (d : RouterId) (i : ℕ) (keys : List UserKey) → IsStrictlySortedBy cmp_users.it keys → IsStrictlySortedBy cmp_user (users_among d i keys)
unfolding IsStrictlySortedBy
sorted-order d i [] h = tt
sorted-order d i (k ∷ ks) h = ⊎_elim
    (λ (own : is_object d i k.object ≡ true). rw own (users-behind d i k ks own h.0, sorted-order d i ks h.1))
    (λ (other : is_object d i k.object ≡ false). rw other (sorted-order d i ks h.1))
    (cases_Bool (is_object d i k.object))

-- ---- the users of an object between two keys

between : (a r s : Ordering) → is_gt r ≡ false → is_lt s ≡ false → (is_le (ordering_then a r) && not (is_lt (ordering_then a s))) ≡ is_eq a
between Less r s h k = refl
between Greater r s h k = refl
between Equal Less Less h k = absurd (false≢true (sym k))
between Equal Less Equal h k = refl
between Equal Less Greater h k = refl
between Equal Equal Less h k = absurd (false≢true (sym k))
between Equal Equal Equal h k = refl
between Equal Equal Greater h k = refl
between Equal Greater s h k = absurd (false≢true (sym h))

no-greater : (a b : Ordering) → is_gt a ≡ false → is_gt b ≡ false → is_gt (ordering_then a b) ≡ false
no-greater Less b h k = refl
no-greater Equal b h k = k
no-greater Greater b h k = h

no-less : (a b : Ordering) → is_lt a ≡ false → is_lt b ≡ false → is_lt (ordering_then a b) ≡ false
no-less Less b h k = h
no-less Equal b h k = k
no-less Greater b h k = refl

from-least : (n : ℕ) → is_gt (nat_cmp 0 n) ≡ false
from-least n = ⊎_elim
    (λ (y : nat_lt 0 n ≡ true). rw y refl)
    (λ (no_less : nat_lt 0 n ≡ false). let e : (0 == n) ≡ true = grind (arith, nat_tests) in rw (no_less, e) refl)
    (cases_Bool (nat_lt 0 n))

to-greatest : (n m : ℕ) → n ≤ m → is_lt (nat_cmp m n) ≡ false
to-greatest n m l =
    let not_less : nat_lt m n ≡ false = grind (arith, nat_tests) in
    ⊎_elim
    (λ (y : (m == n) ≡ true). rw (not_less, y) refl)
    (λ (z : (m == n) ≡ false). rw (not_less, z) refl)
    (cases_Bool (m == n))

-- a key stands between the least and the greatest of an object's users where it is one of those
pub range-is : (o : ObjectKey) (k : UserKey) → IsUserKey k → range_contains cmp_users.it (Included (first_key o)) (Included (last_key o)) k ≡ is_object o.device o.id k.object
range-is o k sound =
    let router : k.router.0 ≤ 65535 = let l : k.router.0 < 2 ^ 16 = sound.router in omega arith in
    let base : k.base ≤ 4294967295 = let l : k.base < 2 ^ 32 = sound.prefix.base in omega arith in
    let len : k.len ≤ 255 = let l : k.len ≤ 32 = sound.prefix.len in omega arith in
    let metric : k.metric ≤ 4294967295 = let l : k.metric < 2 ^ 32 = sound.metric in omega arith in
    between (cmp_objects.it o k.object) _ _
    (no-greater (nat_cmp 0 k.router.0) _ (from-least k.router.0)
    (no-greater (nat_cmp 0 k.base) _ (from-least k.base)
    (no-greater (nat_cmp 0 k.len) (nat_cmp 0 k.metric) (from-least k.len) (from-least k.metric))))
    (no-less (nat_cmp 65535 k.router.0) _ (to-greatest k.router.0 65535 router)
    (no-less (nat_cmp 4294967295 k.base) _ (to-greatest k.base 4294967295 base)
    (no-less (nat_cmp 255 k.len) (nat_cmp 4294967295 k.metric) (to-greatest k.len 255 len) (to-greatest k.metric 4294967295 metric))))
    ∙ at-object o.device o.id k.object

-- ---- keys of users

key-itself : (k : UserKey) → is_at (cmp_users.it k) k ≡ true
key-itself k = ap is_eq (tied_itself user_laws.total-law k)

any-in : (q : UserKey) (k : UserKey) (ks : List UserKey) → list_any (is_at (cmp_users.it q)) ks ≡ true → list_any (is_at (cmp_users.it q)) (k ∷ ks) ≡ true
any-in q k ks h = rw h (⊎_elim (λ (y : is_at (cmp_users.it q) k ≡ true). rw y refl) (λ (n : is_at (cmp_users.it q) k ≡ false). rw n refl) (cases_Bool (is_at (cmp_users.it q) k)))

pub each-key : (keys : List UserKey) → AreUserKeys keys → AllByRecursion IsUserKey keys
each-key [] h = tt
each-key (k ∷ ks) h = (h k (rw (key-itself k) refl), each-key ks (λ q i. h q (any-in q k ks i)))

pub each-filtered : (p : UserKey → Bool) (keys : List UserKey) → AllByRecursion IsUserKey keys → AllByRecursion IsUserKey (filter p keys)
each-filtered p [] h = tt
each-filtered p (k ∷ ks) h = ⊎_elim
    (λ (y : p k ≡ true). rw y (h.0, each-filtered p ks h.1))
    (λ (n : p k ≡ false). rw n (each-filtered p ks h.1))
    (cases_Bool (p k))

-- the keys between the two are those of the object's users
pub filter-range : (o : ObjectKey) (keys : List UserKey) → AllByRecursion IsUserKey keys → filter (range_contains cmp_users.it (Included (first_key o)) (Included (last_key o))) keys ≡ filter (λ k. is_object o.device o.id k.object) keys
filter-range o [] h = refl
filter-range o (k ∷ ks) h =
    ap (λ b. cond b (k ∷ filter (range_contains cmp_users.it (Included (first_key o)) (Included (last_key o))) ks) (filter (range_contains cmp_users.it (Included (first_key o)) (Included (last_key o))) ks)) (range-is o k h.0)
    ∙ ap (λ ys. cond (is_object o.device o.id k.object) (k ∷ ys) ys) (filter-range o ks h.1)

pub range-keys : (o : ObjectKey) (first last : UserKey) (keys found : List UserKey) → AreUserKeys keys → first ≡ first_key o → last ≡ last_key o → found ≡ filter (range_contains cmp_users.it (Included first) (Included last)) keys → found ≡ filter (λ k. is_object o.device o.id k.object) keys
range-keys o first last keys found sound at_first at_last h =
    h
    ∙ ap (λ z. filter (range_contains cmp_users.it (Included z) (Included last)) keys) at_first
    ∙ ap (λ z. filter (range_contains cmp_users.it (Included (first_key o)) (Included z)) keys) at_last
    ∙ filter-range o keys (each-key keys sound)
