-- Tables stay tables, and an update makes of one what it says.
use Rattle.std.proofs.Common.{◌≡◌, ◌∙◌, ◌||◌, ℕ, ◌+◌, ◌<◌, ◌≤◌, zero, suc, not, Bool, true, false, Some, None, Option, List, [], ◌∷◌, ◌++◌, map, length, get_or, set, filter, refl, ap, sym, subst, ⊎_elim, arith, eqb}
use Rattle.std.specs.List.{AllByRecursion, Contains, insert, list_any}
use Rattle.std.specs.List.Sorted.{IsPermutation}
use Rattle.std.proofs.lemmas.Bool.{and_from, and_left, cases_Bool, eqb-true, false_from_ne_true, not_from_false, or_from}
use Rattle.std.proofs.lemmas.List.{get_or_default, set-get_or}
use Rattle.std.proofs.lemmas.List.Elements.{Contains-get_or, Contains-append_cases, Contains-append_left, Contains-append_right, Contains-push_cases}
use Rattle.std.proofs.lemmas.List.Sorted.{IsPermutation-map, IsPermutation-refl}
use Rattle.base.specs.Cidr.{Cidr, IsCidr}
use Rattle.dn_model.specs.Routes.{IsTable}
use Rattle.dn_model.specs.Table.{HasKeysOnce, after_table_op, has_key, is_of_prefix, is_replaced, same_key}
use Rattle.base.specs.Lists.{all_differ}
use Rattle.dn_model.specs.declared.table_op.TableOp.TheVariants.{Put, Clear}
use Rattle.dn_model.specs.declared.entry.Route.{Route}
use Rattle.dn_model.specs.declared.way.Way.{Way}
use Rattle.base.proofs.Elements.{contains-filter, contains-here, contains-none, contains-there, filter-contains}
use Rattle.base.proofs.Elements.{contains-map, map-contains}
use Rattle.dn_model.proofs.Keys.{key-once, keys-put}
use Rattle.dn_model.proofs.SamePermutation.{permutation-same}
use Rattle.route_table.specs.Above.{HasLength}
use Rattle.route_table.specs.Ascending.{AscendsFrom, IsFound, IsGap}
use Rattle.route_table.specs.Slots.{AreSlots, IsAddedAt, IsSlot, PrefixRoutes, key_of, routes_at, routes_of, slot_key}
use Rattle.route_table.specs.Targets.{cleared, metric_of, route_at, with_target}
use Rattle.route_table.specs.Whole.{IsWhole}
use Rattle.route_table.specs.declared.metric_way.MetricWay.{MetricWay}
use Rattle.route_table.proofs.Kept.{kept-insert, kept-set}
use Rattle.route_table.proofs.Places.{all-from, ascends-insert, ascends-set, found-inside, found-key}
use Rattle.route_table.proofs.Prefixes.{Keeps, found-cleared, found-set, gap-add, gap-kept, gap-none, in-slot, key-exact, none-at, only-slot, others-at, alone-at, own-key, rest-none, set-at}

-- ---- every slot

all-at : (xs : List PrefixRoutes) (i : ℕ) (d : PrefixRoutes) → AllByRecursion IsSlot xs → i < length xs → IsSlot (get_or xs i d)
all-at [] i d h l = absurd (omega arith)
all-at (x ∷ xs) zero d h l = h.0
all-at (x ∷ xs) (suc i) d h l = all-at xs i d h.1 (omega arith)

all-set : (xs : List PrefixRoutes) (i : ℕ) (v : PrefixRoutes) → AllByRecursion IsSlot xs → IsSlot v → AllByRecursion IsSlot (set xs i v)
all-set [] i v h s = tt
all-set (x ∷ xs) zero v h s = (s, h.1)
all-set (x ∷ xs) (suc i) v h s = (h.0, all-set xs i v h.1 s)

all-insert : (xs : List PrefixRoutes) (i : ℕ) (v : PrefixRoutes) → AllByRecursion IsSlot xs → IsSlot v → AllByRecursion IsSlot (insert xs i v)
all-insert [] zero v h s = (s, tt)
all-insert [] (suc i) v h s = (s, tt)
all-insert (x ∷ xs) zero v h s = (s, h)
all-insert (x ∷ xs) (suc i) v h s = (h.0, all-insert xs i v h.1 s)

-- ---- a table has each prefix and metric once

none-any : (q : Route → Bool) (rs : List Route) → ((r : Route) → Contains rs r → q r ≡ false) → list_any q rs ≡ false
none-any q [] h = refl
none-any q (r ∷ rs) h = or_from (q r) (list_any q rs) (h r (contains-here r rs)) (none-any q rs (λ s i. h s (contains-there r s rs i)))

slot-differ : (p : Cidr) (start : ℕ) (ys : List MetricWay) (rs : List Route) → AscendsFrom metric_of start ys → ((r : Route) → Contains rs r → is_of_prefix p r ≡ false) → HasKeysOnce rs → HasKeysOnce (map (route_at p) ys ++ rs)
slot-differ p start [] rs h none once = once
slot-differ p start (y ∷ ys) rs h none once =
    let more : List Route = map (route_at p) ys ++ rs in
    and_from (not (list_any (same_key (route_at p y)) more)) (all_differ same_key more)
    (not_from_false (list_any (same_key (route_at p y)) more) (none-any (same_key (route_at p y)) more (λ r i. ⊎_elim
    (λ (here : Contains (map (route_at p) ys) r).
    let w : (z : MetricWay) × Contains ys z × (route_at p z ≡ r) = contains-map (route_at p) ys r here in
    let above : y.metric + 1 ≤ w.0.metric = all-from metric_of (y.metric + 1) ys w.0 h.1 w.1 in
    ap (has_key p y.metric) (sym w.2) ∙ own-key p y.metric w.0 ∙ false_from_ne_true (eqb w.0.metric y.metric) (λ t. let e : w.0.metric ≡ y.metric = eqb-true w.0.metric y.metric t in absurd (omega arith)))
    (λ (there : Contains rs r). and_left (is_of_prefix p r) (eqb r.metric y.metric) (none r there))
    (Contains-append_cases (map (route_at p) ys) rs r i))))
    (slot-differ p (y.metric + 1) ys rs h.1 none once)

keys-of : (start : ℕ) (xs : List PrefixRoutes) → AscendsFrom slot_key start xs → AllByRecursion IsSlot xs → HasKeysOnce (routes_of xs)
keys-of start [] h each = refl
keys-of start (x ∷ xs) h each = slot-differ x.prefix 0 x.targets (routes_of xs) each.0.metrics (λ r i. rest-none x.prefix (slot_key x + 1) xs r h.1 (omega arith) i) (keys-of (slot_key x + 1) xs h.1 each.1)

prefixes-of : (xs : List PrefixRoutes) (r : Route) → AllByRecursion IsSlot xs → Contains (routes_of xs) r → IsCidr r.prefix
prefixes-of [] r each i = absurd (contains-none r i)
prefixes-of (x ∷ xs) r each i = ⊎_elim
    (λ (here : Contains (routes_at x) r).
    let w : (y : MetricWay) × Contains x.targets y × (route_at x.prefix y ≡ r) = contains-map (route_at x.prefix) x.targets r here in
    subst (λ (s : Route). IsCidr s.prefix) w.2 each.0.sound)
    (λ (there : Contains (routes_of xs) r). prefixes-of xs r each.1 there)
    (Contains-append_cases (routes_at x) (routes_of xs) r i)

pub table-of : (slots : List PrefixRoutes) (now : List Route) → AreSlots slots → routes_of slots ≡ now → IsTable now
table-of slots now h view = subst (λ rs. IsTable rs) view (record { keys = keys-of 0 slots h.keys h.each; prefixes = λ r i. prefixes-of slots r h.each i })

-- ---- the slot of a prefix

pub found-prefix : (slots : List PrefixRoutes) (p : Cidr) (i : ℕ) (d : PrefixRoutes) → AreSlots slots → IsCidr p → IsFound slot_key slots (key_of p) i → (get_or slots i d).prefix ≡ p
found-prefix slots p i d h sound f = key-exact (get_or slots i d).prefix p (all-at slots i d h.each (found-inside slot_key slots (key_of p) i f)).sound sound (found-key slot_key slots (key_of p) i d f)

-- another slot of the prefix in the place of its slot
pub put-whole : (slots : List PrefixRoutes) (lengths : List Bool) (p : Cidr) (i : ℕ) (v : PrefixRoutes) → IsWhole slots lengths → IsCidr p → IsFound slot_key slots (key_of p) i → v.prefix ≡ p → AscendsFrom metric_of 0 v.targets → IsWhole (set slots i v) lengths
put-whole slots lengths p i v h sound f is metrics =
    let inside : i < length slots = found-inside slot_key slots (key_of p) i f in
    let same : (get_or slots i v).prefix ≡ v.prefix = found-prefix slots p i v h.form sound f ∙ sym is in
    record {
      form = record {
        keys = ascends-set slot_key 0 slots (key_of p) i v h.form.keys f (ap key_of is);
        each = all-set slots i v h.form.each (record { sound = subst (λ q. IsCidr q) (sym is) sound; metrics = metrics });
      };
      kept = kept-set slots i v lengths h.kept (subst (λ (q : Cidr). get_or lengths q.len true ≡ true) same (h.kept (get_or slots i v) (Contains-get_or slots i v inside)));
    }

pub keeps-key : (p : Cidr) (m : ℕ) → Keeps (λ r. not (has_key p m r)) p
keeps-key p m r e = not_from_false (has_key p m r) (and_left (is_of_prefix p r) (eqb r.metric m) e)

pub keeps-replaced : (alone : Bool) (p : Cidr) (m : ℕ) → Keeps (λ r. not (is_replaced alone p m r)) p
keeps-replaced alone p m r e = not_from_false (is_replaced alone p m r) (and_left (is_of_prefix p r) (alone || eqb r.metric m) e)

pub keeps-prefix : (p : Cidr) → Keeps (λ r. not (is_of_prefix p r)) p
keeps-prefix p r e = not_from_false (is_of_prefix p r) e

-- ---- settings

-- the route with this metric was set among those of a slot
pub record IsSetIn (old new : PrefixRoutes) (m : ℕ) (t : Way) : Type 0 where
  pub same : new.prefix ≡ old.prefix
  pub targets : IsPermutation new.targets (with_target old.targets m t)
  pub metrics : AscendsFrom metric_of 0 new.targets

-- the route with this metric was cleared among those of a slot, or without a metric all of them
pub record IsClearedIn (old new : PrefixRoutes) (metric : Option ℕ) : Type 0 where
  pub same : new.prefix ≡ old.prefix
  pub targets : new.targets ≡ cleared old.targets metric
  pub metrics : AscendsFrom metric_of 0 new.targets

-- so it was in the slot at a place
pub record IsSetAt (old new : List PrefixRoutes) (place : ℕ) (m : ℕ) (t : Way) : Type 0 where
  pub slot : PrefixRoutes
  pub made : (d : PrefixRoutes) → IsSetIn (get_or old place d) slot m t
  pub list : new ≡ set old place slot

pub record IsClearedAt (old new : List PrefixRoutes) (place : ℕ) (metric : Option ℕ) : Type 0 where
  pub slot : PrefixRoutes
  pub made : (d : PrefixRoutes) → IsClearedIn (get_or old place d) slot metric
  pub list : new ≡ set old place slot

pub set-ok : (slots new : List PrefixRoutes) (p : Cidr) (i m : ℕ) (t : Way) → AreSlots slots → IsCidr p → IsFound slot_key slots (key_of p) i → IsSetAt slots new i m t → IsPermutation (routes_of new) (after_table_op false (routes_of slots) (Put p m t))
set-ok slots new p i m t h sound f s =
    let q : Route → Bool = λ r. not (has_key p m r) in
    let route : Route = record { prefix = p; metric = m; way = t } in
    let made : (d : PrefixRoutes) → IsPermutation (routes_at s.slot) (filter q (routes_at (get_or slots i d)) ++ route ∷ []) = λ d.
    let is : (get_or slots i d).prefix ≡ p = found-prefix slots p i d h sound f in
    subst (λ a. IsPermutation (map (route_at a) s.slot.targets) (filter q (routes_at (get_or slots i d)) ++ route ∷ [])) (sym ((s.made d).same ∙ is))
    (subst (λ a. IsPermutation (map (route_at p) s.slot.targets) (filter q (map (route_at a) (get_or slots i d).targets) ++ route ∷ [])) (sym is)
    (set-at p m t (get_or slots i d).targets s.slot.targets (s.made d).targets)) in
    subst (λ xs. IsPermutation (routes_of xs) (after_table_op false (routes_of slots) (Put p m t))) (sym s.list)
    (found-set q p 0 slots i s.slot route (keeps-key p m) h.keys f made)

-- a route that is there already
same-set : (now : List Route) (p : Cidr) (m : ℕ) (t : Way) → IsTable now → Contains now (record { prefix = p; metric = m; way = t }) → IsPermutation now (after_table_op false now (Put p m t))
same-set now p m t table c =
    let route : Route = record { prefix = p; metric = m; way = t } in
    let left : List Route = filter (λ r. not (has_key p m r)) now in
    permutation-same now (after_table_op false now (Put p m t)) table.keys (keys-put false now (Put p m t) table.keys) (record {
      there = λ r i. ⊎_elim
          (λ (k : has_key p m r ≡ true).
          let e : route ≡ r = key-once now route r table.keys c i k in
          subst (λ s. Contains (left ++ route ∷ []) s) e (Contains-append_right left (route ∷ []) route (contains-here route [])))
          (λ (k : has_key p m r ≡ false). Contains-append_left left (route ∷ []) r (contains-filter (λ s. not (has_key p m s)) r now i (not_from_false (has_key p m r) k)))
          (cases_Bool (has_key p m r));
      back = λ r i. ⊎_elim
          (λ (old : Contains left r). (filter-contains (λ s. not (has_key p m s)) r now old).0)
          (λ (e : route ≡ r). subst (λ s. Contains now s) e c)
          (Contains-push_cases left route r i);
    })

pub slot-route : (slots : List PrefixRoutes) (p : Cidr) (i : ℕ) (s : PrefixRoutes) (x : MetricWay) → AreSlots slots → IsCidr p → IsFound slot_key slots (key_of p) i → s ≡ get_or slots i s → Contains s.targets x → Contains (routes_of slots) (route_at p x)
slot-route slots p i s x h sound f is c =
    let same : s.prefix ≡ p = ap (λ (y : PrefixRoutes). y.prefix) is ∙ found-prefix slots p i s h sound f in
    let there : Contains (routes_at s) (route_at p x) = subst (λ a. Contains (routes_at s) (route_at a x)) same (map-contains (route_at s.prefix) s.targets x c) in
    in-slot slots i s (route_at p x) (found-inside slot_key slots (key_of p) i f) (subst (λ (y : PrefixRoutes). Contains (routes_at y) (route_at p x)) is there)

pub set-there : (slots : List PrefixRoutes) (now : List Route) (p : Cidr) (i m : ℕ) (t : Way) (s : PrefixRoutes) → routes_of slots ≡ now → AreSlots slots → IsCidr p → IsFound slot_key slots (key_of p) i → s ≡ get_or slots i s → Contains s.targets (record { metric = m; way = t }) → IsPermutation now (after_table_op false now (Put p m t))
set-there slots now p i m t s view h sound f is c = same-set now p m t (table-of slots now h view)
    (subst (λ rs. Contains rs (record { prefix = p; metric = m; way = t })) view (slot-route slots p i s (record { metric = m; way = t }) h sound f is c))

-- a route put alone in the slot of its prefix
pub alone-ok : (slots : List PrefixRoutes) (p : Cidr) (i m : ℕ) (t : Way) (slot : PrefixRoutes) → AreSlots slots → IsCidr p → IsFound slot_key slots (key_of p) i → slot.prefix ≡ p → IsPermutation slot.targets (record { metric = m; way = t } ∷ []) → IsPermutation (routes_of (set slots i slot)) (after_table_op true (routes_of slots) (Put p m t))
alone-ok slots p i m t slot h sound f same targets =
    let q : Route → Bool = λ r. not (is_replaced true p m r) in
    let route : Route = record { prefix = p; metric = m; way = t } in
    let one : IsPermutation (routes_at slot) (route ∷ []) =
    subst (λ a. IsPermutation (map (route_at a) slot.targets) (route ∷ [])) (sym same) (IsPermutation-map (route_at p) slot.targets (record { metric = m; way = t } ∷ []) targets) in
    let made : (d : PrefixRoutes) → IsPermutation (routes_at slot) (filter q (routes_at (get_or slots i d)) ++ route ∷ []) = λ d.
    let is : (get_or slots i d).prefix ≡ p = found-prefix slots p i d h sound f in
    let none : filter q (routes_at (get_or slots i d)) ≡ [] = ap (λ a. filter q (map (route_at a) (get_or slots i d).targets)) is ∙ alone-at p m (get_or slots i d).targets in
    subst (λ rs. IsPermutation (routes_at slot) (rs ++ route ∷ [])) (sym none) one in
    found-set q p 0 slots i slot route (keeps-replaced true p m) h.keys f made

-- and where it is alone already
pub alone-there : (slots : List PrefixRoutes) (p : Cidr) (i m : ℕ) (t : Way) (s : PrefixRoutes) → AreSlots slots → IsCidr p → IsFound slot_key slots (key_of p) i → s ≡ get_or slots i s → s.targets ≡ record { metric = m; way = t } ∷ [] → IsPermutation (routes_of slots) (after_table_op true (routes_of slots) (Put p m t))
alone-there slots p i m t s h sound f is one =
    let same : s.prefix ≡ p = ap (λ (y : PrefixRoutes). y.prefix) is ∙ found-prefix slots p i s h sound f in
    let kept : set slots i s ≡ slots = ap (λ (y : PrefixRoutes). set slots i y) is ∙ set-get_or slots i s in
    subst (λ xs. IsPermutation (routes_of xs) (after_table_op true (routes_of slots) (Put p m t))) kept
    (alone-ok slots p i m t s h sound f same (subst (λ xs. IsPermutation s.targets xs) one (IsPermutation-refl s.targets)))

-- ---- a first setting

pub add-whole : (slots new : List PrefixRoutes) (lengths marked : List Bool) (route : Route) (i : ℕ) → IsWhole slots lengths → IsGap slot_key slots (key_of route.prefix) i → IsAddedAt slots new i route → marked ≡ set lengths route.prefix.len true → IsWhole new marked
add-whole slots new lengths marked route i h g a is =
    subst (λ xs. IsWhole xs marked) (sym a.list) (record {
      form = record {
        keys = ascends-insert slot_key 0 slots (key_of route.prefix) i a.slot h.form.keys g (omega arith) (ap key_of a.prefix);
        each = all-insert slots i a.slot h.form.each (record { sound = subst (λ q. IsCidr q) (sym a.prefix) a.sound; metrics = a.metrics });
      };
      kept = subst (λ ls. HasLength (insert slots i a.slot) ls) (ap (λ (q : Cidr). set lengths q.len true) a.prefix ∙ sym is) (kept-insert slots i a.slot lengths h.kept);
    })

pub add-ok : (slots new : List PrefixRoutes) (alone : Bool) (added : Route) (i : ℕ) → AreSlots slots → IsGap slot_key slots (key_of added.prefix) i → IsAddedAt slots new i added → IsPermutation (routes_of new) (after_table_op alone (routes_of slots) (Put added.prefix added.metric added.way))
add-ok slots new alone added i h g a =
    let p : Cidr = added.prefix in
    let m : ℕ = added.metric in
    let t : Way = added.way in
    let route : Route = record { prefix = p; metric = m; way = t } in
    let made : IsPermutation (routes_at a.slot) (route ∷ []) =
    subst (λ q. IsPermutation (map (route_at q) a.slot.targets) (route ∷ [])) (sym a.prefix) (IsPermutation-map (route_at p) a.slot.targets (record { metric = m; way = t } ∷ []) a.targets) in
    subst (λ xs. IsPermutation (routes_of xs) (after_table_op alone (routes_of slots) (Put p m t))) (sym a.list)
    (gap-add (λ r. not (is_replaced alone p m r)) p 0 slots i a.slot route (keeps-replaced alone p m) h.keys g made)

-- ---- clearings

slot-cleared : (q : Route → Bool) (p : Cidr) (v old : PrefixRoutes) → v.prefix ≡ p → old.prefix ≡ p → map (route_at p) v.targets ≡ filter q (map (route_at p) old.targets) → routes_at v ≡ filter q (routes_at old)
slot-cleared q p v old vp op h = ap (λ a. map (route_at a) v.targets) vp ∙ h ∙ ap (λ a. filter q (map (route_at a) old.targets)) (sym op)

clear-is : (alone : Bool) (slots new : List PrefixRoutes) (p : Cidr) (i : ℕ) (metric : Option ℕ) → AreSlots slots → IsCidr p → IsFound slot_key slots (key_of p) i → IsClearedAt slots new i metric → routes_of new ≡ after_table_op alone (routes_of slots) (Clear p metric)
clear-is alone slots new p i None h sound f s =
    let q : Route → Bool = λ r. not (is_of_prefix p r) in
    ap routes_of s.list ∙ found-cleared q p 0 slots i s.slot (keeps-prefix p) h.keys f (λ d.
    let is : (get_or slots i d).prefix ≡ p = found-prefix slots p i d h sound f in
    slot-cleared q p s.slot (get_or slots i d) ((s.made d).same ∙ is) is (ap (map (route_at p)) (s.made d).targets ∙ sym (none-at p (get_or slots i d).targets)))
clear-is alone slots new p i (Some m) h sound f s =
    let q : Route → Bool = λ r. not (has_key p m r) in
    ap routes_of s.list ∙ found-cleared q p 0 slots i s.slot (keeps-key p m) h.keys f (λ d.
    let is : (get_or slots i d).prefix ≡ p = found-prefix slots p i d h sound f in
    slot-cleared q p s.slot (get_or slots i d) ((s.made d).same ∙ is) is (ap (map (route_at p)) (s.made d).targets ∙ sym (others-at p m (get_or slots i d).targets)))

moved : (xs ys : List Route) → xs ≡ ys → IsPermutation xs ys
moved xs ys e = subst (λ zs. IsPermutation xs zs) e (IsPermutation-refl xs)

-- a clearing of what isn't there
pub clear-gap : (alone : Bool) (slots : List PrefixRoutes) (now : List Route) (p : Cidr) (i : ℕ) (metric : Option ℕ) → routes_of slots ≡ now → AreSlots slots → IsGap slot_key slots (key_of p) i → IsPermutation now (after_table_op alone now (Clear p metric))
clear-gap alone slots now p i None view h g = moved now (after_table_op alone now (Clear p None)) (sym view ∙ sym (gap-kept (λ r. not (is_of_prefix p r)) p 0 slots i (keeps-prefix p) h.keys g) ∙ ap (λ rs. after_table_op alone rs (Clear p None)) view)
clear-gap alone slots now p i (Some m) view h g = moved now (after_table_op alone now (Clear p (Some m))) (sym view ∙ sym (gap-kept (λ r. not (has_key p m r)) p 0 slots i (keeps-key p m) h.keys g) ∙ ap (λ rs. after_table_op alone rs (Clear p (Some m))) view)

pub clear-none : (alone : Bool) (slots : List PrefixRoutes) (now : List Route) (p : Cidr) (i : ℕ) (metric : Option ℕ) (s : PrefixRoutes) → routes_of slots ≡ now → AreSlots slots → IsCidr p → IsFound slot_key slots (key_of p) i → s ≡ get_or slots i s → cleared s.targets metric ≡ s.targets → IsPermutation now (after_table_op alone now (Clear p metric))
clear-none alone slots now p i metric s view h sound f is same =
    let inside : i < length slots = found-inside slot_key slots (key_of p) i f in
    let at : (d : PrefixRoutes) → s ≡ get_or slots i d = λ d. is ∙ get_or_default slots i s d inside in
    let c : IsClearedAt slots slots i metric = record {
      slot = s;
      made = λ d. record {
        same = ap (λ (y : PrefixRoutes). y.prefix) (at d);
        targets = sym same ∙ ap (λ (y : PrefixRoutes). cleared y.targets metric) (at d);
        metrics = subst (λ (y : PrefixRoutes). AscendsFrom metric_of 0 y.targets) (sym is) (all-at slots i s h.each inside).metrics;
      };
      list = sym (set-get_or slots i s) ∙ ap (λ (y : PrefixRoutes). set slots i y) (sym is);
    } in
    moved now (after_table_op alone now (Clear p metric)) (sym view ∙ clear-is alone slots slots p i metric h sound f c ∙ ap (λ rs. after_table_op alone rs (Clear p metric)) view)

-- ---- the route of a prefix with the least metric

pub least-gap : (slots : List PrefixRoutes) (now : List Route) (p : Cidr) (i : ℕ) → routes_of slots ≡ now → AreSlots slots → IsGap slot_key slots (key_of p) i → (r : Route) → Contains now r → is_of_prefix p r ≡ false
least-gap slots now p i view h g r c = gap-none p 0 slots i r h.keys g (subst (λ rs. Contains rs r) (sym view) c)

at-slot : (slots : List PrefixRoutes) (now : List Route) (p : Cidr) (i : ℕ) (s : PrefixRoutes) (r : Route) → routes_of slots ≡ now → AreSlots slots → IsFound slot_key slots (key_of p) i → s ≡ get_or slots i s → Contains now r → is_of_prefix p r ≡ true → (x : MetricWay) × Contains s.targets x × (route_at s.prefix x ≡ r)
at-slot slots now p i s r view h f is c t =
    let there : Contains (routes_at (get_or slots i s)) r = only-slot p 0 slots i s r h.keys f (subst (λ rs. Contains rs r) (sym view) c) t in
    contains-map (route_at s.prefix) s.targets r (subst (λ (y : PrefixRoutes). Contains (routes_at y) r) (sym is) there)

pub least-none : (slots : List PrefixRoutes) (now : List Route) (p : Cidr) (i : ℕ) (s : PrefixRoutes) → routes_of slots ≡ now → AreSlots slots → IsFound slot_key slots (key_of p) i → s ≡ get_or slots i s → s.targets ≡ [] → (r : Route) → Contains now r → is_of_prefix p r ≡ false
least-none slots now p i s view h f is none r c = false_from_ne_true (is_of_prefix p r) (λ t.
    let w : (x : MetricWay) × Contains s.targets x × (route_at s.prefix x ≡ r) = at-slot slots now p i s r view h f is c t in
    contains-none w.0 (subst (λ xs. Contains xs w.0) none w.1))

pub least-some : (slots : List PrefixRoutes) (now : List Route) (p : Cidr) (i : ℕ) (s : PrefixRoutes) (x : MetricWay) (b : Route) → routes_of slots ≡ now → AreSlots slots → IsCidr p → IsFound slot_key slots (key_of p) i → s ≡ get_or slots i s → Contains s.targets x × ((y : MetricWay) → Contains s.targets y → x.metric ≤ y.metric) → b ≡ route_at p x → Contains now b × (b.prefix ≡ p) × ((r : Route) → Contains now r → is_of_prefix p r ≡ true → b.metric ≤ r.metric)
least-some slots now p i s x b view h sound f is least e =
    subst (λ (c : Route). Contains now c × (c.prefix ≡ p) × ((r : Route) → Contains now r → is_of_prefix p r ≡ true → c.metric ≤ r.metric)) (sym e) (
      subst (λ rs. Contains rs (route_at p x)) view (slot-route slots p i s x h sound f is least.0),
      refl,
      λ r c t.
          let w : (y : MetricWay) × Contains s.targets y × (route_at s.prefix y ≡ r) = at-slot slots now p i s r view h f is c t in
          subst (λ (z : Route). x.metric ≤ z.metric) w.2 (least.1 w.0 w.1),
    )

-- ---- another table's slot in the row of a prefix, without routes

pub empty-whole : (slots : List PrefixRoutes) (lengths : List Bool) (p : Cidr) (i : ℕ) → IsWhole slots lengths → IsCidr p → IsGap slot_key slots (key_of p) i → IsWhole (insert slots i (record { prefix = p; targets = [] })) (set lengths p.len true)
empty-whole slots lengths p i h sound g =
    let v : PrefixRoutes = record { prefix = p; targets = [] } in
    record {
      form = record {
        keys = ascends-insert slot_key 0 slots (key_of p) i v h.form.keys g (omega arith) refl;
        each = all-insert slots i v h.form.each (record { sound = sound; metrics = tt });
      };
      kept = kept-insert slots i v lengths h.kept;
    }

pub empty-adds : (slots : List PrefixRoutes) (p : Cidr) (i : ℕ) → routes_of (insert slots i (record { prefix = p; targets = [] })) ≡ routes_of slots
empty-adds [] p zero = refl
empty-adds [] p (suc i) = refl
empty-adds (s ∷ slots) p zero = refl
empty-adds (s ∷ slots) p (suc i) = ap (λ rs. routes_at s ++ rs) (empty-adds slots p i)
