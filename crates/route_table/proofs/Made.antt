-- An update that was made in the slot of its prefix.
use Rattle.std.proofs.Common.{◌≡◌, ◌≢◌, ◌∙◌, ℕ, ◌-◌, ◌<◌, ◌≤◌, not, Bool, true, Some, None, Option, IfSome, List, [], ◌∷◌, map, length, get_or, set, filter, refl, ap, sym, subst, ⊎_elim, arith, false}
use Rattle.std.specs.List.{Contains, insert, list_any}
use Rattle.std.specs.List.Sorted.{IsPermutation}
use Rattle.std.proofs.lemmas.Bool.{or_left, or_right}
use Rattle.std.proofs.lemmas.List.{get_or-set_other, get_or-set_same}
use Rattle.std.proofs.lemmas.List.Edits.{get_or-insert_at, get_or-insert_below}
use Rattle.std.proofs.lemmas.List.Sorted.{Contains-permutation, IsPermutation-map, IsPermutation-sym}
use Rattle.base.specs.Cidr.{Cidr, IsCidr}
use Rattle.dn_model.specs.Table.{prefix_of_op}
use Rattle.dn_model.specs.Table.{after_table_op, has_key, is_of_prefix}
use Rattle.dn_model.specs.declared.table_op.TableOp.{TableOp}
use Rattle.dn_model.specs.declared.table_op.TableOp.TheVariants.{Put, Clear}
use Rattle.dn_model.specs.declared.entry.Route.{Route}
use Rattle.dn_model.specs.declared.way.Way.{Way}
use Rattle.base.proofs.Elements.{contains-cases, contains-here, contains-none}
use Rattle.route_table.specs.Ascending.{IsFound, IsGap}
use Rattle.base.specs.declared.target.Target.TheVariants.{NoRoute}
use Rattle.dn_model.specs.declared.way.Way.TheVariants.{Straight}
use Rattle.dn_model.specs.declared.way.Way.TheVariants.{Straight}
use Rattle.route_table.specs.Made.{IsFirstIn, IsMade}
use Rattle.route_table.specs.Own.{SetsOrHas}
use Rattle.route_table.specs.Searches.{IsBaseBefore}
use Rattle.route_table.specs.Slots.{AreSlots, IsAddedAt, IsUnchangedBy, IsUpdatedAt, PrefixRoutes, SetsOrHasSome, key_of, routes_at, routes_of, slot_key}
use Rattle.route_table.specs.Targets.{IsFirst, cleared, route_at}
use Rattle.route_table.specs.Whole.{IsWhole}
use Rattle.route_table.specs.declared.metric_way.MetricWay.{MetricWay}
use Rattle.route_table.proofs.Places.{found-insert, found-inside, found-set, gap-inside}
use Rattle.route_table.proofs.Prefixes.{found-left, none-at, others-at, own-prefix}
use Rattle.route_table.proofs.Setting.{entry}
use Rattle.route_table.proofs.Whole.{add-ok, alone-ok, alone-there, clear-gap, clear-none, found-prefix, keeps-key, keeps-prefix, least-gap, least-none, least-some, put-whole, set-ok, set-there, slot-route}

-- what is said of something where it is there
pub where-there : {X : Type 0} (P : X → Type 0) (o : Option X) (x : X) → o ≡ Some x → IfSome o P → P x
where-there P o x e h = subst (λ q. IfSome q P) e h

-- ---- what the first route of a prefix does

-- it is the first of its slot
pub first-in : (slots : List PrefixRoutes) (p : Cidr) (i : ℕ) (s : PrefixRoutes) (o : Option Way) → AreSlots slots → IsCidr p → IsFound slot_key slots (key_of p) i → s ≡ get_or slots i s → IsFirst s.targets o → IsFirstIn (routes_of slots) p o
first-in slots p i s None h sound f is none = λ r c. least-none slots (routes_of slots) p i s refl h f is none r c
first-in slots p i s (Some t) h sound f is first =
    let b : Route = route_at p first.0 in
    let l : Contains (routes_of slots) b × (b.prefix ≡ p) × ((r : Route) → Contains (routes_of slots) r → is_of_prefix p r ≡ true → b.metric ≤ r.metric) = least-some slots (routes_of slots) p i s first.0 b refl h sound f is first.1 refl in
    (b, record { among = l.0; prefix = l.1; least = l.2 }, first.2)

-- the first of one alone
one-first : (xs : List MetricWay) (m : ℕ) (t : Way) → IsPermutation xs (entry m t ∷ []) → IsFirst xs (Some t)
one-first xs m t h = (
  entry m t,
  (
    Contains-permutation (entry m t ∷ []) xs (entry m t) (IsPermutation-sym xs (entry m t ∷ []) h) (contains-here (entry m t) []),
    λ y c. ⊎_elim
        (λ (same : entry m t ≡ y). subst (λ (z : MetricWay). m ≤ z.metric) same (omega arith))
        (λ (more : Contains [] y). absurd (contains-none y more))
        (contains-cases (entry m t) y [] (Contains-permutation xs (entry m t ∷ []) y h c)),
  ),
  refl,
)

-- ---- the slot before that of the prefix

before-set : (slots : List PrefixRoutes) (i : ℕ) (v : PrefixRoutes) (base : Option ℕ) → IfSome base (IsBaseBefore slots i) → IfSome base (IsBaseBefore (set slots i v) i)
before-set slots i v None h = tt
before-set slots i v (Some b) h =
    let some : 0 < i = h.some in
    let apart : i - 1 ≢ i = λ e. absurd (omega arith) in
    record { some = some; base_is = λ d. ap (λ (s : PrefixRoutes). s.prefix.base) (get_or-set_other slots i (i - 1) v d apart) ∙ h.base_is d }

before-insert : (slots : List PrefixRoutes) (i : ℕ) (v : PrefixRoutes) (base : Option ℕ) → i ≤ length slots → IfSome base (IsBaseBefore slots i) → IfSome base (IsBaseBefore (insert slots i v) i)
before-insert slots i v None l h = tt
before-insert slots i v (Some b) l h =
    let some : 0 < i = h.some in
    record { some = some; base_is = λ d. ap (λ (s : PrefixRoutes). s.prefix.base) (get_or-insert_below slots i v d (i - 1) (omega arith) l) ∙ h.base_is d }

-- ---- in a slot that was there

slot-left : (q : Route → Bool) (p : Cidr) (v old : PrefixRoutes) (left : List MetricWay) → v.prefix ≡ p → old.prefix ≡ p → IsPermutation v.targets left → map (route_at p) left ≡ filter q (map (route_at p) old.targets) → IsPermutation (routes_at v) (filter q (routes_at old))
slot-left q p v old left vp op moved is =
    subst (λ a. IsPermutation (map (route_at a) v.targets) (filter q (routes_at old))) (sym vp)
    (subst (λ a. IsPermutation (map (route_at p) v.targets) (filter q (map (route_at a) old.targets))) (sym op)
    (subst (λ rs. IsPermutation (map (route_at p) v.targets) rs) is (IsPermutation-map (route_at p) v.targets left moved)))

update-ok : (slots new : List PrefixRoutes) (alone : Bool) (op : TableOp) (i : ℕ) (first : Option Way) → AreSlots slots → IsCidr (prefix_of_op op) → IsFound slot_key slots (key_of (prefix_of_op op)) i → IsUpdatedAt slots new i alone op first → IsPermutation (routes_of new) (after_table_op alone (routes_of slots) op)
update-ok slots new true (Put p m t) i first h sound f u =
    subst (λ xs. IsPermutation (routes_of xs) (after_table_op true (routes_of slots) (Put p m t))) (sym u.list)
    (alone-ok slots p i m t u.slot h sound f ((u.made u.slot).same ∙ found-prefix slots p i u.slot h sound f) (u.made u.slot).targets)
update-ok slots new false (Put p m t) i first h sound f u = set-ok slots new p i m t h sound f (record {
  slot = u.slot;
  made = λ d. record { same = (u.made d).same; targets = (u.made d).targets; metrics = (u.made d).metrics };
  list = u.list;
})
update-ok slots new alone (Clear p None) i first h sound f u =
    subst (λ xs. IsPermutation (routes_of xs) (after_table_op alone (routes_of slots) (Clear p None))) (sym u.list)
    (found-left (λ r. not (is_of_prefix p r)) p 0 slots i u.slot (keeps-prefix p) h.keys f (λ d.
    let is : (get_or slots i d).prefix ≡ p = found-prefix slots p i d h sound f in
    slot-left (λ r. not (is_of_prefix p r)) p u.slot (get_or slots i d) [] ((u.made d).same ∙ is) is (u.made d).targets (sym (none-at p (get_or slots i d).targets))))
update-ok slots new alone (Clear p (Some m)) i first h sound f u =
    subst (λ xs. IsPermutation (routes_of xs) (after_table_op alone (routes_of slots) (Clear p (Some m)))) (sym u.list)
    (found-left (λ r. not (has_key p m r)) p 0 slots i u.slot (keeps-key p m) h.keys f (λ d.
    let is : (get_or slots i d).prefix ≡ p = found-prefix slots p i d h sound f in
    slot-left (λ r. not (has_key p m r)) p u.slot (get_or slots i d) (cleared (get_or slots i d).targets (Some m)) ((u.made d).same ∙ is) is (u.made d).targets (sym (others-at p m (get_or slots i d).targets))))

pub update-whole : (slots new : List PrefixRoutes) (lengths : List Bool) (alone : Bool) (op : TableOp) (i : ℕ) (first : Option Way) → IsWhole slots lengths → IsCidr (prefix_of_op op) → IsFound slot_key slots (key_of (prefix_of_op op)) i → IsUpdatedAt slots new i alone op first → IsWhole new lengths
update-whole slots new lengths alone op i first h sound f u =
    let p : Cidr = prefix_of_op op in
    subst (λ xs. IsWhole xs lengths) (sym u.list)
    (put-whole slots lengths p i u.slot h sound f ((u.made u.slot).same ∙ found-prefix slots p i u.slot h.form sound f) (u.made u.slot).metrics)

-- where there are some in the slot the prefix has a route
pub slot-has : (slots : List PrefixRoutes) (op : TableOp) (i : ℕ) (s : PrefixRoutes) → AreSlots slots → IsCidr (prefix_of_op op) → IsFound slot_key slots (key_of (prefix_of_op op)) i → s ≡ get_or slots i s → SetsOrHasSome s.targets op → SetsOrHas (routes_of slots) op
slot-has slots (Put p m t) i s h sound f is some = tt
slot-has slots (Clear p m) i s h sound f is some =
    let x : MetricWay = get_or s.targets 0 (entry 0 (Straight NoRoute)) in
    any-of (is_of_prefix p) (routes_of slots) (route_at p x) (slot-route slots p i s x h sound f is (contains-first s.targets (entry 0 (Straight NoRoute)) some)) (own-prefix p x)
  where
    contains-first : (xs : List MetricWay) (d : MetricWay) → 0 < length xs → Contains xs (get_or xs 0 d)
    contains-first [] d l = absurd (omega arith)
    contains-first (y ∷ ys) d l = contains-here y ys

    any-of : (q : Route → Bool) (xs : List Route) (y : Route) → Contains xs y → q y ≡ true → list_any q xs ≡ true
    any-of q [] y k t = absurd (contains-none y k)
    any-of q (z ∷ zs) y k t = ⊎_elim
        (λ (e : z ≡ y). or_left (q z) (list_any q zs) (ap q e ∙ t))
        (λ (more : Contains zs y). or_right (q z) (list_any q zs) (any-of q zs y more t))
        (contains-cases z y zs k)

pub update-is : (slots new : List PrefixRoutes) (lengths : List Bool) (alone : Bool) (op : TableOp) (i : ℕ) (base : Option ℕ) (s : PrefixRoutes) (before first : Option Way) → IsWhole slots lengths → IsCidr (prefix_of_op op) → IsFound slot_key slots (key_of (prefix_of_op op)) i → s ≡ get_or slots i s → IfSome base (IsBaseBefore slots i) → IsFirst s.targets before → SetsOrHasSome s.targets op → IsUpdatedAt slots new i alone op first → IsMade slots new alone op i base before first
update-is slots new lengths alone op i base s before first h sound f is b was some u =
    let p : Cidr = prefix_of_op op in
    let v : PrefixRoutes = u.slot in
    let inside : i < length slots = found-inside slot_key slots (key_of p) i f in
    let same : v.prefix ≡ p = (u.made v).same ∙ found-prefix slots p i v h.form sound f in
    let whole : IsWhole (set slots i v) lengths = put-whole slots lengths p i v h sound f same (u.made v).metrics in
    let found : IsFound slot_key (set slots i v) (key_of p) i = found-set slot_key slots (key_of p) i v f (ap key_of same) in
    record {
      routes = update-ok slots new alone op i first h.form sound f u;
      found = subst (λ xs. IsFound slot_key xs (key_of p) i) (sym u.list) found;
      base_is = subst (λ xs. IfSome base (IsBaseBefore xs i)) (sym u.list) (before-set slots i v base b);
      before_is = first-in slots p i s before h.form sound f is was;
      first_is = subst (λ xs. IsFirstIn (routes_of xs) p first) (sym u.list) (first-in (set slots i v) p i v first whole.form sound found (sym (get_or-set_same slots i v v inside)) (u.made v).first_is);
      had = slot-has slots op i s h.form sound f is some;
    }

-- an update that leaves the slot as it is
pub unchanged-is : (slots : List PrefixRoutes) (alone : Bool) (op : TableOp) (i : ℕ) (s : PrefixRoutes) → AreSlots slots → IsCidr (prefix_of_op op) → IsFound slot_key slots (key_of (prefix_of_op op)) i → s ≡ get_or slots i s → IsUnchangedBy alone s.targets op → IsPermutation (routes_of slots) (after_table_op alone (routes_of slots) op)
unchanged-is slots true (Put p m t) i s h sound f is u = alone-there slots p i m t s h sound f is u
unchanged-is slots false (Put p m t) i s h sound f is u = set-there slots (routes_of slots) p i m t s refl h sound f is u
unchanged-is slots alone (Clear p metric) i s h sound f is u = clear-none alone slots (routes_of slots) p i metric s refl h sound f is u

-- ---- where there was no slot

add-made : (slots new : List PrefixRoutes) (lengths marked : List Bool) (alone : Bool) (route : Route) (i : ℕ) (base : Option ℕ) → IsWhole slots lengths → IsGap slot_key slots (key_of route.prefix) i → IfSome base (IsBaseBefore slots i) → IsAddedAt slots new i route → IsWhole new marked → IsMade slots new alone (Put route.prefix route.metric route.way) i base None (Some route.way)
add-made slots new lengths marked alone route i base h g b a whole =
    let p : Cidr = route.prefix in
    let v : PrefixRoutes = a.slot in
    let inside : i ≤ length slots = gap-inside slot_key slots (key_of p) i g in
    let found : IsFound slot_key new (key_of p) i = subst (λ xs. IsFound slot_key xs (key_of p) i) (sym a.list) (found-insert slot_key slots (key_of p) i v g (ap key_of a.prefix)) in
    let there : v ≡ get_or new i v = sym (ap (λ xs. get_or xs i v) a.list ∙ get_or-insert_at slots i v v inside) in
    record {
      routes = add-ok slots new alone route i h.form g a;
      found = found;
      base_is = subst (λ xs. IfSome base (IsBaseBefore xs i)) (sym a.list) (before-insert slots i v base inside b);
      before_is = λ r c. least-gap slots (routes_of slots) p i refl h.form g r c;
      first_is = first-in new p i v (Some route.way) whole.form a.sound found there (one-first v.targets route.metric route.way a.targets);
      had = tt;
    }

pub add-is : (slots new : List PrefixRoutes) (lengths marked : List Bool) (alone : Bool) (op : TableOp) (route : Route) (i : ℕ) (base : Option ℕ) → op ≡ Put route.prefix route.metric route.way → IsWhole slots lengths → IsGap slot_key slots (key_of (prefix_of_op op)) i → IfSome base (IsBaseBefore slots i) → IsAddedAt slots new i route → IsWhole new marked → IsMade slots new alone op i base None (Some route.way)
add-is slots new lengths marked alone op route i base e h g b a whole =
    subst (λ o. IsGap slot_key slots (key_of (prefix_of_op o)) i → IsMade slots new alone o i base None (Some route.way)) (sym e)
    (λ k. add-made slots new lengths marked alone route i base h k b a whole) g

-- a clearing changes nothing there
pub first-cleared : (slots : List PrefixRoutes) (alone : Bool) (op : TableOp) (p : Cidr) (metric : Option ℕ) (i : ℕ) → op ≡ Clear p metric → AreSlots slots → IsGap slot_key slots (key_of (prefix_of_op op)) i → IsPermutation (routes_of slots) (after_table_op alone (routes_of slots) op)
first-cleared slots alone op p metric i e h g =
    subst (λ o. IsGap slot_key slots (key_of (prefix_of_op o)) i → IsPermutation (routes_of slots) (after_table_op alone (routes_of slots) o)) (sym e)
    (λ k. clear-gap alone slots (routes_of slots) p i metric refl h k) g
