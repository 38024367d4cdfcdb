-- What an update of one prefix turns: what is done at the prefix's own addresses, and nothing else.
use Rattle.std.proofs.Common.{◌≡◌, ℕ, ◌+◌, ◌<◌, ◌≤◌, ◌∙◌, ◌&&◌, ◌||◌, not, cond, Bool, true, false, Option, None, Some, List, [], ◌∷◌, filter, length, fold, refl, ap, sym, subst, ⊎_elim, arith, eqb, ltb}
use Rattle.std.specs.List.{Contains, list_any}
use Rattle.std.specs.List.Sorted.{IsPermutation}
use Rattle.std.proofs.lemmas.Bool.{and_cases, and_left, and_right, ltb-true, and_from, and_parts, both_ways, cases_Bool, cases_lt, eq-eqb, false_from_ne_true, le-ltb, lt-ltb, ltb-false, ne_eqb, not-false, not-true, not_from_false, or_from, or_parts}
use Rattle.std.proofs.lemmas.List.Elements.{Contains-append_cases, Contains-append_left, Contains-push_cases}
use Rattle.base.specs.Cidr.{Cidr, IsCidr, covers, size}
use Rattle.dn_model.specs.Table.{prefix_of_op}
use Rattle.dn_model.specs.Routes.{IsTable}
use Rattle.dn_model.specs.Table.{IsBest, after_table_op, best, better, goes_before, has_key, is_of_prefix, is_replaced, way_in, way_or_none}
use Rattle.dn_model.specs.declared.table_op.TableOp.{TableOp}
use Rattle.dn_model.specs.declared.table_op.TableOp.TheVariants.{Put, Clear}
use Rattle.dn_model.specs.declared.entry.Route.{Route}
use Rattle.dn_model.specs.declared.way.Way.{Way}
use Rattle.dn_model.proofs.Best.{best-is}
use Rattle.base.proofs.Elements.{contains-cases, contains-filter, contains-here, contains-none, contains-there, filter-contains}
use Rattle.base.proofs.Elements.{contains-map}
use Rattle.dn_model.proofs.Keys.{base-once}
use Rattle.base.proofs.Picks.{any-none, any-some}
use Rattle.dn_model.proofs.SameRoutes.{SameRoutes, longest-is-best, only-best, same-permutation}
use Rattle.route_table.specs.Above.{IsAbove, IsDoneAbove, IsFirstAbove, done_by}
use Rattle.route_table.specs.Ascending.{AscendsFrom}
use Rattle.route_table.specs.Made.{IsFirstIn, IsLeastOf}
use Rattle.route_table.specs.Own.{BeginWithin, IsLooked, IsPassed, IsTurned, is_longer_at, is_own}
use Rattle.route_table.specs.Slots.{AreSlots, PrefixRoutes, key_of, routes_at, routes_of, slot_key}
use Rattle.route_table.specs.Targets.{route_at}
use Rattle.route_table.specs.declared.metric_way.MetricWay.{MetricWay}
use Rattle.route_table.proofs.Around.{around-once}
use Rattle.route_table.proofs.Blocks.{covers-from, covers-in, covers-to, nested-from, nested-to, size-some}
use Rattle.route_table.proofs.OwnRuns.{any-of, each-of, route-of}
use Rattle.route_table.proofs.Places.{all-from}
use Rattle.route_table.proofs.Prefixes.{of-prefix}

-- ---- routes of other prefixes

-- two tables have the same routes but for those of a prefix
pub record AreOthers (p : Cidr) (old new : List Route) : Type 0 where
  pub there : (r : Route) → is_of_prefix p r ≡ false → Contains old r → Contains new r
  pub back : (r : Route) → is_of_prefix p r ≡ false → Contains new r → Contains old r

left-there : (q : Route → Bool) (routes : List Route) (r : Route) → q r ≡ false → Contains routes r → Contains (filter (λ x. not (q x)) routes) r
left-there q routes r n i = contains-filter (λ x. not (q x)) r routes i (not_from_false (q r) n)

left-back : (q : Route → Bool) (routes : List Route) (r : Route) → Contains (filter (λ x. not (q x)) routes) r → Contains routes r
left-back q routes r i = (filter-contains (λ x. not (q x)) r routes i).0

after-there : (old : List Route) (alone : Bool) (op : TableOp) (r : Route) → is_of_prefix (prefix_of_op op) r ≡ false → Contains old r → Contains (after_table_op alone old op) r
after-there old alone (Put p m t) r n i = Contains-append_left (filter (λ x. not (is_replaced alone p m x)) old) (record { prefix = p; metric = m; way = t } ∷ []) r (left-there (is_replaced alone p m) old r (and_left (is_of_prefix p r) (alone || eqb r.metric m) n) i)
after-there old alone (Clear p None) r n i = left-there (is_of_prefix p) old r n i
after-there old alone (Clear p (Some m)) r n i = left-there (has_key p m) old r (and_left (is_of_prefix p r) (eqb r.metric m) n) i

own-prefix : (p : Cidr) (r : Route) → r.prefix ≡ p → is_of_prefix p r ≡ true
own-prefix p r e = and_from (eqb r.prefix.base p.base) (eqb r.prefix.len p.len) (eq-eqb r.prefix.base p.base (ap (λ (c : Cidr). c.base) e)) (eq-eqb r.prefix.len p.len (ap (λ (c : Cidr). c.len) e))

after-back : (old : List Route) (alone : Bool) (op : TableOp) (r : Route) → is_of_prefix (prefix_of_op op) r ≡ false → Contains (after_table_op alone old op) r → Contains old r
after-back old alone (Put p m t) r n i =
    let route : Route = record { prefix = p; metric = m; way = t } in
    ⊎_elim
    (λ (j : Contains (filter (λ x. not (is_replaced alone p m x)) old) r). left-back (is_replaced alone p m) old r j)
    (λ (e : route ≡ r). absurd (both_ways (is_of_prefix p r) n (own-prefix p r (ap (λ (x : Route). x.prefix) (sym e)))))
    (Contains-push_cases (filter (λ x. not (is_replaced alone p m x)) old) route r i)
after-back old alone (Clear p None) r n i = left-back (is_of_prefix p) old r i
after-back old alone (Clear p (Some m)) r n i = left-back (has_key p m) old r i

pub others-after : (old new : List Route) (alone : Bool) (op : TableOp) → IsPermutation new (after_table_op alone old op) → AreOthers (prefix_of_op op) old new
others-after old new alone op h =
    let same : SameRoutes new (after_table_op alone old op) = same-permutation new (after_table_op alone old op) h in
    record {
      there = λ r n i. same.back r (after-there old alone op r n i);
      back = λ r n i. after-back old alone op r n (same.there r i);
    }

longer-other : (p : Cidr) (r : Route) → p.len < r.prefix.len → is_of_prefix p r ≡ false
longer-other p r l = and_right (eqb r.prefix.base p.base) (eqb r.prefix.len p.len) (ne_eqb r.prefix.len p.len (λ e. omega arith))

-- ---- own addresses

record IsOwn (routes : List Route) (p : Cidr) (a : ℕ) : Type 0 where
  here : covers p a ≡ true
  none : (r : Route) → Contains routes r → covers r.prefix a ≡ true → p.len < r.prefix.len → ⊥

own : (routes : List Route) (p : Cidr) (a : ℕ) → is_own routes p a ≡ true → IsOwn routes p a
own routes p a h =
    let parts : (covers p a ≡ true) × (not (list_any (is_longer_at p.len a) routes) ≡ true) = and_parts (covers p a) (not (list_any (is_longer_at p.len a) routes)) h in
    record {
      here = parts.0;
      none = λ r i c l. both_ways (is_longer_at p.len a r) (any-none (is_longer_at p.len a) r routes (not-true (list_any (is_longer_at p.len a) routes) parts.1) i) (and_from (ltb p.len r.prefix.len) (covers r.prefix a) (lt-ltb p.len r.prefix.len l) c);
    }

own-moved : (p : Cidr) (old new : List Route) (a : ℕ) → AreOthers p old new → IsOwn new p a → IsOwn old p a
own-moved p old new a o h = record {
  here = h.here;
  none = λ r i c l. h.none r (o.there r (longer-other p r l) i) c l;
}

-- a longer prefix has a route at an address of a prefix
record IsHidden (routes : List Route) (p : Cidr) (a : ℕ) : Type 0 where
  by : Route
  among : Contains routes by
  here : covers by.prefix a ≡ true
  longer : p.len < by.prefix.len

-- at others the prefix has none, or a longer one has a route there
not-own : (routes : List Route) (p : Cidr) (a : ℕ) → is_own routes p a ≡ false → covers p a ≡ true → IsHidden routes p a
not-own routes p a h c = ⊎_elim
    (λ (e : covers p a ≡ false). absurd (both_ways (covers p a) e c))
    (λ (e : not (list_any (is_longer_at p.len a) routes) ≡ false).
    let w : (r : Route) × Contains routes r × (is_longer_at p.len a r ≡ true) = any-some (is_longer_at p.len a) routes (not-false (list_any (is_longer_at p.len a) routes) e) in
    let parts : (ltb p.len w.0.prefix.len ≡ true) × (covers w.0.prefix a ≡ true) = and_parts (ltb p.len w.0.prefix.len) (covers w.0.prefix a) w.2 in
    record { by = w.0; among = w.1; here = parts.1; longer = ltb-true p.len w.0.prefix.len parts.0 })
    (and_cases (covers p a) (not (list_any (is_longer_at p.len a) routes)) h)

-- ---- what is done at all others

last-before : (r b : Route) → goes_before r b ≡ false → r.prefix.len ≤ b.prefix.len
last-before r b h = ltb-false b.prefix.len r.prefix.len (or_parts (ltb b.prefix.len r.prefix.len) (eqb r.prefix.len b.prefix.len && ltb r.metric b.metric) h).0

shorter-not_before : (r b : Route) → r.prefix.len < b.prefix.len → goes_before r b ≡ false
shorter-not_before r b l = or_from (ltb b.prefix.len r.prefix.len) (eqb r.prefix.len b.prefix.len && ltb r.metric b.metric)
    (le-ltb b.prefix.len r.prefix.len (omega arith))
    (and_left (eqb r.prefix.len b.prefix.len) (ltb r.metric b.metric) (ne_eqb r.prefix.len b.prefix.len (λ e. omega arith)))

module _ (p : Cidr) (old new : List Route) (a : ℕ) (o : AreOthers p old new) (hidden : covers p a ≡ true → IsHidden new p a) where
  -- a route of the prefix that covers the address
  hides : (r : Route) → is_of_prefix p r ≡ true → covers r.prefix a ≡ true → IsHidden new p a
  hides r t c = hidden (subst (λ (q : Cidr). covers q a ≡ true) (of-prefix p r t) c)

  p-len : (r : Route) → is_of_prefix p r ≡ true → r.prefix.len ≡ p.len
  p-len r t = ap (λ (q : Cidr). q.len) (of-prefix p r t)

  best-carried : (b : Option Route) → IsBest new a b → IsBest old a b
  best-carried None h = λ r i. ⊎_elim
      (λ (t : is_of_prefix p r ≡ true). false_from_ne_true (covers r.prefix a) (λ c.
      let w : IsHidden new p a = hides r t c in
      both_ways (covers w.by.prefix a) (h w.by w.among) w.here))
      (λ (f : is_of_prefix p r ≡ false). h r (o.there r f i))
      (cases_Bool (is_of_prefix p r))
  best-carried (Some b) h =
      let other : is_of_prefix p b ≡ false = false_from_ne_true (is_of_prefix p b) (λ t.
      let w : IsHidden new p a = hides b t h.1 in
      let longer : p.len < w.by.prefix.len = w.longer in
      let most : w.by.prefix.len ≤ b.prefix.len = last-before w.by b (h.2 w.by w.among w.here) in
      let same : b.prefix.len ≡ p.len = p-len b t in
      omega arith) in (
        o.back b other h.0,
        h.1,
        λ r i c. ⊎_elim
            (λ (t : is_of_prefix p r ≡ true).
            let w : IsHidden new p a = hides r t c in
            let longer : p.len < w.by.prefix.len = w.longer in
            let most : w.by.prefix.len ≤ b.prefix.len = last-before w.by b (h.2 w.by w.among w.here) in
            let same : r.prefix.len ≡ p.len = p-len r t in
            shorter-not_before r b (omega arith))
            (λ (f : is_of_prefix p r ≡ false). h.2 r (o.there r f i) c)
            (cases_Bool (is_of_prefix p r)),
      )

  away-same : IsTable old → way_in new a ≡ way_in old a
  away-same table = ap way_or_none (only-best old a (best new a) table (best-carried (best new a) (best-is new a)))

pub away : (p : Cidr) (old new : List Route) (a : ℕ) → AreOthers p old new → IsTable old → is_own new p a ≡ false → way_in new a ≡ way_in old a
away p old new a o table h = away-same p old new a o (λ c. not-own new p a h c) table

-- ---- own addresses are alike

alike-one : (p : Cidr) (routes : List Route) (a b : ℕ) (r : Route) → IsCidr p → IsTable routes → IsOwn routes p a → IsOwn routes p b → Contains routes r → covers r.prefix a ≡ true → covers r.prefix b ≡ true
alike-one p routes a b r sp table x y i c = ⊎_elim
    (λ (l : p.len < r.prefix.len). absurd (x.none r i c l))
    (λ (l : r.prefix.len ≤ p.len).
    let sr : IsCidr r.prefix = table.prefixes r i in
    let from : r.prefix.base ≤ p.base = nested-from r.prefix p a sr sp l c x.here in
    let to : p.base + size p ≤ r.prefix.base + size r.prefix = nested-to r.prefix p a sr sp l c x.here in
    let low : p.base ≤ b = covers-from p b y.here in
    let high : b < p.base + size p = covers-to p b y.here in
    covers-in r.prefix b (omega arith) (omega arith))
    (cases_lt p.len r.prefix.len)

alike : (p : Cidr) (routes : List Route) (a b : ℕ) (r : Route) → IsCidr p → IsTable routes → IsOwn routes p a → IsOwn routes p b → Contains routes r → covers r.prefix a ≡ covers r.prefix b
alike p routes a b r sp table x y i = ⊎_elim
    (λ (t : covers r.prefix a ≡ true). t ∙ sym (alike-one p routes a b r sp table x y i t))
    (λ (f : covers r.prefix a ≡ false). f ∙ sym (false_from_ne_true (covers r.prefix b) (λ t. both_ways (covers r.prefix a) f (alike-one p routes b a r sp table y x i t))))
    (cases_Bool (covers r.prefix a))

filter-alike : {X : Type 0} (q s : X → Bool) (xs : List X) → ((x : X) → Contains xs x → q x ≡ s x) → filter q xs ≡ filter s xs
filter-alike q s [] h = refl
filter-alike q s (x ∷ xs) h =
    ap (λ b. cond b (x ∷ filter q xs) (filter q xs)) (h x (contains-here x xs))
    ∙ ap (λ ys. cond (s x) (x ∷ ys) ys) (filter-alike q s xs (λ y i. h y (contains-there x y xs i)))

same-own : (p : Cidr) (routes : List Route) (a b : ℕ) → IsCidr p → IsTable routes → IsOwn routes p a → IsOwn routes p b → way_in routes a ≡ way_in routes b
same-own p routes a b sp table x y =
    ap (λ (rs : List Route). way_or_none (fold better None rs)) (filter-alike (λ (r : Route). covers r.prefix a) (λ (r : Route). covers r.prefix b) routes (λ r i. alike p routes a b r sp table x y i))

-- ---- what is done there

-- where the prefix has a route, what its first does
first-own : (p : Cidr) (routes : List Route) (a : ℕ) (t : Way) → IsCidr p → IsTable routes → IsOwn routes p a → IsFirstIn routes p (Some t) → way_in routes a ≡ t
first-own p routes a t sp table x first =
    let b : Route = first.0 in
    let least : IsLeastOf routes p b = first.1 in
    let len : b.prefix.len ≡ p.len = ap (λ (q : Cidr). q.len) least.prefix in
    let is : IsBest routes a (Some b) =
    longest-is-best routes a b least.among (subst (λ (q : Cidr). covers q a ≡ true) (sym least.prefix) x.here)
    (λ r i c l. x.none r i c (omega arith))
    (λ r i c e. least.least r i (around-once routes p a r table sp x.here i (e ∙ len) c)) in
    sym (ap way_or_none (only-best routes a (Some b) table is)) ∙ first.2

-- each prefix has one slot
slot-once : (start : ℕ) (slots : List PrefixRoutes) (y z : PrefixRoutes) → AscendsFrom slot_key start slots → Contains slots y → Contains slots z → slot_key y ≡ slot_key z → y ≡ z
slot-once start [] y z h i j e = absurd (contains-none y i)
slot-once start (s ∷ slots) y z h i j e = ⊎_elim
    (λ (here : s ≡ y). ⊎_elim
    (λ (there : s ≡ z). sym here ∙ there)
    (λ (more : Contains slots z).
    let l : slot_key s + 1 ≤ slot_key z = all-from slot_key (slot_key s + 1) slots z h.1 more in
    let m : slot_key s ≡ slot_key y = ap slot_key here in
    absurd (omega arith))
    (contains-cases s z slots j))
    (λ (rest : Contains slots y). ⊎_elim
    (λ (there : s ≡ z).
    let l : slot_key s + 1 ≤ slot_key y = all-from slot_key (slot_key s + 1) slots y h.1 rest in
    let m : slot_key s ≡ slot_key z = ap slot_key there in
    absurd (omega arith))
    (λ (more : Contains slots z). slot-once (slot_key s + 1) slots y z h.1 rest more e)
    (contains-cases s z slots j))
    (contains-cases s y slots i)

-- where it has none, what is done by the longest that holds it
module _ (p : Cidr) (slots : List PrefixRoutes) (a : ℕ) (form : AreSlots slots) (sp : IsCidr p) (table : IsTable (routes_of slots)) (x : IsOwn (routes_of slots) p a) (none : IsFirstIn (routes_of slots) p None) where
  -- the slot of a route
  record Stands (r : Route) : Type 0 where
    slot : PrefixRoutes
    target : MetricWay
    inside : Contains slots slot
    listed : Contains slot.targets target
    is : route_at slot.prefix target ≡ r

  stands-in : (xs : List PrefixRoutes) (r : Route) → ((s : PrefixRoutes) → Contains xs s → Contains slots s) → Contains (routes_of xs) r → Stands r
  stands-in [] r into i = absurd (contains-none r i)
  stands-in (s ∷ xs) r into i = ⊎_elim
      (λ (j : Contains (routes_at s) r).
      let w : (y : MetricWay) × Contains s.targets y × (route_at s.prefix y ≡ r) = contains-map (route_at s.prefix) s.targets r j in
      record { slot = s; target = w.0; inside = into s (contains-here s xs); listed = w.1; is = w.2 })
      (λ (j : Contains (routes_of xs) r). stands-in xs r (λ y k. into y (contains-there s y xs k)) j)
      (Contains-append_cases (routes_at s) (routes_of xs) r i)

  stands : (r : Route) → Contains (routes_of slots) r → Stands r
  stands r i = stands-in slots r (λ s k. k) i

  -- a route that covers the address is of a prefix above
  is-shorter : (r : Route) → Contains (routes_of slots) r → covers r.prefix a ≡ true → r.prefix.len < p.len
  is-shorter r i c = ⊎_elim
      (λ (l : r.prefix.len < p.len). l)
      (λ (l : p.len ≤ r.prefix.len). ⊎_elim
      (λ (m : p.len < r.prefix.len). absurd (x.none r i c m))
      (λ (m : r.prefix.len ≤ p.len). absurd (both_ways (is_of_prefix p r) (none r i) (around-once (routes_of slots) p a r table sp x.here i (omega arith) c)))
      (cases_lt p.len r.prefix.len))
      (cases_lt r.prefix.len p.len)

  is-above : (r : Route) → Contains (routes_of slots) r → covers r.prefix a ≡ true → (w : Stands r) → IsAbove p w.slot
  is-above r i c w =
      let same : w.slot.prefix ≡ r.prefix = ap (λ (y : Route). y.prefix) w.is in
      let shorter : r.prefix.len < p.len = is-shorter r i c in
      let from : r.prefix.base ≤ p.base = nested-from r.prefix p a (table.prefixes r i) sp (omega arith) c x.here in
      let to : p.base + size p ≤ r.prefix.base + size r.prefix = nested-to r.prefix p a (table.prefixes r i) sp (omega arith) c x.here in
      let some : 0 < size p = size-some p in
      record {
        some = λ e. contains-none w.target (subst (λ ys. Contains ys w.target) e w.listed);
        shorter = subst (λ (q : Cidr). q.len < p.len) (sym same) shorter;
        holds = subst (λ (q : Cidr). covers q p.base ≡ true) (sym same) (covers-in r.prefix p.base from (omega arith));
      }

  done-best : (o : Option Way) → IsFirstAbove slots p o → way_in (routes_of slots) a ≡ done_by o
  done-best None above = sym (ap way_or_none (only-best (routes_of slots) a None table (λ r i. false_from_ne_true (covers r.prefix a) (λ c.
      let w : Stands r = stands r i in
      above w.slot w.inside (is-above r i c w)))))
  done-best (Some t) above =
      let s : PrefixRoutes = above.0 in
      let high : IsAbove p s = above.2 in
      let least : MetricWay = above.3.0 in
      let b : Route = route_at s.prefix least in
      let ss : IsCidr s.prefix = (each-of slots s form.each above.1).sound in
      let shorter : s.prefix.len < p.len = high.shorter in
      let own_base : covers p p.base ≡ true = covers-in p p.base (omega arith) (let some : 0 < size p = size-some p in omega arith) in
      let from : s.prefix.base ≤ p.base = covers-from s.prefix p.base high.holds in
      let to : p.base + size p ≤ s.prefix.base + size s.prefix = nested-to s.prefix p p.base ss sp (omega arith) high.holds own_base in
      let low : p.base ≤ a = covers-from p a x.here in
      let up : a < p.base + size p = covers-to p a x.here in
      let here : covers s.prefix a ≡ true = covers-in s.prefix a (omega arith) (omega arith) in
      let is : IsBest (routes_of slots) a (Some b) =
      longest-is-best (routes_of slots) a b (route-of slots s least above.1 above.3.1.0) here
      (λ r i c l.
      let w : Stands r = stands r i in
      let m : w.slot.prefix.len ≤ s.prefix.len = above.4 w.slot w.inside (is-above r i c w) in
      let e : w.slot.prefix.len ≡ r.prefix.len = ap (λ (y : Route). y.prefix.len) w.is in
      omega arith)
      (λ r i c e.
      let w : Stands r = stands r i in
      let same : w.slot.prefix ≡ r.prefix = ap (λ (y : Route). y.prefix) w.is in
      let base : r.prefix.base ≡ s.prefix.base = base-once r.prefix s.prefix a (table.prefixes r i) ss e c here in
      let C : ℕ → ℕ → Cidr = λ n l. record { base = n; len = l } in
      let prefix : w.slot.prefix ≡ s.prefix = same ∙ ap (λ n. C n r.prefix.len) base ∙ ap (λ l. C s.prefix.base l) e in
      let slot : w.slot ≡ s = slot-once 0 slots w.slot s form.keys w.inside above.1 (ap key_of prefix) in
      let listed : Contains s.targets w.target = subst (λ (y : PrefixRoutes). Contains y.targets w.target) slot w.listed in
      subst (λ (y : Route). least.metric ≤ y.metric) w.is (above.3.1.1 w.target listed)) in
      sym (ap way_or_none (only-best (routes_of slots) a (Some b) table is)) ∙ above.3.2

-- ---- an update

-- what is done at the addresses of a prefix whose first route stays what it was
pub same-everywhere : (p : Cidr) (old new : List Route) (t : Way) (a : ℕ) → IsCidr p → IsTable old → IsTable new → AreOthers p old new → IsFirstIn old p (Some t) → IsFirstIn new p (Some t) → way_in new a ≡ way_in old a
same-everywhere p old new t a sp was now o before first = ⊎_elim
    (λ (h : is_own new p a ≡ true).
    let x : IsOwn new p a = own new p a h in
    first-own p new a t sp now x first ∙ sym (first-own p old a t sp was (own-moved p old new a o x) before))
    (λ (h : is_own new p a ≡ false). away p old new a o was h)
    (cases_Bool (is_own new p a))

turned-by : (p : Cidr) (old new : List Route) (t : Way) → IsCidr p → IsTable old → AreOthers p old new → ((a : ℕ) → IsOwn new p a → way_in new a ≡ t) → IsTurned old new p t
turned-by p old new t sp was o here = record {
  before = λ a b h k. same-own p old a b sp was (own-moved p old new a o (own new p a h)) (own-moved p old new b o (own new p b k));
  here = λ a h. here a (own new p a h);
  away = λ a h. away p old new a o was h;
}

pub turned-first : (p : Cidr) (old new : List Route) (t : Way) → IsCidr p → IsTable old → IsTable new → AreOthers p old new → IsFirstIn new p (Some t) → IsTurned old new p t
turned-first p old new t sp was now o first = turned-by p old new t sp was o (λ a x. first-own p new a t sp now x first)

pub turned-above : (p : Cidr) (old : List Route) (slots : List PrefixRoutes) (t : Way) → IsCidr p → IsTable old → AreSlots slots → IsTable (routes_of slots) → AreOthers p old (routes_of slots) → IsFirstIn (routes_of slots) p None → IsDoneAbove slots p t → IsTurned old (routes_of slots) p t
turned-above p old slots t sp was form now o none done =
    turned-by p old (routes_of slots) t sp was o (λ a x. done-best p slots a form sp now x none done.0 done.1 ∙ sym done.2)

-- ---- its steps

within-moved : (routes others : List Route) (low past : ℕ) (begun : List ℕ) → ((a : ℕ) → list_any (λ r. eqb r.prefix.base a) routes ≡ true → list_any (λ r. eqb r.prefix.base a) others ≡ true) → BeginWithin routes low past begun → BeginWithin others low past begun
within-moved routes others low past [] to h = tt
within-moved routes others low past (a ∷ begun) to h = (h.0, h.1, to a h.2, within-moved routes others (a + 1) past begun to h.3)

pub looked-passed : (p : Cidr) (old new : List Route) (was between now : ℕ) → AreOthers p old new → between ≤ was + 2 → IsPassed new p between now → IsLooked old p was now
looked-passed p old new was between now o l h = record {
  begun = h.begun;
  within = within-moved (filter (λ r. ltb p.len r.prefix.len) new) old p.base (p.base + size p) h.begun
      (λ a t.
      let w : (r : Route) × Contains (filter (λ r. ltb p.len r.prefix.len) new) r × (eqb r.prefix.base a ≡ true) = any-some (λ r. eqb r.prefix.base a) (filter (λ r. ltb p.len r.prefix.len) new) t in
      let parts : Contains new w.0 × (ltb p.len w.0.prefix.len ≡ true) = filter-contains (λ r. ltb p.len r.prefix.len) w.0 new w.1 in
      any-of (λ r. eqb r.prefix.base a) w.0 old (o.back w.0 (longer-other p w.0 (ltb-true p.len w.0.prefix.len parts.1)) parts.0) w.2)
      h.within;
  few = let m : now ≤ between + length h.begun = h.few in omega arith;
}
