-- The routes of slots: those of a prefix stand in its slot alone.
use Rattle.std.proofs.Common.{◌≡◌, ◌≢◌, ◌∙◌, ◌&&◌, ℕ, ◌+◌, ◌<◌, ◌≤◌, zero, suc, not, Bool, true, false, cond, List, [], ◌∷◌, ◌++◌, map, length, get_or, set, filter, refl, ap, sym, subst, append_assoc, ⊎_elim, arith, eqb}
use Rattle.std.specs.List.{Contains, insert}
use Rattle.std.specs.List.Sorted.{IsPermutation}
use Rattle.std.proofs.lemmas.Bool.{and_from, and_parts, both_ways, eq-eqb, eqb-true, false_from_ne_true, not-true, not_from_false}
use Rattle.std.proofs.lemmas.List.{map-append}
use Rattle.std.proofs.lemmas.List.Elements.{Contains-append_cases, Contains-append_left, Contains-append_right, filter-append}
use Rattle.std.proofs.lemmas.List.Sorted.{IsPermutation-append_left, IsPermutation-append_right, IsPermutation-map, IsPermutation-sym, IsPermutation-to_front, IsPermutation-trans}
use Rattle.base.specs.Cidr.{Cidr, IsCidr}
use Rattle.dn_model.specs.Table.{has_key, is_of_prefix, is_replaced}
use Rattle.dn_model.specs.declared.entry.Route.{Route}
use Rattle.dn_model.specs.declared.way.Way.{Way}
use Rattle.base.proofs.Elements.{filter-contains}
use Rattle.base.proofs.Filtered.{filter-whole}
use Rattle.base.proofs.Elements.{contains-map}
use Rattle.route_table.specs.Ascending.{AscendsFrom, IsFound, IsGap}
use Rattle.route_table.specs.Slots.{PrefixRoutes, key_of, routes_at, routes_of, slot_key}
use Rattle.route_table.specs.Targets.{route_at, with_target, without_metric}
use Rattle.route_table.specs.declared.metric_way.MetricWay.{MetricWay}

-- ---- prefixes

pub of-prefix : (p : Cidr) (r : Route) → is_of_prefix p r ≡ true → r.prefix ≡ p
of-prefix p r h =
    let parts : (eqb r.prefix.base p.base ≡ true) × (eqb r.prefix.len p.len ≡ true) = and_parts (eqb r.prefix.base p.base) (eqb r.prefix.len p.len) h in
    let C : ℕ → ℕ → Cidr = λ b l. record { base = b; len = l } in
    ap (λ b. C b r.prefix.len) (eqb-true r.prefix.base p.base parts.0) ∙ ap (λ l. C p.base l) (eqb-true r.prefix.len p.len parts.1)

pub own-prefix : (p : Cidr) (x : MetricWay) → is_of_prefix p (route_at p x) ≡ true
own-prefix p x = and_from (eqb p.base p.base) (eqb p.len p.len) (eq-eqb p.base p.base refl) (eq-eqb p.len p.len refl)

-- the key tells prefixes apart
pub key-exact : (p q : Cidr) → IsCidr p → IsCidr q → key_of p ≡ key_of q → p ≡ q
key-exact p q sp sq h =
    let lp : p.len ≤ 32 = sp.len in
    let lq : q.len ≤ 32 = sq.len in
    let base : p.base ≡ q.base = omega arith in
    let len : p.len ≡ q.len = omega arith in
    let C : ℕ → ℕ → Cidr = λ b l. record { base = b; len = l } in
    ap (λ b. C b p.len) base ∙ ap (λ l. C q.base l) len

-- ---- slots of other prefixes

pub slot-apart : (s : PrefixRoutes) (p : Cidr) (r : Route) → slot_key s ≢ key_of p → Contains (routes_at s) r → is_of_prefix p r ≡ false
slot-apart s p r n i = false_from_ne_true (is_of_prefix p r) (λ t.
    let w : (x : MetricWay) × Contains s.targets x × (route_at s.prefix x ≡ r) = contains-map (route_at s.prefix) s.targets r i in
    let same : s.prefix ≡ p = ap (λ (y : Route). y.prefix) w.2 ∙ of-prefix p r t in
    n (ap key_of same))

-- a test that routes of other prefixes pass
abbrev pub Keeps : (Route → Bool) → Cidr → Type 0
Keeps q p = (r : Route) → is_of_prefix p r ≡ false → q r ≡ true

slot-kept : (q : Route → Bool) (p : Cidr) (s : PrefixRoutes) → Keeps q p → slot_key s ≢ key_of p → filter q (routes_at s) ≡ routes_at s
slot-kept q p s keeps n = filter-whole q (routes_at s) (λ r i. keeps r (slot-apart s p r n i))

more-kept : (q : Route → Bool) (p : Cidr) (s : PrefixRoutes) (xs : List PrefixRoutes) → Keeps q p → slot_key s ≢ key_of p → filter q (routes_of (s ∷ xs)) ≡ routes_at s ++ filter q (routes_of xs)
more-kept q p s xs keeps n = filter-append q (routes_at s) (routes_of xs) ∙ ap (λ rs. rs ++ filter q (routes_of xs)) (slot-kept q p s keeps n)

-- slots behind that of a prefix are all of others
rest-kept : (q : Route → Bool) (p : Cidr) (start : ℕ) (xs : List PrefixRoutes) → Keeps q p → AscendsFrom slot_key start xs → key_of p < start → filter q (routes_of xs) ≡ routes_of xs
rest-kept q p start [] keeps h l = refl
rest-kept q p start (x ∷ xs) keeps h l =
    let f : start ≤ slot_key x = h.0 in
    let n : key_of p < slot_key x = omega arith in
    more-kept q p x xs keeps (λ e. absurd (omega arith)) ∙ ap (λ rs. routes_at x ++ rs) (rest-kept q p (slot_key x + 1) xs keeps h.1 (omega arith))

pub rest-none : (p : Cidr) (start : ℕ) (xs : List PrefixRoutes) (r : Route) → AscendsFrom slot_key start xs → key_of p < start → Contains (routes_of xs) r → is_of_prefix p r ≡ false
rest-none p start xs r h l c =
    let kept : filter (λ y. not (is_of_prefix p y)) (routes_of xs) ≡ routes_of xs = rest-kept (λ y. not (is_of_prefix p y)) p start xs (λ y e. not_from_false (is_of_prefix p y) e) h l in
    let out : Contains (routes_of xs) r × (not (is_of_prefix p r) ≡ true) = filter-contains (λ y. not (is_of_prefix p y)) r (routes_of xs) (subst (λ rs. Contains rs r) (sym kept) c) in
    not-true (is_of_prefix p r) out.1

-- where the prefix has no slot, all are of others
pub gap-kept : (q : Route → Bool) (p : Cidr) (start : ℕ) (xs : List PrefixRoutes) (i : ℕ) → Keeps q p → AscendsFrom slot_key start xs → IsGap slot_key xs (key_of p) i → filter q (routes_of xs) ≡ routes_of xs
gap-kept q p start [] i keeps h g = refl
gap-kept q p start (x ∷ xs) zero keeps h g = rest-kept q p (slot_key x) (x ∷ xs) keeps (omega arith, h.1) g
gap-kept q p start (x ∷ xs) (suc i) keeps h g =
    let l : slot_key x < key_of p = g.0 in
    more-kept q p x xs keeps (λ e. absurd (omega arith)) ∙ ap (λ rs. routes_at x ++ rs) (gap-kept q p (slot_key x + 1) xs i keeps h.1 g.1)

-- ---- what an update of a slot makes of all routes

-- what goes out of the slot goes out of all
pub found-cleared : (q : Route → Bool) (p : Cidr) (start : ℕ) (xs : List PrefixRoutes) (i : ℕ) (v : PrefixRoutes) → Keeps q p → AscendsFrom slot_key start xs → IsFound slot_key xs (key_of p) i → ((d : PrefixRoutes) → routes_at v ≡ filter q (routes_at (get_or xs i d))) → routes_of (set xs i v) ≡ filter q (routes_of xs)
found-cleared q p start [] i v keeps h f made = absurd f
found-cleared q p start (x ∷ xs) zero v keeps h f made =
    ap (λ rs. rs ++ routes_of xs) (made x)
    ∙ ap (λ rs. filter q (routes_at x) ++ rs) (sym (rest-kept q p (slot_key x + 1) xs keeps h.1 (omega arith)))
    ∙ sym (filter-append q (routes_at x) (routes_of xs))
found-cleared q p start (x ∷ xs) (suc i) v keeps h f made =
    let l : slot_key x < key_of p = f.0 in
    ap (λ rs. routes_at x ++ rs) (found-cleared q p (slot_key x + 1) xs i v keeps h.1 f.1 made)
    ∙ sym (more-kept q p x xs keeps (λ e. absurd (omega arith)))

-- the same where they stand in another order
pub found-left : (q : Route → Bool) (p : Cidr) (start : ℕ) (xs : List PrefixRoutes) (i : ℕ) (v : PrefixRoutes) → Keeps q p → AscendsFrom slot_key start xs → IsFound slot_key xs (key_of p) i → ((d : PrefixRoutes) → IsPermutation (routes_at v) (filter q (routes_at (get_or xs i d)))) → IsPermutation (routes_of (set xs i v)) (filter q (routes_of xs))
found-left q p start [] i v keeps h f made = absurd f
found-left q p start (x ∷ xs) zero v keeps h f made =
    let is : filter q (routes_at x) ++ routes_of xs ≡ filter q (routes_of (x ∷ xs)) = ap (λ rs. filter q (routes_at x) ++ rs) (sym (rest-kept q p (slot_key x + 1) xs keeps h.1 (omega arith))) ∙ sym (filter-append q (routes_at x) (routes_of xs)) in
    subst (λ rs. IsPermutation (routes_at v ++ routes_of xs) rs) is
    (IsPermutation-append_left (routes_of xs) (routes_at v) (filter q (routes_at x)) (made x))
found-left q p start (x ∷ xs) (suc i) v keeps h f made =
    let l : slot_key x < key_of p = f.0 in
    subst (λ rs. IsPermutation (routes_at x ++ routes_of (set xs i v)) rs) (sym (more-kept q p x xs keeps (λ e. absurd (omega arith))))
    (IsPermutation-append_right (routes_at x) (routes_of (set xs i v)) (filter q (routes_of xs)) (found-left q p (slot_key x + 1) xs i v keeps h.1 f.1 made))

-- one more route among the first
push-first : (v f b : List Route) (r : Route) → IsPermutation v (f ++ r ∷ []) → IsPermutation (v ++ b) ((f ++ b) ++ r ∷ [])
push-first v f b r h =
    let one : IsPermutation (v ++ b) ((f ++ r ∷ []) ++ b) = IsPermutation-append_left b v (f ++ r ∷ []) h in
    let two : IsPermutation (f ++ (r ∷ b)) (f ++ (b ++ r ∷ [])) = IsPermutation-append_right f (r ∷ b) (b ++ r ∷ []) (IsPermutation-sym (b ++ r ∷ []) (r ∷ b) (IsPermutation-to_front b r)) in
    IsPermutation-trans (v ++ b) (f ++ (r ∷ b)) ((f ++ b) ++ r ∷ [])
    (subst (λ rs. IsPermutation (v ++ b) rs) (append_assoc f (r ∷ []) b) one)
    (subst (λ rs. IsPermutation (f ++ (r ∷ b)) rs) (sym (append_assoc f b (r ∷ []))) two)

-- one more route behind the first
push-behind : (x n b : List Route) (r : Route) → IsPermutation n (b ++ r ∷ []) → IsPermutation (x ++ n) ((x ++ b) ++ r ∷ [])
push-behind x n b r h = subst (λ rs. IsPermutation (x ++ n) rs) (sym (append_assoc x b (r ∷ []))) (IsPermutation-append_right x n (b ++ r ∷ []) h)

-- what is set in the slot is set among all
pub found-set : (q : Route → Bool) (p : Cidr) (start : ℕ) (xs : List PrefixRoutes) (i : ℕ) (v : PrefixRoutes) (r : Route) → Keeps q p → AscendsFrom slot_key start xs → IsFound slot_key xs (key_of p) i → ((d : PrefixRoutes) → IsPermutation (routes_at v) (filter q (routes_at (get_or xs i d)) ++ r ∷ [])) → IsPermutation (routes_of (set xs i v)) (filter q (routes_of xs) ++ r ∷ [])
found-set q p start [] i v r keeps h f made = absurd f
found-set q p start (x ∷ xs) zero v r keeps h f made =
    let is : filter q (routes_at x) ++ routes_of xs ≡ filter q (routes_of (x ∷ xs)) = ap (λ rs. filter q (routes_at x) ++ rs) (sym (rest-kept q p (slot_key x + 1) xs keeps h.1 (omega arith))) ∙ sym (filter-append q (routes_at x) (routes_of xs)) in
    subst (λ rs. IsPermutation (routes_at v ++ routes_of xs) (rs ++ r ∷ [])) is
    (push-first (routes_at v) (filter q (routes_at x)) (routes_of xs) r (made x))
found-set q p start (x ∷ xs) (suc i) v r keeps h f made =
    let l : slot_key x < key_of p = f.0 in
    subst (λ rs. IsPermutation (routes_at x ++ routes_of (set xs i v)) (rs ++ r ∷ [])) (sym (more-kept q p x xs keeps (λ e. absurd (omega arith))))
    (push-behind (routes_at x) (routes_of (set xs i v)) (filter q (routes_of xs)) r (found-set q p (slot_key x + 1) xs i v r keeps h.1 f.1 made))

-- a slot with one route adds it to all
pub gap-add : (q : Route → Bool) (p : Cidr) (start : ℕ) (xs : List PrefixRoutes) (i : ℕ) (v : PrefixRoutes) (r : Route) → Keeps q p → AscendsFrom slot_key start xs → IsGap slot_key xs (key_of p) i → IsPermutation (routes_at v) (r ∷ []) → IsPermutation (routes_of (insert xs i v)) (filter q (routes_of xs) ++ r ∷ [])
gap-add q p start [] zero v r keeps h g made = push-first (routes_at v) [] [] r made
gap-add q p start [] (suc i) v r keeps h g made = absurd (omega arith)
gap-add q p start (x ∷ xs) zero v r keeps h g made =
    subst (λ rs. IsPermutation (routes_at v ++ routes_of (x ∷ xs)) (rs ++ r ∷ [])) (sym (rest-kept q p (slot_key x) (x ∷ xs) keeps (omega arith, h.1) g))
    (push-first (routes_at v) [] (routes_of (x ∷ xs)) r made)
gap-add q p start (x ∷ xs) (suc i) v r keeps h g made =
    let l : slot_key x < key_of p = g.0 in
    subst (λ rs. IsPermutation (routes_at x ++ routes_of (insert xs i v)) (rs ++ r ∷ [])) (sym (more-kept q p x xs keeps (λ e. absurd (omega arith))))
    (push-behind (routes_at x) (routes_of (insert xs i v)) (filter q (routes_of xs)) r (gap-add q p (slot_key x + 1) xs i v r keeps h.1 g.1 made))

-- ---- what is found

-- a route of the prefix stands in its slot
pub only-slot : (p : Cidr) (start : ℕ) (xs : List PrefixRoutes) (i : ℕ) (d : PrefixRoutes) (r : Route) → AscendsFrom slot_key start xs → IsFound slot_key xs (key_of p) i → Contains (routes_of xs) r → is_of_prefix p r ≡ true → Contains (routes_at (get_or xs i d)) r
only-slot p start [] i d r h f c t = absurd f
only-slot p start (x ∷ xs) zero d r h f c t = ⊎_elim
    (λ (here : Contains (routes_at x) r). here)
    (λ (there : Contains (routes_of xs) r).
    absurd (both_ways (is_of_prefix p r) (rest-none p (slot_key x + 1) xs r h.1 (omega arith) there) t))
    (Contains-append_cases (routes_at x) (routes_of xs) r c)
only-slot p start (x ∷ xs) (suc i) d r h f c t = ⊎_elim
    (λ (here : Contains (routes_at x) r).
    let l : slot_key x < key_of p = f.0 in
    absurd (both_ways (is_of_prefix p r) (slot-apart x p r (λ e. absurd (omega arith)) here) t))
    (λ (there : Contains (routes_of xs) r). only-slot p (slot_key x + 1) xs i d r h.1 f.1 there t)
    (Contains-append_cases (routes_at x) (routes_of xs) r c)

-- a route of a slot stands among all
pub in-slot : (xs : List PrefixRoutes) (i : ℕ) (d : PrefixRoutes) (r : Route) → i < length xs → Contains (routes_at (get_or xs i d)) r → Contains (routes_of xs) r
in-slot [] i d r l c = absurd (omega arith)
in-slot (x ∷ xs) zero d r l c = Contains-append_left (routes_at x) (routes_of xs) r c
in-slot (x ∷ xs) (suc i) d r l c = Contains-append_right (routes_at x) (routes_of xs) r (in-slot xs i d r (omega arith) c)

pub gap-none : (p : Cidr) (start : ℕ) (xs : List PrefixRoutes) (i : ℕ) (r : Route) → AscendsFrom slot_key start xs → IsGap slot_key xs (key_of p) i → Contains (routes_of xs) r → is_of_prefix p r ≡ false
gap-none p start xs i r h g c =
    let kept : filter (λ y. not (is_of_prefix p y)) (routes_of xs) ≡ routes_of xs = gap-kept (λ y. not (is_of_prefix p y)) p start xs i (λ y e. not_from_false (is_of_prefix p y) e) h g in
    let out : Contains (routes_of xs) r × (not (is_of_prefix p r) ≡ true) = filter-contains (λ y. not (is_of_prefix p y)) r (routes_of xs) (subst (λ rs. Contains rs r) (sym kept) c) in
    not-true (is_of_prefix p r) out.1

-- ---- updates of the routes of one prefix

pub own-key : (p : Cidr) (m : ℕ) (x : MetricWay) → has_key p m (route_at p x) ≡ eqb x.metric m
own-key p m x = ap (λ b. b && eqb x.metric m) (own-prefix p x)

pub others-at : (p : Cidr) (m : ℕ) (xs : List MetricWay) → filter (λ r. not (has_key p m r)) (map (route_at p) xs) ≡ map (route_at p) (without_metric xs m)
others-at p m [] = refl
others-at p m (x ∷ xs) = by (eqb x.metric m) refl (others-at p m xs)
  where
    left : List Route
    left = filter (λ r. not (has_key p m r)) (map (route_at p) xs)

    by : (b : Bool) → eqb x.metric m ≡ b → left ≡ map (route_at p) (without_metric xs m) → filter (λ r. not (has_key p m r)) (map (route_at p) (x ∷ xs)) ≡ map (route_at p) (without_metric (x ∷ xs) m)
    by true h more = ap (λ b. cond (not b) (route_at p x ∷ left) left) (own-key p m x ∙ h) ∙ more ∙ sym (ap (λ b. map (route_at p) (cond (not b) (x ∷ without_metric xs m) (without_metric xs m))) h)
    by false h more = ap (λ b. cond (not b) (route_at p x ∷ left) left) (own-key p m x ∙ h) ∙ ap (λ rs. route_at p x ∷ rs) more ∙ sym (ap (λ b. map (route_at p) (cond (not b) (x ∷ without_metric xs m) (without_metric xs m))) h)

pub none-at : (p : Cidr) (xs : List MetricWay) → filter (λ r. not (is_of_prefix p r)) (map (route_at p) xs) ≡ []
none-at p [] = refl
none-at p (x ∷ xs) =
    let left : List Route = filter (λ r. not (is_of_prefix p r)) (map (route_at p) xs) in
    ap (λ b. cond (not b) (route_at p x ∷ left) left) (own-prefix p x) ∙ none-at p xs

-- alone, a route leaves none of its prefix
pub alone-at : (p : Cidr) (m : ℕ) (xs : List MetricWay) → filter (λ r. not (is_replaced true p m r)) (map (route_at p) xs) ≡ []
alone-at p m [] = refl
alone-at p m (x ∷ xs) =
    let left : List Route = filter (λ r. not (is_replaced true p m r)) (map (route_at p) xs) in
    ap (λ b. cond (not (b && true)) (route_at p x ∷ left) left) (own-prefix p x) ∙ alone-at p m xs

pub set-at : (p : Cidr) (m : ℕ) (t : Way) (xs ys : List MetricWay) → IsPermutation ys (with_target xs m t) → IsPermutation (map (route_at p) ys) (filter (λ r. not (has_key p m r)) (map (route_at p) xs) ++ record { prefix = p; metric = m; way = t } ∷ [])
set-at p m t xs ys h =
    let moved : IsPermutation (map (route_at p) ys) (map (route_at p) (with_target xs m t)) = IsPermutation-map (route_at p) ys (with_target xs m t) h in
    let is : map (route_at p) (with_target xs m t) ≡ filter (λ r. not (has_key p m r)) (map (route_at p) xs) ++ record { prefix = p; metric = m; way = t } ∷ [] =
    map-append (route_at p) (without_metric xs m) (record { metric = m; way = t } ∷ []) ∙ ap (λ rs. rs ++ route_at p (record { metric = m; way = t }) ∷ []) (sym (others-at p m xs)) in
    subst (λ rs. IsPermutation (map (route_at p) ys) rs) is moved
