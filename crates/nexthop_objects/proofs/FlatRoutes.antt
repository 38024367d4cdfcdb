-- Routes set to what their objects do, up to order.
use Rattle.std.proofs.Common.{◌≡◌, ℕ, ◌⊎◌, ◌∙◌, ◌&&◌, not, Bool, true, false, cond, Option, Some, None, List, [], ◌∷◌, ◌++◌, filter, fold, map, refl, ap, sym, subst, inl, inr, ⊎_elim, eqb}
use Rattle.std.specs.List.{list_any, Contains}
use Rattle.std.specs.Prelude.{option_map}
use Rattle.std.proofs.lemmas.Bool.{and_from, and_parts, both_ways, cases_Bool, eq-eqb, false_from_ne_true, not-true, not_from_false, or_parts}
use Rattle.std.proofs.lemmas.List.Elements.{Contains-push_cases, Contains-append_left, Contains-append_right}
use Rattle.base.specs.Cidr.{Cidr, covers}
use Rattle.base.specs.Lists.{all_differ}
use Rattle.base.specs.declared.target.Target.{Target}
use Rattle.base.proofs.Elements.{contains-cases, contains-filter, contains-here, contains-map, contains-none, contains-there, filter-contains, map-contains}
use Rattle.dn_model.specs.Table.{Object as ObjectIs, after_op, after_table_op, best, better, followed, goes_before, has_key, is_by, is_of_prefix, is_replaced}
use Rattle.dn_model.specs.declared.entry.Op.{Op}
use Rattle.dn_model.specs.declared.entry.Op.TheVariants as ops
use Rattle.dn_model.specs.declared.entry.Route.{Route}
use Rattle.dn_model.specs.declared.table_op.TableOp.TheVariants.{Put, Clear}
use Rattle.dn_model.specs.declared.way.Way.{Way}
use Rattle.dn_model.specs.declared.way.Way.TheVariants.{Straight}
use Rattle.dn_model.proofs.Keys.{eqb-turned}
use Rattle.dn_model.proofs.SameRoutes.{SameRoutes}

-- a route that does by itself what it does by these objects
abbrev pub straightened : List ObjectIs → Route → Route
straightened os x = record { prefix = x.prefix; metric = x.metric; way = Straight (followed os x.way) }

abbrev pub straight : List ObjectIs → List Route → List Route
straight os routes = map (straightened os) routes

-- ---- lists

filter-map : (f : Route → Route) (p : Route → Bool) → ((x : Route) → p (f x) ≡ p x) → (xs : List Route) → filter p (map f xs) ≡ map f (filter p xs)
filter-map f p same [] = refl
filter-map f p same (x ∷ xs) = ⊎_elim
    (λ (y : p x ≡ true). let z : p (f x) ≡ true = same x ∙ y in rw (y, z) (ap (λ ys. f x ∷ ys) (filter-map f p same xs)))
    (λ (n : p x ≡ false). let z : p (f x) ≡ false = same x ∙ n in rw (n, z) (filter-map f p same xs))
    (cases_Bool (p x))

map-push : (f : Route → Route) (xs : List Route) (x : Route) → map f (xs ++ x ∷ []) ≡ map f xs ++ f x ∷ []
map-push f [] x = refl
map-push f (y ∷ ys) x = ap (λ zs. f y ∷ zs) (map-push f ys x)

any-none : (q : Route → Bool) (xs : List Route) → list_any q xs ≡ false → (x : Route) → Contains xs x → q x ≡ false
any-none q [] h x i = absurd (contains-none x i)
any-none q (y ∷ ys) h x i =
    let parts : (q y ≡ false) × (list_any q ys ≡ false) = or_parts (q y) (list_any q ys) h in
    ⊎_elim
    (λ (same : y ≡ x). ap q (sym same) ∙ parts.0)
    (λ (rest : Contains ys x). any-none q ys parts.1 x rest)
    (contains-cases y x ys i)

any-some : (q : Route → Bool) (xs : List Route) → list_any q xs ≡ true → (x : Route) × Contains xs x × (q x ≡ true)
any-some q [] h = absurd (both_ways false refl h)
any-some q (y ∷ ys) h = ⊎_elim
    (λ (here : q y ≡ true). (y, contains-here y ys, here))
    (λ (n : q y ≡ false).
    let rest : list_any q ys ≡ true = rw n at h in
    let w : (x : Route) × Contains ys x × (q x ≡ true) = any-some q ys rest in
    (w.0, contains-there y w.0 ys w.1, w.2))
    (cases_Bool (q y))

any-there : (q : Route → Bool) (x : Route) (xs : List Route) → Contains xs x → q x ≡ true → list_any q xs ≡ true
any-there q x xs i e = ⊎_elim
    (λ (y : list_any q xs ≡ true). y)
    (λ (n : list_any q xs ≡ false). absurd (both_ways (q x) (any-none q xs n x i) e))
    (cases_Bool (list_any q xs))

-- of elements that all differ those that are the same are one
pub differ-once : (same : Route → Route → Bool) → ((x y : Route) → same x y ≡ same y x) → (xs : List Route) (x y : Route) → all_differ same xs ≡ true → Contains xs x → Contains xs y → same x y ≡ true → x ≡ y
differ-once same turned [] x y h i j e = absurd (contains-none x i)
differ-once same turned (z ∷ zs) x y h i j e =
    let parts : (not (list_any (same z) zs) ≡ true) × (all_differ same zs ≡ true) = and_parts (not (list_any (same z) zs)) (all_differ same zs) h in
    let none : list_any (same z) zs ≡ false = not-true (list_any (same z) zs) parts.0 in
    ⊎_elim
    (λ (at_x : z ≡ x). ⊎_elim
    (λ (at_y : z ≡ y). sym at_x ∙ at_y)
    (λ (rest : Contains zs y). absurd (both_ways (list_any (same z) zs) none (any-there (same z) y zs rest (ap (λ (w : Route). same w y) at_x ∙ e))))
    (contains-cases z y zs j))
    (λ (in_x : Contains zs x). ⊎_elim
    (λ (at_y : z ≡ y). absurd (both_ways (list_any (same z) zs) none (any-there (same z) x zs in_x (ap (λ (w : Route). same w x) at_y ∙ turned y x ∙ e))))
    (λ (in_y : Contains zs y). differ-once same turned zs x y parts.1 in_x in_y e)
    (contains-cases z y zs j))
    (contains-cases z x zs i)

pub prefix-turned : (x y : Route) → is_of_prefix x.prefix y ≡ is_of_prefix y.prefix x
prefix-turned x y =
    let base : eqb y.prefix.base x.prefix.base ≡ eqb x.prefix.base y.prefix.base = eqb-turned y.prefix.base x.prefix.base in
    let len : eqb y.prefix.len x.prefix.len ≡ eqb x.prefix.len y.prefix.len = eqb-turned y.prefix.len x.prefix.len in
    ap (λ (b : Bool). b && eqb y.prefix.len x.prefix.len) base ∙ ap (λ (b : Bool). eqb x.prefix.base y.prefix.base && b) len

-- ---- what an update makes of straightened routes

pub straight-put : (alone : Bool) (os : List ObjectIs) (routes : List Route) (p : Cidr) (m : ℕ) (w : Way) → straight os (after_table_op alone routes (Put p m w)) ≡ after_table_op alone (straight os routes) (Put p m (Straight (followed os w)))
straight-put alone os routes p m w =
    map-push (straightened os) (filter (λ r. not (is_replaced alone p m r)) routes) (record { prefix = p; metric = m; way = w })
    ∙ ap (λ rs. rs ++ record { prefix = p; metric = m; way = Straight (followed os w) } ∷ []) (sym (filter-map (straightened os) (λ r. not (is_replaced alone p m r)) (λ x. refl) routes))

pub straight-clear : (alone : Bool) (os : List ObjectIs) (routes : List Route) (p : Cidr) (m : Option ℕ) → straight os (after_table_op alone routes (Clear p m)) ≡ after_table_op alone (straight os routes) (Clear p m)
straight-clear alone os routes p None = sym (filter-map (straightened os) (λ r. not (is_of_prefix p r)) (λ x. refl) routes)
straight-clear alone os routes p (Some m) = sym (filter-map (straightened os) (λ r. not (has_key p m r)) (λ x. refl) routes)

-- ---- the route of an address

fold-straight : (os : List ObjectIs) (o : Option Route) (xs : List Route) → fold better (option_map (straightened os) o) (straight os xs) ≡ option_map (straightened os) (fold better o xs)
fold-straight os o [] = refl
fold-straight os None (x ∷ xs) = fold-straight os (Some x) xs
fold-straight os (Some y) (x ∷ xs) =
    let P : Bool → Type 0 = λ b. fold better (cond b (Some (straightened os x)) (Some (straightened os y))) (straight os xs) ≡ option_map (straightened os) (fold better (cond b (Some x) (Some y)) xs) in
    ⊎_elim
    (λ (b : goes_before x y ≡ true). subst P (sym b) (fold-straight os (Some x) xs))
    (λ (b : goes_before x y ≡ false). subst P (sym b) (fold-straight os (Some y) xs))
    (cases_Bool (goes_before x y))

-- it is that of the routes, straightened
pub best-straight : (os : List ObjectIs) (routes : List Route) (a : ℕ) → best (straight os routes) a ≡ option_map (straightened os) (best routes a)
best-straight os routes a =
    ap (fold better None) (filter-map (straightened os) (λ (r : Route). covers r.prefix a) (λ x. refl) routes)
    ∙ fold-straight os None (filter (λ (r : Route). covers r.prefix a) routes)

-- ---- routes set one after the other

abbrev pub set_all : Target → List Route → List Op
set_all target xs = map (λ (x : Route). ops.Set x.prefix x.metric target) xs

abbrev pub made : Target → Route → Route
made target x = record { prefix = x.prefix; metric = x.metric; way = Straight target }

abbrev pub hits : Bool → Route → Route → Bool
hits alone x r = is_replaced alone x.prefix x.metric r

set-there : (alone : Bool) (v : Target) (xs routes : List Route) (r : Route) → Contains (fold (after_op alone) routes (set_all v xs)) r
    → (Contains routes r × ((x : Route) → Contains xs x → hits alone x r ≡ false)) ⊎ ((x : Route) × Contains xs x × (made v x ≡ r))
set-there alone v [] routes r i = inl (i, λ x j. absurd (contains-none x j))
set-there alone v (y ∷ ys) routes r i =
    let left : List Route = filter (λ z. not (hits alone y z)) routes in
    ⊎_elim
    (λ (old : Contains (left ++ made v y ∷ []) r × ((x : Route) → Contains ys x → hits alone x r ≡ false)). ⊎_elim
    (λ (stays : Contains left r).
    let parts : Contains routes r × (not (hits alone y r) ≡ true) = filter-contains (λ z. not (hits alone y z)) r routes stays in
    inl (
      parts.0,
      λ x j. ⊎_elim
          (λ (same : y ≡ x). let P : Route → Type 0 = λ z. hits alone z r ≡ false in subst P same (not-true (hits alone y r) parts.1))
          (λ (rest : Contains ys x). old.1 x rest)
          (contains-cases y x ys j),
    ))
    (λ (same : made v y ≡ r). inr (y, contains-here y ys, same))
    (Contains-push_cases left (made v y) r old.0))
    (λ (new : (x : Route) × Contains ys x × (made v x ≡ r)). inr (new.0, contains-there y new.0 ys new.1, new.2))
    (set-there alone v ys (left ++ made v y ∷ []) r i)

set-stays : (alone : Bool) (v : Target) (xs routes : List Route) (r : Route) → Contains routes r → ((x : Route) → Contains xs x → hits alone x r ≡ false) → Contains (fold (after_op alone) routes (set_all v xs)) r
set-stays alone v [] routes r i h = i
set-stays alone v (y ∷ ys) routes r i h =
    let left : List Route = filter (λ z. not (hits alone y z)) routes in
    let stays : Contains left r = contains-filter (λ z. not (hits alone y z)) r routes i (not_from_false (hits alone y r) (h y (contains-here y ys))) in
    set-stays alone v ys (left ++ made v y ∷ []) r (Contains-append_left left (made v y ∷ []) r stays) (λ x j. h x (contains-there y x ys j))

-- of these routes each replaces itself alone
abbrev pub AreApart : Bool → List Route → Type 0
AreApart alone xs = (x y : Route) → Contains xs x → Contains xs y → hits alone x y ≡ true → x ≡ y

set-made : (alone : Bool) (v : Target) (xs routes : List Route) (x : Route) → AreApart alone xs → Contains xs x → Contains (fold (after_op alone) routes (set_all v xs)) (made v x)
set-made alone v [] routes x apart i = absurd (contains-none x i)
set-made alone v (y ∷ ys) routes x apart i =
    let left : List Route = filter (λ z. not (hits alone y z)) routes in
    let later : AreApart alone ys = λ a b j k. apart a b (contains-there y a ys j) (contains-there y b ys k) in
    let more : (z : Route) → Contains ys z → Contains (fold (after_op alone) (left ++ made v y ∷ []) (set_all v ys)) (made v z) = λ z j. set-made alone v ys (left ++ made v y ∷ []) z later j in
    ⊎_elim
    (λ (same : y ≡ x). ⊎_elim
    (λ (again : list_any (λ z. hits alone z y) ys ≡ true).
    let w : (z : Route) × Contains ys z × (hits alone z y ≡ true) = any-some (λ z. hits alone z y) ys again in
    let is : w.0 ≡ y = apart w.0 y (contains-there y w.0 ys w.1) (contains-here y ys) w.2 in
    let P : Route → Type 0 = λ z. Contains (fold (after_op alone) (left ++ made v y ∷ []) (set_all v ys)) (made v z) in
    subst P (is ∙ same) (more w.0 w.1))
    (λ (none : list_any (λ z. hits alone z y) ys ≡ false).
    let P : Route → Type 0 = λ z. Contains (fold (after_op alone) (left ++ made v y ∷ []) (set_all v ys)) (made v z) in
    subst P same
    (set-stays alone v ys (left ++ made v y ∷ []) (made v y) (Contains-append_right left (made v y ∷ []) (made v y) (contains-here (made v y) [])) (λ z j. any-none (λ u. hits alone u y) ys none z j)))
    (cases_Bool (list_any (λ z. hits alone z y) ys)))
    (λ (rest : Contains ys x). more x rest)
    (contains-cases y x ys i)

-- the routes by an object
abbrev pub by_object : ℕ → List Route → List Route
by_object id routes = filter (λ x. is_by id x.way) routes

-- a route replaces itself
of-itself : (x : Route) → is_of_prefix x.prefix x ≡ true
of-itself x = and_from (eqb x.prefix.base x.prefix.base) (eqb x.prefix.len x.prefix.len) (eq-eqb x.prefix.base x.prefix.base refl) (eq-eqb x.prefix.len x.prefix.len refl)

pub hits-itself : (alone : Bool) (x : Route) → hits alone x x ≡ true
hits-itself true x = and_from (is_of_prefix x.prefix x) true (of-itself x) refl
hits-itself false x = and_from (is_of_prefix x.prefix x) (eqb x.metric x.metric) (of-itself x) (eq-eqb x.metric x.metric refl)

-- what an object does makes no difference to routes that are not by it
abbrev pub AreAlike : ℕ → List ObjectIs → List ObjectIs → Type 0
AreAlike id os new = (w : Way) → is_by id w ≡ false → followed os w ≡ followed new w

with-way : (x : Route) (v w : Target) → v ≡ w → made v x ≡ made w x
with-way x v w e = ap (λ u. made u x) e

-- a route that one by the object replaces is by the object
missed : (alone : Bool) (id : ℕ) (xs : List Route) (x y : Route) → AreApart alone xs → Contains (by_object id xs) x → Contains xs y → is_by id y.way ≡ false → hits alone x y ≡ false
missed alone id xs x y apart i j other =
    let parts : Contains xs x × (is_by id x.way ≡ true) = filter-contains (λ z. is_by id z.way) x xs i in
    false_from_ne_true (hits alone x y) (λ h. both_ways (is_by id y.way) other (ap (λ (z : Route). is_by id z.way) (sym (apart x y parts.0 j h)) ∙ parts.1))

-- the routes by an object, set to what it does, are straightened by the objects with it
pub set-straight : (alone : Bool) (os new : List ObjectIs) (v : Target) (id : ℕ) (xs : List Route) → AreApart alone xs → AreAlike id os new → ((w : Way) → is_by id w ≡ true → followed new w ≡ v)
    → SameRoutes (fold (after_op alone) (straight os xs) (set_all v (by_object id xs))) (straight new xs)
set-straight alone os new v id xs apart alike does = record {
  there = λ r i. ⊎_elim
      (λ (old : Contains (straight os xs) r × ((x : Route) → Contains (by_object id xs) x → hits alone x r ≡ false)).
      let w : (y : Route) × Contains xs y × (straightened os y ≡ r) = contains-map (straightened os) xs r old.0 in
      ⊎_elim
      (λ (by : is_by id w.0.way ≡ true).
      let off : hits alone w.0 r ≡ false = old.1 w.0 (contains-filter (λ z. is_by id z.way) w.0 xs w.1 by) in
      let P : Route → Type 0 = λ z. hits alone w.0 z ≡ false in
      absurd (both_ways (hits alone w.0 w.0) (subst P (sym w.2) off) (hits-itself alone w.0)))
      (λ (other : is_by id w.0.way ≡ false).
      let P : Route → Type 0 = λ z. Contains (straight new xs) z in
      subst P (with-way w.0 (followed new w.0.way) (followed os w.0.way) (sym (alike w.0.way other)) ∙ w.2) (map-contains (straightened new) xs w.0 w.1))
      (cases_Bool (is_by id w.0.way)))
      (λ (made_now : (x : Route) × Contains (by_object id xs) x × (made v x ≡ r)).
      let parts : Contains xs made_now.0 × (is_by id made_now.0.way ≡ true) = filter-contains (λ z. is_by id z.way) made_now.0 xs made_now.1 in
      let P : Route → Type 0 = λ z. Contains (straight new xs) z in
      subst P (with-way made_now.0 (followed new made_now.0.way) v (does made_now.0.way parts.1) ∙ made_now.2) (map-contains (straightened new) xs made_now.0 parts.0))
      (set-there alone v (by_object id xs) (straight os xs) r i);
  back = λ r i.
      let w : (y : Route) × Contains xs y × (straightened new y ≡ r) = contains-map (straightened new) xs r i in
      let all : List Route = fold (after_op alone) (straight os xs) (set_all v (by_object id xs)) in
      let P : Route → Type 0 = λ z. Contains all z in
      ⊎_elim
      (λ (by : is_by id w.0.way ≡ true).
      let among : AreApart alone (by_object id xs) = λ x y j k. apart x y (filter-contains (λ z. is_by id z.way) x xs j).0 (filter-contains (λ z. is_by id z.way) y xs k).0 in
      subst P (with-way w.0 v (followed new w.0.way) (sym (does w.0.way by)) ∙ w.2) (set-made alone v (by_object id xs) (straight os xs) w.0 among (contains-filter (λ z. is_by id z.way) w.0 xs w.1 by)))
      (λ (other : is_by id w.0.way ≡ false).
      subst P (with-way w.0 (followed os w.0.way) (followed new w.0.way) (alike w.0.way other) ∙ w.2)
      (set-stays alone v (by_object id xs) (straight os xs) (straightened os w.0) (map-contains (straightened os) xs w.0 w.1) (λ x j. missed alone id xs x w.0 apart j w.1 other)))
      (cases_Bool (is_by id w.0.way));
}

-- ---- routes cleared one after the other

abbrev pub clear_all : List Route → List Op
clear_all xs = map (λ (x : Route). ops.Clear x.prefix (Some x.metric)) xs

clear-there : (alone : Bool) (xs routes : List Route) (r : Route) → Contains (fold (after_op alone) routes (clear_all xs)) r → Contains routes r × ((x : Route) → Contains xs x → hits false x r ≡ false)
clear-there alone [] routes r i = (i, λ x j. absurd (contains-none x j))
clear-there alone (y ∷ ys) routes r i =
    let left : List Route = filter (λ z. not (hits false y z)) routes in
    let rest : Contains left r × ((x : Route) → Contains ys x → hits false x r ≡ false) = clear-there alone ys left r i in
    let parts : Contains routes r × (not (hits false y r) ≡ true) = filter-contains (λ z. not (hits false y z)) r routes rest.0 in (
      parts.0,
      λ x j. ⊎_elim
          (λ (same : y ≡ x). let P : Route → Type 0 = λ z. hits false z r ≡ false in subst P same (not-true (hits false y r) parts.1))
          (λ (more : Contains ys x). rest.1 x more)
          (contains-cases y x ys j),
    )

clear-stays : (alone : Bool) (xs routes : List Route) (r : Route) → Contains routes r → ((x : Route) → Contains xs x → hits false x r ≡ false) → Contains (fold (after_op alone) routes (clear_all xs)) r
clear-stays alone [] routes r i h = i
clear-stays alone (y ∷ ys) routes r i h =
    let left : List Route = filter (λ z. not (hits false y z)) routes in
    let stays : Contains left r = contains-filter (λ z. not (hits false y z)) r routes i (not_from_false (hits false y r) (h y (contains-here y ys))) in
    clear-stays alone ys left r stays (λ x j. h x (contains-there y x ys j))

-- the routes that are not by an object
abbrev pub others : ℕ → List Route → List Route
others id xs = filter (λ x. not (is_by id x.way)) xs

-- the routes by an object, cleared, leave the other ones
pub clear-straight : (alone : Bool) (os new : List ObjectIs) (id : ℕ) (xs : List Route) → AreApart false xs → AreAlike id os new
    → SameRoutes (fold (after_op alone) (straight os xs) (clear_all (by_object id xs))) (straight new (others id xs))
clear-straight alone os new id xs apart alike = record {
  there = λ r i.
      let old : Contains (straight os xs) r × ((x : Route) → Contains (by_object id xs) x → hits false x r ≡ false) = clear-there alone (by_object id xs) (straight os xs) r i in
      let w : (y : Route) × Contains xs y × (straightened os y ≡ r) = contains-map (straightened os) xs r old.0 in
      ⊎_elim
      (λ (by : is_by id w.0.way ≡ true).
      let off : hits false w.0 r ≡ false = old.1 w.0 (contains-filter (λ z. is_by id z.way) w.0 xs w.1 by) in
      let P : Route → Type 0 = λ z. hits false w.0 z ≡ false in
      absurd (both_ways (hits false w.0 w.0) (subst P (sym w.2) off) (hits-itself false w.0)))
      (λ (other : is_by id w.0.way ≡ false).
      let P : Route → Type 0 = λ z. Contains (straight new (others id xs)) z in
      subst P (with-way w.0 (followed new w.0.way) (followed os w.0.way) (sym (alike w.0.way other)) ∙ w.2)
      (map-contains (straightened new) (others id xs) w.0 (contains-filter (λ z. not (is_by id z.way)) w.0 xs w.1 (not_from_false (is_by id w.0.way) other))))
      (cases_Bool (is_by id w.0.way));
  back = λ r i.
      let w : (y : Route) × Contains (others id xs) y × (straightened new y ≡ r) = contains-map (straightened new) (others id xs) r i in
      let parts : Contains xs w.0 × (not (is_by id w.0.way) ≡ true) = filter-contains (λ z. not (is_by id z.way)) w.0 xs w.1 in
      let other : is_by id w.0.way ≡ false = not-true (is_by id w.0.way) parts.1 in
      let P : Route → Type 0 = λ z. Contains (fold (after_op alone) (straight os xs) (clear_all (by_object id xs))) z in
      subst P (with-way w.0 (followed os w.0.way) (followed new w.0.way) (alike w.0.way other) ∙ w.2)
      (clear-stays alone (by_object id xs) (straight os xs) (straightened os w.0) (map-contains (straightened os) xs w.0 parts.0) (λ x j. missed false id xs x w.0 apart j parts.0 other));
}

-- once more they change nothing
pub clear-again : (alone : Bool) (new : List ObjectIs) (id : ℕ) (xs : List Route) → AreApart false xs
    → SameRoutes (fold (after_op alone) (straight new (others id xs)) (clear_all (by_object id xs))) (straight new (others id xs))
clear-again alone new id xs apart = record {
  there = λ r i. (clear-there alone (by_object id xs) (straight new (others id xs)) r i).0;
  back = λ r i.
      let w : (y : Route) × Contains (others id xs) y × (straightened new y ≡ r) = contains-map (straightened new) (others id xs) r i in
      let parts : Contains xs w.0 × (not (is_by id w.0.way) ≡ true) = filter-contains (λ z. not (is_by id z.way)) w.0 xs w.1 in
      let other : is_by id w.0.way ≡ false = not-true (is_by id w.0.way) parts.1 in
      let P : Route → Type 0 = λ z. Contains (fold (after_op alone) (straight new (others id xs)) (clear_all (by_object id xs))) z in
      subst P w.2 (clear-stays alone (by_object id xs) (straight new (others id xs)) (straightened new w.0) (map-contains (straightened new) (others id xs) w.0 w.1) (λ x j. missed false id xs x w.0 apart j parts.0 other));
}
