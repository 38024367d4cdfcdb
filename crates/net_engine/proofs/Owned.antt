-- A router's routes, its rules at one address, and what an update makes of them.
use Rattle.std.proofs.Common.{◌≡◌, ℕ, ◌∙◌, ⊎_elim, not, Bool, true, cond, Some, None, List, [], ◌∷◌, filter, fold, map, refl, ap, subst}
use Rattle.std.specs.List.{Contains, list_any}
use Rattle.std.specs.List.Sorted.{IsPermutation}
use Rattle.std.proofs.lemmas.Bool.{or_cases, or_left, or_right}
use Rattle.std.proofs.lemmas.List.Elements.{Contains-push_cases}
use Rattle.std.proofs.lemmas.List.Sorted.{Contains-permutation}
use Rattle.base.specs.Cidr.{Cidr, covers}
use Rattle.dn_model.specs.Rules.{Covers, OwnersOf, rule_of}
use Rattle.dn_model.specs.Table.{after_table_op, better, has_key, is_of_prefix, is_replaced, target_in, target_or_none}
use Rattle.dn_model.specs.declared.table_op.TableOp.{TableOp}
use Rattle.dn_model.specs.declared.table_op.TableOp.TheVariants.{Put, Clear}
use Rattle.dn_model.specs.declared.way.Way.{Way}
use Rattle.dn_model.specs.declared.entry.Route.{Route}
use Rattle.dn_model.specs.declared.rule.Rule.{Rule}
use Rattle.dn_model.specs.declared.topology.Topology.{Topology}
use Rattle.base.proofs.Elements.{contains-cases, contains-filter, contains-here, contains-none, contains-there, filter-contains}
use Rattle.base.proofs.Elements.{contains-map, map-contains}
use Rattle.dn_model.proofs.SameRoutes.{SameRoutes}
use Rattle.net_engine.specs.Routed.{rules_covering}
use Rattle.net_engine.specs.Updates.{IsTableOpOf, IsWayOf}

-- ---- routes

-- each route after an update is the one that it puts, or stood there before
pub after-cases : (P : Route → Type 0) (alone : Bool) (routes : List Route) (op : TableOp) → ((x : Route) → Contains routes x → P x) → ((p : Cidr) (m : ℕ) (w : Way) → op ≡ Put p m w → P (record { prefix = p; metric = m; way = w })) → (x : Route) → Contains (after_table_op alone routes op) x → P x
after-cases P alone routes (Put p m w) old new x h =
    let route : Route = record { prefix = p; metric = m; way = w } in
    let left : List Route = filter (λ r. not (is_replaced alone p m r)) routes in
    ⊎_elim
    (λ (there : Contains left x). old x (filter-contains (λ r. not (is_replaced alone p m r)) x routes there).0)
    (λ (same : route ≡ x). subst P same (new p m w refl))
    (Contains-push_cases left route x h)
after-cases P alone routes (Clear p None) old new x h = old x (filter-contains (λ r. not (is_of_prefix p r)) x routes h).0
after-cases P alone routes (Clear p (Some m)) old new x h = old x (filter-contains (λ r. not (has_key p m r)) x routes h).0

-- the same routes have the same rules
pub owners-same : (rules : List Rule) (xs ys : List Route) (a : ℕ) → SameRoutes xs ys → OwnersOf rules xs a → OwnersOf rules ys a
owners-same rules xs ys a same owners = record {
  from = λ r h. let w : Covers xs a r = owners.from r h in record { route = w.route; among = same.there w.route w.among; covers = w.covers; is = w.is };
  all = λ x h there. owners.all x (same.back x h) there;
}

-- ---- from one address to another that the same routes cover

-- each route covers both addresses, or neither
abbrev pub Alike : List Route → ℕ → ℕ → Type 0
Alike routes a b = (x : Route) → Contains routes x → covers x.prefix a ≡ covers x.prefix b

filter-alike : {X : Type 0} (p q : X → Bool) (xs : List X) → ((x : X) → Contains xs x → p x ≡ q x) → filter p xs ≡ filter q xs
filter-alike p q [] h = refl
filter-alike p q (x ∷ xs) h =
    ap (λ b. cond b (x ∷ filter p xs) (filter p xs)) (h x (contains-here x xs))
    ∙ ap (λ ys. cond (q x) (x ∷ ys) ys) (filter-alike p q xs (λ y k. h y (contains-there x y xs k)))

pub target-along : (routes : List Route) (a b : ℕ) → Alike routes a b → target_in [] routes a ≡ target_in [] routes b
target-along routes a b alike = ap (λ xs. target_or_none [] (fold better None xs)) (filter-alike (λ (x : Route). covers x.prefix a) (λ (x : Route). covers x.prefix b) routes alike)

pub covering-along : (routes : List Route) (a b : ℕ) → Alike routes a b → rules_covering routes a ≡ rules_covering routes b
covering-along routes a b alike = ap (map rule_of) (filter-alike (λ (x : Route). covers x.prefix a) (λ (x : Route). covers x.prefix b) routes alike)

-- the rules of the routes that cover an address
pub owners-covering : (routes : List Route) (a : ℕ) → OwnersOf (rules_covering routes a) routes a
owners-covering routes a = record {
  from = λ r h.
      let w : (x : Route) × Contains (filter (λ (y : Route). covers y.prefix a) routes) x × (rule_of x ≡ r) = contains-map rule_of (filter (λ (y : Route). covers y.prefix a) routes) r h in
      let k : Contains routes w.0 × (covers w.0.prefix a ≡ true) = filter-contains (λ (y : Route). covers y.prefix a) w.0 routes w.1 in
      record { route = w.0; among = k.0; covers = k.1; is = w.2 };
  all = λ x h there. map-contains rule_of (filter (λ (y : Route). covers y.prefix a) routes) x (contains-filter (λ (y : Route). covers y.prefix a) x routes h there);
}

-- a weaker test
pub any-weaker : {X : Type 0} (p q : X → Bool) (xs : List X) → ((x : X) → p x ≡ true → q x ≡ true) → list_any p xs ≡ true → list_any q xs ≡ true
any-weaker p q [] h t = t
any-weaker p q (x ∷ xs) h t = ⊎_elim
    (λ (e : p x ≡ true). or_left (q x) (list_any q xs) (h x e))
    (λ (e : list_any p xs ≡ true). or_right (q x) (list_any q xs) (any-weaker p q xs h e))
    (or_cases (p x) (list_any p xs) t)

-- what one element passes, one of them does
pub any-of : {X : Type 0} (q : X → Bool) (xs : List X) (x : X) → Contains xs x → q x ≡ true → list_any q xs ≡ true
any-of q [] x h t = absurd (contains-none x h)
any-of {X} q (y ∷ ys) x h t = ⊎_elim
    (λ (e : y ≡ x). or_left (q y) (list_any q ys) (ap q e ∙ t))
    (λ (more : Contains ys x). or_right (q y) (list_any q ys) (any-of q ys x more t))
    (contains-cases y x ys h)

-- ---- of all routes

way-put : (t : Topology) (op : TableOp) (p : Cidr) (m : ℕ) (w : Way) → op ≡ Put p m w → IsTableOpOf t op → IsWayOf t w
way-put t op p m w e h = let P : TableOp → Type 0 = λ o. IsTableOpOf t o in subst P e h

-- an update of the network leaves routes whose ways the network has
pub ways-after : (t : Topology) (alone : Bool) (routes new : List Route) (op : TableOp) → ((x : Route) → Contains routes x → IsWayOf t x.way) → IsTableOpOf t op → IsPermutation new (after_table_op alone routes op) → (x : Route) → Contains new x → IsWayOf t x.way
ways-after t alone routes new op old own moved x h = after-cases (λ (y : Route). IsWayOf t y.way) alone routes op old (λ p m w e. way-put t op p m w e own) x (Contains-permutation new (after_table_op alone routes op) x moved h)
