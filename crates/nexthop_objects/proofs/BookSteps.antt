-- The book of objects and their users after one more entry.
use Rattle.std.proofs.Common.{◌≡◌, ℕ, ◌∙◌, ◌&&◌, ◌||◌, ◌==◌, not, Bool, true, false, cond, Option, Some, None, List, [], ◌∷◌, ◌++◌, filter, map, refl, ap, sym, subst, ⊎_elim}
use Rattle.std.specs.List.{list_any}
use Rattle.std.specs.Map.{lookup}
use Rattle.std.proofs.lemmas.Bool.{and_parts, and_right, both_ways, cases_Bool, eq-eqb, eqb-true, false_from_ne_true}
use Rattle.std.proofs.lemmas.List.Folds.{list_any-append}
use Rattle.std.proofs.lemmas.Map.Views.{any-filter_same}
use Rattle.std.proofs.lemmas.Option.{none-some}
use Rattle.base.specs.Cidr.{Cidr}
use Rattle.base.specs.declared.ids.LinkId.{LinkId}
use Rattle.base.specs.declared.ids.RouterId.{RouterId}
use Rattle.base.specs.declared.target.Target.{Target}
use Rattle.base.proofs.DeltaParts.{same-router}
use Rattle.dn_model.specs.Entry.{object_op, op_on}
use Rattle.dn_model.specs.LastSays.{names_object, object_made}
use Rattle.dn_model.specs.Table.{Object as ObjectIs, after_object, after_op, has_key, is_by, is_of_prefix, is_replaced, objects, table}
use Rattle.dn_model.specs.Tables.{device_of, replaces_prefix}
use Rattle.dn_model.specs.declared.entry.Entry.{Entry}
use Rattle.dn_model.specs.declared.entry.Entry.TheVariants.{Route, Link}
use Rattle.dn_model.specs.declared.entry.Op.{Op}
use Rattle.dn_model.specs.declared.entry.Op.TheVariants as ops
use Rattle.dn_model.specs.declared.entry.Route as route
use Rattle.dn_model.specs.declared.topology.Topology.{Topology}
use Rattle.dn_model.specs.declared.way.Way.{Way}
use Rattle.dn_model.specs.declared.way.Way.TheVariants.{Straight, By}
use Rattle.dn_model.proofs.Keys.{eqb-turned}
use Rattle.dn_model.proofs.Tables.{op-own, table-push_other, table-push_own}
use Rattle.nexthop_objects.specs.Book.{is_displaced, is_use, is_user_after, AreDisplaced, AreUsersAfter, IsBookAfter}
use Rattle.nexthop_objects.specs.Objects.{Standing, Use, User, has_user, is_object, is_same_use, is_same_user, nothing, target_of, users_among, SetsTarget, SetsUser, TakesUsers}
use Rattle.nexthop_objects.proofs.FlatSame.{objects-kept, op-none}
use Rattle.nexthop_objects.proofs.FlatSteps.{object-push, objects-other}
use Rattle.nexthop_objects.proofs.ObjectEntries.{no-object-table, none-device, object-table}

-- ---- tests

-- a route by an object that a user is of
abbrev route_by : ℕ → User → route.Route
route_by i u = record { prefix = u.1; metric = u.2; way = By i }

way-is : (i : ℕ) (w : Way) → is_by i w ≡ true → w ≡ By i
way-is i (Straight v) h = absurd (both_ways false refl h)
way-is i (By j) h = ap (λ n. By n) (eqb-true j i h)

use-is : (i : ℕ) (u : User) (x : route.Route) → is_use i u x ≡ true → x ≡ route_by i u
use-is i u x h =
    let parts : (has_key u.1 u.2 x ≡ true) × (is_by i x.way ≡ true) = and_parts (has_key u.1 u.2 x) (is_by i x.way) h in
    let key : (is_of_prefix u.1 x ≡ true) × ((x.metric == u.2) ≡ true) = and_parts (is_of_prefix u.1 x) (x.metric == u.2) parts.0 in
    let prefix : ((x.prefix.base == u.1.base) ≡ true) × ((x.prefix.len == u.1.len) ≡ true) = and_parts (x.prefix.base == u.1.base) (x.prefix.len == u.1.len) key.0 in
    let make : ℕ → ℕ → ℕ → Way → route.Route = λ b l m w. record { prefix = record { base = b; len = l }; metric = m; way = w } in
    ap (λ b. make b x.prefix.len x.metric x.way) (eqb-true x.prefix.base u.1.base prefix.0)
    ∙ ap (λ l. make u.1.base l x.metric x.way) (eqb-true x.prefix.len u.1.len prefix.1)
    ∙ ap (λ m. make u.1.base u.1.len m x.way) (eqb-true x.metric u.2 key.1)
    ∙ ap (λ w. make u.1.base u.1.len u.2 w) (way-is i x.way parts.1)

any-both : {X : Type 0} (q f : X → Bool) (b : Bool) → ((x : X) → q x ≡ true → f x ≡ b) → (xs : List X) → list_any (λ x. q x && f x) xs ≡ (b && list_any q xs)
any-both {X} q f b h [] = sym (and_right b false refl)
any-both {X} q f b h (x ∷ xs) = ⊎_elim
    (λ (y : q x ≡ true). rw y (ap (λ c. c || list_any (λ z. q z && f z) xs) (h x y) ∙ ap (λ c. b || c) (any-both q f b h xs) ∙ one b (list_any q xs)))
    (λ (n : q x ≡ false). rw n (any-both q f b h xs))
    (cases_Bool (q x))
  where
    one : (b c : Bool) → (b || (b && c)) ≡ (b && true)
    one true c = refl
    one false c = refl

-- ---- what an update of a route makes of a table's routes by an object

-- whether it sets a route by this object
abbrev sets : Op → ℕ → User → Bool
sets (ops.Set p m v) i u = false
sets (ops.SetBy p m id) i u = is_use i u (record { prefix = p; metric = m; way = By id })
sets (ops.Clear p m) i u = false
sets (ops.Object id v) i u = false
sets (ops.NoObject id) i u = false

no-use : (i : ℕ) (u : User) (p : Cidr) (m : ℕ) (v : Target) → is_use i u (record { prefix = p; metric = m; way = Straight v }) ≡ false
no-use i u p m v = and_right (has_key u.1 u.2 (record { prefix = p; metric = m; way = Straight v })) false refl

-- the route that a set by an object sets, by its key
own-use : (i id : ℕ) (u : User) (p : Cidr) (m : ℕ) → (has_key p m (route_by i u) && is_by id (By i)) ≡ is_use i u (record { prefix = p; metric = m; way = By id })
own-use i id u p m =
    ap (λ b. ((b && (u.1.len == p.len)) && (u.2 == m)) && (i == id)) (eqb-turned u.1.base p.base)
    ∙ ap (λ b. (((p.base == u.1.base) && b) && (u.2 == m)) && (i == id)) (eqb-turned u.1.len p.len)
    ∙ ap (λ b. (((p.base == u.1.base) && (p.len == u.1.len)) && b) && (i == id)) (eqb-turned u.2 m)
    ∙ ap (λ b. (((p.base == u.1.base) && (p.len == u.1.len)) && (m == u.2)) && b) (eqb-turned i id)

kept-or-set : (rep y q : Bool) → ((not rep && y) || (q || false)) ≡ (q || (not (rep && not q) && y))
kept-or-set true true true = refl
kept-or-set true true false = refl
kept-or-set true false true = refl
kept-or-set true false false = refl
kept-or-set false true true = refl
kept-or-set false true false = refl
kept-or-set false false true = refl
kept-or-set false false false = refl

or-none : (b : Bool) → (b || (false || false)) ≡ b
or-none true = refl
or-none false = refl

left-of : (i : ℕ) (u : User) (f : route.Route → Bool) (xs : List route.Route) → list_any (is_use i u) (filter f xs) ≡ (f (route_by i u) && list_any (is_use i u) xs)
left-of i u f xs = any-filter_same (is_use i u) f (f (route_by i u)) (λ x h. ap f (use-is i u x h)) xs

any-after : (alone : Bool) (op : Op) (i : ℕ) (u : User) (xs : List route.Route) → object_op op ≡ None
    → list_any (is_use i u) (after_op alone xs op) ≡ (sets op i u || (not (is_displaced alone op (route_by i u)) && list_any (is_use i u) xs))
any-after alone (ops.Set p m v) i u xs h =
    let left : List route.Route = filter (λ x. not (is_replaced alone p m x)) xs in
    let new : route.Route = record { prefix = p; metric = m; way = Straight v } in
    list_any-append (is_use i u) left (new ∷ [])
    ∙ ap (λ b. list_any (is_use i u) left || (b || false)) (no-use i u p m v)
    ∙ or-none (list_any (is_use i u) left)
    ∙ left-of i u (λ x. not (is_replaced alone p m x)) xs
any-after alone (ops.SetBy p m id) i u xs h =
    let left : List route.Route = filter (λ x. not (is_replaced alone p m x)) xs in
    let new : route.Route = record { prefix = p; metric = m; way = By id } in
    let rep : Bool = is_replaced alone p m (route_by i u) in
    let y : Bool = list_any (is_use i u) xs in
    list_any-append (is_use i u) left (new ∷ [])
    ∙ ap (λ b. b || (is_use i u new || false)) (left-of i u (λ x. not (is_replaced alone p m x)) xs)
    ∙ kept-or-set rep y (is_use i u new)
    ∙ ap (λ b. is_use i u new || (not (rep && not b) && y)) (sym (own-use i id u p m))
any-after alone (ops.Clear p None) i u xs h = left-of i u (λ x. not (is_of_prefix p x)) xs
any-after alone (ops.Clear p (Some m)) i u xs h = left-of i u (λ x. not (has_key p m x)) xs
any-after alone (ops.Object id v) i u xs h = absurd (none-some (ops.Object id v) (sym h))
any-after alone (ops.NoObject id) i u xs h = absurd (none-some (ops.NoObject id) (sym h))

-- what an update sets it doesn't take away
sets-apart : (alone : Bool) (op : Op) (i : ℕ) (u : User) → object_op op ≡ None → (sets op i u && is_displaced alone op (route_by i u)) ≡ false
sets-apart alone (ops.Set p m v) i u h = refl
sets-apart alone (ops.SetBy p m id) i u h =
    ap (λ b. is_use i u (record { prefix = p; metric = m; way = By id }) && (is_replaced alone p m (route_by i u) && not b)) (own-use i id u p m)
    ∙ off (is_use i u (record { prefix = p; metric = m; way = By id })) (is_replaced alone p m (route_by i u))
  where
    off : (q rep : Bool) → (q && (rep && not q)) ≡ false
    off true true = refl
    off true false = refl
    off false rep = refl
sets-apart alone (ops.Clear p m) i u h = refl
sets-apart alone (ops.Object id v) i u h = refl
sets-apart alone (ops.NoObject id) i u h = refl

-- ---- an update of a route

-- the users after it
users-route : (t : Topology) (history : List Entry) (r : RouterId) (n : ℕ) (op : Op) (d : RouterId) (i : ℕ) (u : User) → object_op op ≡ None
    → is_user_after t (history ++ Route r n op ∷ []) d i u ≡ cond (r.0 == u.0.0) (((device_of t r).0 == d.0) && list_any (is_use i u) (after_op (replaces_prefix t r) (table t history r) op)) (is_user_after t history d i u)
users-route t history r n op d i u none =
    let after : List route.Route = after_op (replaces_prefix t r) (table t history r) op in
    let P : Bool → Type 0 = λ b. is_user_after t (history ++ Route r n op ∷ []) d i u ≡ cond b (((device_of t r).0 == d.0) && list_any (is_use i u) after) (is_user_after t history d i u) in
    let Q : RouterId → Type 0 = λ s. (((device_of t s).0 == d.0) && list_any (is_use i u) (table t (history ++ Route r n op ∷ []) s)) ≡ (((device_of t r).0 == d.0) && list_any (is_use i u) after) in
    ⊎_elim
    (λ (y : (r.0 == u.0.0) ≡ true).
    subst P (sym y)
    (subst Q (same-router r u.0 (eqb-true r.0 u.0.0 y))
    (ap (λ xs. ((device_of t r).0 == d.0) && list_any (is_use i u) xs) (table-push_own t history (Route r n op) r op (op-own t r r n op refl)))))
    (λ (z : (r.0 == u.0.0) ≡ false).
    subst P (sym z)
    (ap (λ xs. ((device_of t u.0).0 == d.0) && list_any (is_use i u) xs) (table-push_other t history (Route r n op) u.0 (op-none t u.0 r n op none z))))
    (cases_Bool (r.0 == u.0.0))

taken : (a s d y : Bool) → (s && d) ≡ false → cond (a && (true && (d && y))) false ((a && (true && s)) || (a && y)) ≡ (a && (s || (not d && y)))
taken false s d y h = refl
taken true true true y h = absurd (both_ways true h refl)
taken true true false y h = refl
taken true false true true h = refl
taken true false true false h = refl
taken true false false y h = refl

passed : (a s x : Bool) → cond (a && false) false ((a && (false && s)) || x) ≡ x
passed true s x = refl
passed false s x = refl

module _ (t : Topology) (history : List Entry) (old new : Standing) (r : RouterId) (n : ℕ) (op : Op) (uses : List Use) (none : object_op op ≡ None) (keeps : (os : List ObjectIs) → after_object os op ≡ os) (exact : AreDisplaced t history r op uses) where
  -- the users that it takes away are taken away, and the one that it sets, if any, is set
  pub route-book : IsBookAfter t history old → new.targets ≡ old.targets
      → ((d : RouterId) (i : ℕ) (u : User) → has_user new d i u ≡ cond (((device_of t r).0 == d.0) && list_any (is_same_use (i, u)) uses) false ((((device_of t r).0 == d.0) && ((r.0 == u.0.0) && sets op i u)) || has_user old d i u))
      → IsBookAfter t (history ++ Route r n op ∷ []) new
  route-book book targets users = record {
    targets = λ device id own. ap (λ ts. lookup (λ k. (device.0 == k.device.0) && (id == k.id)) ts) targets ∙ book.targets device id own ∙ ap (λ os. lookup (λ i. i == id) os) (sym (objects-kept t history device r n op none keeps));
    users = λ d i u. users d i u ∙ ap (λ b. cond (((device_of t r).0 == d.0) && b) false ((((device_of t r).0 == d.0) && ((r.0 == u.0.0) && sets op i u)) || has_user old d i u)) (exact i u) ∙ one d i u;
  }
    where
      xs : List route.Route
      xs = table t history r

      alone : Bool
      alone = replaces_prefix t r

      one : (d : RouterId) (i : ℕ) (u : User) → cond (((device_of t r).0 == d.0) && ((r.0 == u.0.0) && list_any (λ x. is_use i u x && is_displaced alone op x) xs)) false ((((device_of t r).0 == d.0) && ((r.0 == u.0.0) && sets op i u)) || has_user old d i u) ≡ is_user_after t (history ++ Route r n op ∷ []) d i u
      one d i u = ⊎_elim
          (λ (y : (r.0 == u.0.0) ≡ true).
          let at : r ≡ u.0 = same-router r u.0 (eqb-true r.0 u.0.0 y) in
          let was : has_user old d i u ≡ (a && z) = book.users d i u ∙ ap (λ (s : RouterId). ((device_of t s).0 == d.0) && list_any (is_use i u) (table t history s)) (sym at) in
          subst P (sym y)
          (ap (λ b. cond (a && (true && b)) false ((a && (true && sets op i u)) || has_user old d i u)) (any-both (is_use i u) (is_displaced alone op) gone (λ x h. ap (is_displaced alone op) (use-is i u x h)) xs)
          ∙ ap (λ b. cond (a && (true && (gone && z))) false ((a && (true && sets op i u)) || b)) was
          ∙ taken a (sets op i u) gone z (sets-apart alone op i u none)
          ∙ ap (λ b. a && b) (sym (any-after alone op i u xs none)))
          ∙ sym (users-route t history r n op d i u none ∙ ap (λ b. cond b (a && list_any (is_use i u) (after_op alone xs op)) (is_user_after t history d i u)) y))
          (λ (w : (r.0 == u.0.0) ≡ false).
          subst R (sym w) (passed a (sets op i u) (has_user old d i u) ∙ book.users d i u)
          ∙ sym (users-route t history r n op d i u none ∙ ap (λ b. cond b (a && list_any (is_use i u) (after_op alone xs op)) (is_user_after t history d i u)) w))
          (cases_Bool (r.0 == u.0.0))
        where
          a : Bool
          a = (device_of t r).0 == d.0

          z : Bool
          z = list_any (is_use i u) xs

          gone : Bool
          gone = is_displaced alone op (route_by i u)

          P : Bool → Type 0
          P b = cond (a && (b && list_any (λ x. is_use i u x && is_displaced alone op x) xs)) false ((a && (b && sets op i u)) || has_user old d i u) ≡ (a && list_any (is_use i u) (after_op alone xs op))

          R : Bool → Type 0
          R b = cond (a && (b && list_any (λ x. is_use i u x && is_displaced alone op x) xs)) false ((a && (b && sets op i u)) || has_user old d i u) ≡ is_user_after t history d i u

no-set : (a r x : Bool) → ((a && (r && false)) || x) ≡ x
no-set true true x = refl
no-set true false x = refl
no-set false r x = refl

-- a route that is set by itself, or cleared, or by an object
pub set-book : (t : Topology) (history : List Entry) (old new : Standing) (r : RouterId) (n : ℕ) (p : Cidr) (m : ℕ) (v : Target) (uses : List Use)
    → IsBookAfter t history old → AreDisplaced t history r (ops.Set p m v) uses → new.targets ≡ old.targets → TakesUsers old new (device_of t r) uses
    → IsBookAfter t (history ++ Route r n (ops.Set p m v) ∷ []) new
set-book t history old new r n p m v uses book exact targets takes =
    route-book t history old new r n (ops.Set p m v) uses refl (λ os. refl) exact book targets
    (λ d i u. takes d i u ∙ ap (λ b. cond (((device_of t r).0 == d.0) && list_any (is_same_use (i, u)) uses) false b) (sym (no-set ((device_of t r).0 == d.0) (r.0 == u.0.0) (has_user old d i u))))

pub clear-book : (t : Topology) (history : List Entry) (old new : Standing) (r : RouterId) (n : ℕ) (p : Cidr) (m : Option ℕ) (uses : List Use)
    → IsBookAfter t history old → AreDisplaced t history r (ops.Clear p m) uses → new.targets ≡ old.targets → TakesUsers old new (device_of t r) uses
    → IsBookAfter t (history ++ Route r n (ops.Clear p m) ∷ []) new
clear-book t history old new r n p m uses book exact targets takes =
    route-book t history old new r n (ops.Clear p m) uses refl (λ os. refl) exact book targets
    (λ d i u. takes d i u ∙ ap (λ b. cond (((device_of t r).0 == d.0) && list_any (is_same_use (i, u)) uses) false b) (sym (no-set ((device_of t r).0 == d.0) (r.0 == u.0.0) (has_user old d i u))))

added : (a r b l m i x : Bool) → cond ((a && i) && (((r && b) && l) && m)) true x ≡ ((a && (r && (((b && l) && m) && i))) || x)
added false r b l m i x = refl
added true false b l m true x = refl
added true false b l m false x = refl
added true true false l m true x = refl
added true true false l m false x = refl
added true true true false m true x = refl
added true true true false m false x = refl
added true true true true false true x = refl
added true true true true false false x = refl
added true true true true true true x = refl
added true true true true true false x = refl

pub set_by-book : (t : Topology) (history : List Entry) (old mid new : Standing) (r : RouterId) (n : ℕ) (p : Cidr) (m id : ℕ) (uses : List Use)
    → IsBookAfter t history old → AreDisplaced t history r (ops.SetBy p m id) uses → new.targets ≡ old.targets → SetsUser old mid (device_of t r) id (r, p, m) true → TakesUsers mid new (device_of t r) uses
    → IsBookAfter t (history ++ Route r n (ops.SetBy p m id) ∷ []) new
set_by-book t history old mid new r n p m id uses book exact targets adds takes =
    route-book t history old new r n (ops.SetBy p m id) uses refl (λ os. refl) exact book targets
    (λ d i u.
    takes d i u
    ∙ ap (λ b. cond (((device_of t r).0 == d.0) && list_any (is_same_use (i, u)) uses) false b)
    (adds d i u ∙ added ((device_of t r).0 == d.0) (r.0 == u.0.0) (p.base == u.1.base) (p.len == u.1.len) (m == u.2) (id == i) (has_user old d i u)))

both-set : (r a s rep y x : Bool) → ((a && (r && s)) || cond r (a && (false || (not rep && y))) x) ≡ cond r (a && (s || (not (rep && not s) && y))) x
both-set false true s rep y x = refl
both-set false false s rep y x = refl
both-set true false s rep y x = refl
both-set true true true rep y x = refl
both-set true true false true y x = refl
both-set true true false false y x = refl

-- or all that it displaces are taken away first
pub set_by-book_last : (t : Topology) (history : List Entry) (old mid new : Standing) (r : RouterId) (n : ℕ) (p : Cidr) (m id : ℕ) (v : Target) (uses : List Use)
    → IsBookAfter t history old → AreDisplaced t history r (ops.Set p m v) uses → new.targets ≡ old.targets → TakesUsers old mid (device_of t r) uses → SetsUser mid new (device_of t r) id (r, p, m) true
    → IsBookAfter t (history ++ Route r n (ops.SetBy p m id) ∷ []) new
set_by-book_last t history old mid new r n p m id v uses book exact targets takes adds = record {
  targets = λ device i own. ap (λ ts. lookup (is_object device i) ts) targets ∙ book.targets device i own ∙ ap (λ os. lookup (λ k. k == i) os) (sym (objects-kept t history device r n (ops.SetBy p m id) refl (λ os. refl)));
  users = λ d i u.
      let a : Bool = (device_of t r).0 == d.0 in
      let at : Bool = r.0 == u.0.0 in
      let s : Bool = is_use i u (record { prefix = p; metric = m; way = By id }) in
      let rep : Bool = is_replaced alone p m (route_by i u) in
      let y : Bool = list_any (is_use i u) xs in
      let x : Bool = is_user_after t history d i u in
      adds d i u
      ∙ added a at (p.base == u.1.base) (p.len == u.1.len) (m == u.2) (id == i) (has_user mid d i u)
      ∙ ap (λ b. (a && (at && s)) || b) (between.users d i u ∙ users-route t history r n (ops.Set p m v) d i u refl ∙ ap (λ b. cond at (a && b) x) (any-after alone (ops.Set p m v) i u xs refl))
      ∙ both-set at a s rep y x
      ∙ ap (λ b. cond at (a && (s || (not (rep && not b) && y))) x) (sym (own-use i id u p m))
      ∙ sym (users-route t history r n (ops.SetBy p m id) d i u refl ∙ ap (λ b. cond at (a && b) x) (any-after alone (ops.SetBy p m id) i u xs refl));
}
  where
    alone : Bool
    alone = replaces_prefix t r

    xs : List route.Route
    xs = table t history r

    between : IsBookAfter t (history ++ Route r n (ops.Set p m v) ∷ []) (record { targets = old.targets; users = mid.users })
    between = set-book t history old (record { targets = old.targets; users = mid.users }) r n p m v uses book exact refl takes

-- ---- an update of an object

-- what it does
object-targets : (t : Topology) (history : List Entry) (old new : Standing) (d : RouterId) (n id : ℕ) (op : Op) → ((i : ℕ) → names_object i op ≡ (id == i)) → IsBookAfter t history old → SetsTarget old new d id (object_made op)
    → (device : RouterId) (i : ℕ) → device_of t device ≡ device → target_of new device i ≡ lookup (λ k. k == i) (objects t (history ++ Route d n op ∷ []) device)
object-targets t history old new d n id op names book set device i own = set device i ∙ ⊎_elim
    (λ (y : (d.0 == device.0) ≡ true).
    let at_device : op_on t (device_of t device) entry ≡ Some op = op-own t (device_of t device) d n op (eqb-true d.0 device.0 y ∙ ap (λ (s : RouterId). s.0) (sym own)) in
    subst P (sym y)
    (ap (λ b. cond b (object_made op) (target_of old device i)) (sym (names i))
    ∙ ap (λ o. cond (names_object i op) (object_made op) o) (book.targets device i own)
    ∙ sym (object-push t history entry device op i at_device)))
    (λ (z : (d.0 == device.0) ≡ false).
    let apart : d.0 ≡ (device_of t device).0 → ⊥ = λ e. both_ways (d.0 == device.0) z (eq-eqb d.0 device.0 (e ∙ ap (λ (s : RouterId). s.0) own)) in
    subst P (sym z)
    (book.targets device i own ∙ ap (λ os. lookup (λ k. k == i) os) (sym (objects-other t history entry device (none-device t device d n op apart)))))
    (cases_Bool (d.0 == device.0))
  where
    entry : Entry
    entry = Route d n op

    P : Bool → Type 0
    P b = cond (b && (id == i)) (object_made op) (target_of old device i) ≡ lookup (λ k. k == i) (objects t (history ++ entry ∷ []) device)

pub object-book : (t : Topology) (history : List Entry) (old new : Standing) (d : RouterId) (n id : ℕ) (v : Target) → IsBookAfter t history old → SetsTarget old new d id (Some v) → new.users ≡ old.users → IsBookAfter t (history ++ Route d n (ops.Object id v) ∷ []) new
object-book t history old new d n id v book set users = record {
  targets = object-targets t history old new d n id (ops.Object id v) (λ i. refl) book set;
  users = λ device i u.
      ap (λ keys. list_any (is_same_user u) (users_among device i keys)) users ∙ book.users device i u
      ∙ ap (λ xs. ((device_of t u.0).0 == device.0) && list_any (is_use i u) xs) (sym (object-table t history d u.0 n id v));
}

-- ---- an object that goes away

same-id : (i id : ℕ) (u : User) (users : List User) → list_any (is_same_use (i, u)) (map (λ (w : User). (id, w)) users) ≡ ((i == id) && list_any (is_same_user u) users)
same-id i id u [] = sym (and_right (i == id) false refl)
same-id i id u (w ∷ ws) = ap (λ b. ((i == id) && is_same_user u w) || b) (same-id i id u ws) ∙ one (i == id) (is_same_user u w) (list_any (is_same_user u) ws)
  where
    one : (a b c : Bool) → ((a && b) || (a && c)) ≡ (a && (b || c))
    one true b c = refl
    one false b c = refl

all-gone : (e v w y : Bool) → (e ≡ true → v ≡ w) → (e ≡ false → (v && w) ≡ false) → cond (e && (w && y)) false (v && y) ≡ (v && (not w && y))
all-gone true v true y h k = let is : v ≡ true = h refl in rw is (gone y)
  where
    gone : (y : Bool) → cond y false y ≡ false
    gone true = refl
    gone false = refl
all-gone true v false y h k = let is : v ≡ false = h refl in rw is refl
all-gone false true true y h k = absurd (both_ways true (k refl) refl)
all-gone false true false y h k = refl
all-gone false false w y h k = refl

none-gone : (e v w y other : Bool) → cond (e && (false && other)) false (v && y) ≡ (v && (not (w && false) && y))
none-gone true v true y other = refl
none-gone true v false y other = refl
none-gone false v true y other = refl
none-gone false v false y other = refl

and-true : (b : Bool) → (b && true) ≡ b
and-true true = refl
and-true false = refl

pub no_object-book : (t : Topology) (history : List Entry) (old new : Standing) (d : RouterId) (n id : ℕ) (users : List User) → device_of t d ≡ d → IsBookAfter t history old → AreUsersAfter t history d id users → SetsTarget old new d id None
    → TakesUsers old new d (map (λ (u : User). (id, u)) users) → IsBookAfter t (history ++ Route d n (ops.NoObject id) ∷ []) new
no_object-book t history old new d n id users device book exact set takes = record {
  targets = object-targets t history old new d n id (ops.NoObject id) (λ i. refl) book set;
  users = λ owner i u.
      takes owner i u
      ∙ ap (λ b. cond ((d.0 == owner.0) && b) false (has_user old owner i u)) (same-id i id u users ∙ ap (λ b. (i == id) && b) (exact u))
      ∙ ap (λ b. cond ((d.0 == owner.0) && ((i == id) && is_user_after t history d id u)) false b) (book.users owner i u)
      ∙ one owner i u
      ∙ ap (λ b. ((device_of t u.0).0 == owner.0) && b) (sym (left-of i u (λ x. not (((device_of t u.0).0 == d.0) && is_by id x.way)) (table t history u.0)))
      ∙ ap (λ xs. ((device_of t u.0).0 == owner.0) && list_any (is_use i u) xs) (sym (no-object-table t history d u.0 n id device));
}
  where
    one : (owner : RouterId) (i : ℕ) (u : User) → cond ((d.0 == owner.0) && ((i == id) && is_user_after t history d id u)) false (is_user_after t history owner i u)
        ≡ (((device_of t u.0).0 == owner.0) && (not (((device_of t u.0).0 == d.0) && (i == id)) && list_any (is_use i u) (table t history u.0)))
    one owner i u = ⊎_elim
        (λ (y : (i == id) ≡ true).
        subst P (sym y)
        (ap (λ k. cond (e && (w && list_any (is_use k u) xs)) false (v && z)) (sym (eqb-true i id y))
        ∙ all-gone e v w z
        (λ h. ap (λ k. (device_of t u.0).0 == k) (sym (eqb-true d.0 owner.0 h)))
        (λ h. false_from_ne_true (v && w) (λ both.
        let parts : (v ≡ true) × (w ≡ true) = and_parts v w both in
        both_ways e h (eq-eqb d.0 owner.0 (sym (eqb-true (device_of t u.0).0 d.0 parts.1) ∙ eqb-true (device_of t u.0).0 owner.0 parts.0))))
        ∙ ap (λ b. v && (not b && z)) (sym (and-true w))))
        (λ (n : (i == id) ≡ false). subst P (sym n) (none-gone e v w z (is_user_after t history d id u)))
        (cases_Bool (i == id))
      where
        xs : List route.Route
        xs = table t history u.0

        e : Bool
        e = d.0 == owner.0

        v : Bool
        v = (device_of t u.0).0 == owner.0

        w : Bool
        w = (device_of t u.0).0 == d.0

        z : Bool
        z = list_any (is_use i u) xs

        P : Bool → Type 0
        P b = cond (e && (b && is_user_after t history d id u)) false (is_user_after t history owner i u) ≡ (v && (not (w && b) && z))

-- ---- other entries

pub nothing-book : (t : Topology) → IsBookAfter t [] nothing
nothing-book t = record {
  targets = λ device id own. refl;
  users = λ device id u. sym (and_right ((device_of t u.0).0 == device.0) false refl);
}

pub link-book : (t : Topology) (history : List Entry) (s : Standing) (job : ℕ) (l : LinkId) (down : Bool) → IsBookAfter t history s → IsBookAfter t (history ++ Link job l down ∷ []) s
link-book t history s job l down book = record {
  targets = λ device id own. book.targets device id own ∙ ap (λ os. lookup (λ i. i == id) os) (sym (objects-other t history (Link job l down) device refl));
  users = λ device id u. book.users device id u ∙ ap (λ xs. ((device_of t u.0).0 == device.0) && list_any (is_use id u) xs) (sym (table-push_other t history (Link job l down) u.0 refl));
}

-- ---- users that are taken away one after the other

pub none-taken : (s : Standing) (d : RouterId) → TakesUsers s s d []
none-taken s d owner i u = one (d.0 == owner.0) (has_user s owner i u)
  where
    one : (e x : Bool) → x ≡ cond (e && false) false x
    one true x = refl
    one false x = refl

user-turned : (u w : User) → is_same_user u w ≡ is_same_user w u
user-turned u w =
    ap (λ b. ((b && (u.1.base == w.1.base)) && (u.1.len == w.1.len)) && (u.2 == w.2)) (eqb-turned u.0.0 w.0.0)
    ∙ ap (λ b. (((w.0.0 == u.0.0) && b) && (u.1.len == w.1.len)) && (u.2 == w.2)) (eqb-turned u.1.base w.1.base)
    ∙ ap (λ b. (((w.0.0 == u.0.0) && (w.1.base == u.1.base)) && b) && (u.2 == w.2)) (eqb-turned u.1.len w.1.len)
    ∙ ap (λ b. (((w.0.0 == u.0.0) && (w.1.base == u.1.base)) && (w.1.len == u.1.len)) && b) (eqb-turned u.2 w.2)

more : (e i s l x : Bool) → cond ((e && i) && s) false (cond (e && l) false x) ≡ cond (e && (l || ((i && s) || false))) false x
more false i s l x = refl
more true true true true x = refl
more true true true false x = refl
more true true false true x = refl
more true true false false x = refl
more true false s true x = refl
more true false s false x = refl

pub one-taken : (old mid new : Standing) (d : RouterId) (id : ℕ) (u : User) (uses : List Use) → TakesUsers old mid d uses → SetsUser mid new d id u false → TakesUsers old new d (uses ++ (id, u) ∷ [])
one-taken old mid new d id u uses takes sets owner i w =
    let e : Bool = d.0 == owner.0 in
    let l : Bool = list_any (is_same_use (i, w)) uses in
    sets owner i w
    ∙ ap (λ b. cond ((e && (id == i)) && is_same_user u w) false b) (takes owner i w)
    ∙ ap (λ b. cond ((e && b) && is_same_user u w) false (cond (e && l) false (has_user old owner i w))) (eqb-turned id i)
    ∙ ap (λ b. cond ((e && (i == id)) && b) false (cond (e && l) false (has_user old owner i w))) (user-turned u w)
    ∙ more e (i == id) (is_same_user w u) l (has_user old owner i w)
    ∙ ap (λ b. cond (e && b) false (has_user old owner i w)) (sym (list_any-append (is_same_use (i, w)) uses ((id, u) ∷ [])))
