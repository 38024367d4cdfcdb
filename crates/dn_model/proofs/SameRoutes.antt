-- Routing tables up to order: what an update makes of them, and the route of an address.
use Rattle.std.proofs.Common.{◌≡◌, ◌≢◌, ℕ, ◌<◌, ◌≤◌, ◌&&◌, Bool, true, not, Option, Some, None, List, [], ◌∷◌, ◌++◌, filter, ap, sym, subst, ⊎_elim, ltb, eqb}
use Rattle.std.specs.List.{Contains}
use Rattle.std.specs.List.Sorted.{IsPermutation}
use Rattle.std.proofs.lemmas.Bool.{or_from, and_right, and_left, cases_lt, le-ltb, ne_eqb, cases_eq}
use Rattle.std.proofs.lemmas.List.Elements.{Contains-push_cases, Contains-append_left, Contains-append_right}
use Rattle.std.proofs.lemmas.List.Sorted.{Contains-permutation, IsPermutation-sym}
use Rattle.base.specs.Cidr.{covers}
use Rattle.base.specs.declared.ids.RouterId.{RouterId}
use Rattle.dn_model.specs.declared.entry.Entry.{Entry}
use Rattle.dn_model.specs.declared.entry.Op.{Op}
use Rattle.dn_model.specs.declared.entry.Op.TheVariants as ops
use Rattle.dn_model.specs.declared.table_op.TableOp.{TableOp}
use Rattle.dn_model.specs.declared.table_op.TableOp.TheVariants.{Put, Clear}
use Rattle.dn_model.specs.declared.way.Way.TheVariants.{Straight, By}
use Rattle.dn_model.specs.Entry.{op_on}
use Rattle.dn_model.specs.Tables.{replaces_prefix}
use Rattle.dn_model.specs.declared.entry.Route.{Route}
use Rattle.dn_model.specs.declared.topology.Topology.{Topology}
use Rattle.dn_model.specs.Routes.{IsTable}
use Rattle.dn_model.specs.Table.{is_of_prefix, has_key, is_by, is_replaced, after_op, after_table_op, objects, table, best, target_after, target_in, target_or_none, IsBest}
use Rattle.dn_model.proofs.Best.{best-is}
use Rattle.base.proofs.Elements.{contains-filter, filter-contains, contains-here}
use Rattle.dn_model.proofs.Keys.{best-once}
use Rattle.dn_model.proofs.Tables.{table-push_own, table-push_other}

-- two lists have the same routes
pub record SameRoutes (xs ys : List Route) : Type 0 where
  pub there : (r : Route) → Contains xs r → Contains ys r
  pub back : (r : Route) → Contains ys r → Contains xs r

pub same-refl : (xs : List Route) → SameRoutes xs xs
same-refl xs = record {
  there = λ r i. i;
  back = λ r i. i;
}

pub same-permutation : (xs ys : List Route) → IsPermutation xs ys → SameRoutes xs ys
same-permutation xs ys h = record {
  there = λ r i. Contains-permutation xs ys r h i;
  back = λ r i. Contains-permutation ys xs r (IsPermutation-sym xs ys h) i;
}

pub same-trans : (xs ys zs : List Route) → SameRoutes xs ys → SameRoutes ys zs → SameRoutes xs zs
same-trans xs ys zs h k = record {
  there = λ r i. k.there r (h.there r i);
  back = λ r i. h.back r (k.back r i);
}

filtered : (p : Route → Bool) (xs ys : List Route) → ((r : Route) → Contains xs r → Contains ys r) → (r : Route) → Contains (filter p xs) r → Contains (filter p ys) r
filtered p xs ys h r i = let parts : Contains xs r × (p r ≡ true) = filter-contains p r xs i in contains-filter p r ys (h r parts.0) parts.1

pushed : (xs ys : List Route) (x : Route) → ((r : Route) → Contains xs r → Contains ys r) → (r : Route) → Contains (xs ++ x ∷ []) r → Contains (ys ++ x ∷ []) r
pushed xs ys x h r i = ⊎_elim
    (λ (old : Contains xs r). Contains-append_left ys (x ∷ []) r (h r old))
    (λ (same : x ≡ r). let P : Route → Type 0 = λ y. Contains (ys ++ x ∷ []) y in subst P same (Contains-append_right ys (x ∷ []) x (contains-here x [])))
    (Contains-push_cases xs x r i)

put-there : (alone : Bool) (xs ys : List Route) (op : TableOp) → ((r : Route) → Contains xs r → Contains ys r) → (r : Route) → Contains (after_table_op alone xs op) r → Contains (after_table_op alone ys op) r
put-there alone xs ys (Put p m w) h = pushed (filter (λ r. not (is_replaced alone p m r)) xs) (filter (λ r. not (is_replaced alone p m r)) ys) (record { prefix = p; metric = m; way = w }) (filtered (λ r. not (is_replaced alone p m r)) xs ys h)
put-there alone xs ys (Clear p None) h = filtered (λ r. not (is_of_prefix p r)) xs ys h
put-there alone xs ys (Clear p (Some m)) h = filtered (λ r. not (has_key p m r)) xs ys h

after-there : (alone : Bool) (xs ys : List Route) (op : Op) → ((r : Route) → Contains xs r → Contains ys r) → (r : Route) → Contains (after_op alone xs op) r → Contains (after_op alone ys op) r
after-there alone xs ys (ops.Set p m t) h = put-there alone xs ys (Put p m (Straight t)) h
after-there alone xs ys (ops.SetBy p m id) h = put-there alone xs ys (Put p m (By id)) h
after-there alone xs ys (ops.Clear p m) h = put-there alone xs ys (Clear p m) h
after-there alone xs ys (ops.Object id t) h = h
after-there alone xs ys (ops.NoObject id) h = filtered (λ r. not (is_by id r.way)) xs ys h

-- an update makes the same of the same routes
pub same-after : (alone : Bool) (xs ys : List Route) (op : Op) → SameRoutes xs ys → SameRoutes (after_op alone xs op) (after_op alone ys op)
same-after alone xs ys op h = record {
  there = after-there alone xs ys op h.there;
  back = after-there alone ys xs op h.back;
}

-- what has a router's routes after a history, and is then updated as one more entry says, has its routes after that
-- entry too
pub same-own : (t : Topology) (history : List Entry) (e : Entry) (r : RouterId) (op : Op) (now new : List Route) → op_on t r e ≡ Some op → SameRoutes now (table t history r) → IsPermutation new (after_op (replaces_prefix t r) now op) → SameRoutes new (table t (history ++ e ∷ []) r)
same-own t history e r op now new is h moved =
    let alone : Bool = replaces_prefix t r in
    let after : SameRoutes new (after_op alone (table t history r) op) = same-trans new (after_op alone now op) (after_op alone (table t history r) op) (same-permutation new (after_op alone now op) moved) (same-after alone now (table t history r) op h) in
    subst (λ rs. SameRoutes new rs) (sym (table-push_own t history e r op is)) after

-- of an entry that is no update to the router it keeps them
pub same-other : (t : Topology) (history : List Entry) (e : Entry) (r : RouterId) (now : List Route) → op_on t r e ≡ None → SameRoutes now (table t history r) → SameRoutes now (table t (history ++ e ∷ []) r)
same-other t history e r now other h = subst (λ rs. SameRoutes now rs) (sym (table-push_other t history e r other)) h

-- the same routes have the same route of each address
pub same-best : (xs ys : List Route) (a : ℕ) → IsTable xs → SameRoutes xs ys → best xs a ≡ best ys a
same-best xs ys a sound h = best-once xs ys a h.there h.back sound.prefixes sound.keys (best xs a) (best ys a) (best-is xs a) (best-is ys a)

pub same-target : (t : Topology) (xs : List Route) (history : List Entry) (r : RouterId) (a : ℕ) → IsTable xs → SameRoutes xs (table t history r) → target_in (objects t history r) xs a ≡ target_after t history r a
same-target t xs history r a sound h = ap (target_or_none (objects t history r)) (same-best xs (table t history r) a sound h)

-- a route that goes before all others is the route of the address
pub only-best : (xs : List Route) (a : ℕ) (o : Option Route) → IsTable xs → IsBest xs a o → o ≡ best xs a
only-best xs a o sound h = best-once xs xs a (λ r i. i) (λ r i. i) sound.prefixes sound.keys o (best xs a) h (best-is xs a)

-- it is so where no longer prefix covers the address, and none of the same length has a lesser metric
pub longest-is-best : (xs : List Route) (a : ℕ) (b : Route) → Contains xs b → covers b.prefix a ≡ true → ((r : Route) → Contains xs r → covers r.prefix a ≡ true → b.prefix.len < r.prefix.len → ⊥) → ((r : Route) → Contains xs r → covers r.prefix a ≡ true → r.prefix.len ≡ b.prefix.len → b.metric ≤ r.metric) → IsBest xs a (Some b)
longest-is-best xs a b inside covered longer equal = (
  inside,
  covered,
  λ r i c.
      let shorter : r.prefix.len ≤ b.prefix.len = ⊎_elim
      (λ (l : b.prefix.len < r.prefix.len). absurd (longer r i c l))
      (λ (l : r.prefix.len ≤ b.prefix.len). l)
      (cases_lt b.prefix.len r.prefix.len) in
      or_from (ltb b.prefix.len r.prefix.len) (eqb r.prefix.len b.prefix.len && ltb r.metric b.metric) (le-ltb b.prefix.len r.prefix.len shorter)
      (⊎_elim
      (λ (same : r.prefix.len ≡ b.prefix.len). and_right (eqb r.prefix.len b.prefix.len) (ltb r.metric b.metric) (le-ltb r.metric b.metric (equal r i c same)))
      (λ (other : r.prefix.len ≢ b.prefix.len). and_left (eqb r.prefix.len b.prefix.len) (ltb r.metric b.metric) (ne_eqb r.prefix.len b.prefix.len other))
      (cases_eq r.prefix.len b.prefix.len)),
)
