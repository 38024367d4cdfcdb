-- On a router that replaces by prefix a table has each prefix once.
use Rattle.std.proofs.Common.{◌≡◌, ◌∙◌, ◌&&◌, not, Bool, true, false, None, Some, List, [], ◌∷◌, filter, fold, IsTrue, refl, ap, subst, sym, eqb}
use Rattle.std.specs.List.{list_any}
use Rattle.std.proofs.lemmas.Bool.{and_from, both_ways, cond_both, false_from_ne_true, not-true, or_from}
use Rattle.base.specs.Lists.{all_differ}
use Rattle.base.specs.declared.ids.RouterId.{RouterId}
use Rattle.dn_model.specs.Table.{after_op, after_table_op, has_key, is_by, is_of_prefix, is_replaced, ops_on, table}
use Rattle.dn_model.specs.Tables.{replaces_prefix}
use Rattle.dn_model.specs.declared.entry.Entry.{Entry}
use Rattle.dn_model.specs.declared.entry.Op.{Op}
use Rattle.dn_model.specs.declared.entry.Op.TheVariants as ops
use Rattle.dn_model.specs.declared.entry.Route.{Route}
use Rattle.dn_model.specs.declared.table_op.TableOp.{TableOp}
use Rattle.dn_model.specs.declared.table_op.TableOp.TheVariants.{Put, Clear}
use Rattle.dn_model.specs.declared.topology.Topology.{Topology}
use Rattle.dn_model.specs.declared.way.Way.TheVariants.{Straight, By}
use Rattle.dn_model.proofs.Keys.{differ-filter, differ-push, eqb-turned}

abbrev same_prefix : Route → Route → Bool
same_prefix x y = is_of_prefix x.prefix y

turned : (x y : Route) → same_prefix x y ≡ same_prefix y x
turned x y =
    let base : eqb y.prefix.base x.prefix.base ≡ eqb x.prefix.base y.prefix.base = eqb-turned y.prefix.base x.prefix.base in
    let len : eqb y.prefix.len x.prefix.len ≡ eqb x.prefix.len y.prefix.len = eqb-turned y.prefix.len x.prefix.len in
    ap (λ (b : Bool). b && eqb y.prefix.len x.prefix.len) base ∙ ap (λ (b : Bool). eqb x.prefix.base y.prefix.base && b) len

not-replaced : (y x : Route) → is_replaced true y.prefix y.metric x ≡ false → is_of_prefix y.prefix x ≡ false
not-replaced y x h = false_from_ne_true (is_of_prefix y.prefix x) (λ t. both_ways (is_replaced true y.prefix y.metric x) h (and_from (is_of_prefix y.prefix x) true t refl))

prefix-gone : (y : Route) (xs : List Route) → list_any (λ x. same_prefix x y) (filter (λ r. not (is_replaced true y.prefix y.metric r)) xs) ≡ false
prefix-gone y [] = refl
prefix-gone y (x ∷ xs) =
    let left : List Route = filter (λ r. not (is_replaced true y.prefix y.metric r)) xs in
    let P : List Route → Type 0 = λ ys. list_any (λ z. same_prefix z y) ys ≡ false in
    cond_both (not (is_replaced true y.prefix y.metric x)) (x ∷ left) left P
    (λ t. or_from (same_prefix x y) (list_any (λ z. same_prefix z y) left) (turned x y ∙ not-replaced y x (not-true (is_replaced true y.prefix y.metric x) t)) (prefix-gone y xs))
    (λ f. prefix-gone y xs)

prefix-put : (routes : List Route) (op : TableOp) → all_differ same_prefix routes ≡ true → all_differ same_prefix (after_table_op true routes op) ≡ true
prefix-put routes (Put p m w) h =
    let y : Route = record { prefix = p; metric = m; way = w } in
    differ-push same_prefix (filter (λ r. not (is_replaced true p m r)) routes) y (differ-filter same_prefix (λ r. not (is_replaced true p m r)) routes h) (prefix-gone y routes)
prefix-put routes (Clear p None) h = differ-filter same_prefix (λ r. not (is_of_prefix p r)) routes h
prefix-put routes (Clear p (Some m)) h = differ-filter same_prefix (λ r. not (has_key p m r)) routes h

prefix-after : (routes : List Route) (op : Op) → all_differ same_prefix routes ≡ true → all_differ same_prefix (after_op true routes op) ≡ true
prefix-after routes (ops.Set p m t) h = prefix-put routes (Put p m (Straight t)) h
prefix-after routes (ops.SetBy p m id) h = prefix-put routes (Put p m (By id)) h
prefix-after routes (ops.Clear p m) h = prefix-put routes (Clear p m) h
prefix-after routes (ops.Object id t) h = h
prefix-after routes (ops.NoObject id) h = differ-filter same_prefix (λ r. not (is_by id r.way)) routes h

prefix-fold : (routes : List Route) (all : List Op) → all_differ same_prefix routes ≡ true → all_differ same_prefix (fold (after_op true) routes all) ≡ true
prefix-fold routes [] h = h
prefix-fold routes (op ∷ all) h = prefix-fold (after_op true routes op) all (prefix-after routes op h)

pub prefix-once : (t : Topology) (history : List Entry) (r : RouterId) → replaces_prefix t r ≡ true → IsTrue (all_differ (λ x y. is_of_prefix x.prefix y) (table t history r))
prefix-once t history r h = subst (λ b. all_differ same_prefix (fold (after_op b) [] (ops_on t r history)) ≡ true) (sym h) (prefix-fold [] (ops_on t r history) refl)
