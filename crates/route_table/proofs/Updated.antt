-- An update of a table: what is done after it, and what it cost.
use Rattle.std.proofs.Common.{◌≡◌, ℕ, Bool, ◌+◌, ◌≤◌, true, false, Option, None, Some, List, refl, sym, subst, rules}
use Rattle.std.specs.Option.{is_some, option_eq}
use Rattle.base.specs.Cidr.{Cidr, IsCidr}
use Rattle.dn_model.specs.Table.{prefix_of_op}
use Rattle.dn_model.specs.Routes.{IsTable}
use Rattle.dn_model.specs.Table.{way_in}
use Rattle.dn_model.specs.contracts.way.WayPartialEq.TheImpl.{eq-value}
use Rattle.dn_model.specs.declared.table_op.TableOp.{TableOp}
use Rattle.dn_model.specs.declared.entry.Route.{Route}
use Rattle.dn_model.specs.declared.way.Way.{Way}
use Rattle.route_table.specs.Above.{IsDoneAbove}
use Rattle.route_table.specs.Made.{IsFirstIn, IsMade}
use Rattle.route_table.specs.Own.{IsLooked, IsPassed, IsTurned}
use Rattle.route_table.specs.Slots.{AreSlots, PrefixRoutes, routes_of}
use Rattle.route_table.proofs.Turned.{AreOthers, looked-passed, others-after, same-everywhere, turned-above, turned-first}
use Rattle.route_table.proofs.Whole.{table-of}

target-exact : (x y : Way) → eq-value.it x y ≡ true → x ≡ y
target-exact x y h = search rules

module _ (slots new : List PrefixRoutes) (now : List Route) (alone : Bool) (op : TableOp) (place : ℕ) (base : Option ℕ) (view : routes_of slots ≡ now) (form : AreSlots slots) (form_new : AreSlots new) where
  table : IsTable now
  table = table-of slots now form view

  table-new : IsTable (routes_of new)
  table-new = table-of new (routes_of new) form_new refl

  module _ (before first : Option Way) (made : IsMade slots new alone op place base before first) where
    others : AreOthers (prefix_of_op op) now (routes_of new)
    others = subst (λ rs. AreOthers (prefix_of_op op) rs (routes_of new)) view (others-after (routes_of slots) (routes_of new) alone op made.routes)

    pub update-first : (t after : Way) → IsCidr (prefix_of_op op) → first ≡ Some t → after ≡ t → IsTurned now (routes_of new) (prefix_of_op op) after
    update-first t after sound is e =
        subst (λ x. IsTurned now (routes_of new) (prefix_of_op op) x) (sym e)
        (turned-first (prefix_of_op op) now (routes_of new) t sound table table-new others (subst (λ o. IsFirstIn (routes_of new) (prefix_of_op op) o) is made.first_is))

    pub update-above : (t after : Way) → IsCidr (prefix_of_op op) → first ≡ None → IsDoneAbove new (prefix_of_op op) t → after ≡ t → IsTurned now (routes_of new) (prefix_of_op op) after
    update-above t after sound is done e =
        subst (λ x. IsTurned now (routes_of new) (prefix_of_op op) x) (sym e)
        (turned-above (prefix_of_op op) now new t sound table form_new table-new others (subst (λ o. IsFirstIn (routes_of new) (prefix_of_op op) o) is made.first_is) done)

    pub update-cost : (was between last : ℕ) (p : Cidr) → p ≡ prefix_of_op op → between ≤ was + 2 → IsPassed (routes_of new) p between last → IsLooked now (prefix_of_op op) was last
    update-cost was between last p e l h = looked-passed (prefix_of_op op) now (routes_of new) was between last others l (subst (λ q. IsPassed (routes_of new) q between last) e h)

  update-some : (before : Option Way) (t : Way) → IsMade slots new alone op place base before (Some t) → option_eq eq-value.it (Some t) before ≡ true → (a : ℕ) → way_in (routes_of new) a ≡ way_in now a
  update-some None t made e a = absurd (let f : false ≡ true = e in cc)
  update-some (Some b) t made e a =
      let same : t ≡ b = target-exact t b e in
      let first : IsFirstIn now (prefix_of_op op) (Some b) = subst (λ rs. IsFirstIn rs (prefix_of_op op) (Some b)) view made.before_is in
      let sound : IsCidr (prefix_of_op op) = subst (λ q. IsCidr q) first.1.prefix (table.prefixes first.0 first.1.among) in
      same-everywhere (prefix_of_op op) now (routes_of new) t a sound table table-new (others (Some b) (Some t) made) (subst (λ x. IsFirstIn now (prefix_of_op op) (Some x)) (sym same) first) made.first_is

  pub update-same : (before first : Option Way) → IsMade slots new alone op place base before first → is_some first ≡ true → option_eq eq-value.it first before ≡ true → (a : ℕ) → way_in (routes_of new) a ≡ way_in now a
  update-same before None made some e a = absurd (let f : false ≡ true = some in cc)
  update-same before (Some t) made some e a = update-some before t made e a
