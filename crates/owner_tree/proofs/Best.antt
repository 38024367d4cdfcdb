-- The rule in force is that of the route of the address.
use Rattle.std.proofs.Common.{◌≡◌, ℕ, ◌∙◌, false, Option, Some, None, List, [], ap, sym, subst}
use Rattle.std.specs.List.{Contains}
use Rattle.std.proofs.lemmas.Bool.{false_from_ne_true}
use Rattle.base.specs.Cidr.{covers}
use Rattle.dn_model.specs.Routes.{IsTable}
use Rattle.dn_model.specs.Table.{IsBest, way_in, way_or_none}
use Rattle.dn_model.specs.declared.entry.Route.{Route}
use Rattle.base.proofs.Elements.{contains-none}
use Rattle.dn_model.proofs.SameRoutes.{only-best}
use Rattle.dn_model.specs.declared.rule.Rule.{Rule}
use Rattle.dn_model.specs.Rules.{Covers, IsTop, OwnersOf, rule_before, rule_of}
use Rattle.owner_tree.specs.Way.{way_of}

none-best : (rules : List Rule) (routes : List Route) (a : ℕ) → OwnersOf rules routes a → rules ≡ [] → IsBest routes a None
none-best rules routes a owners empty = λ x inside. false_from_ne_true (covers x.prefix a) (λ t.
    let P : List Rule → Type 0 = λ rs. Contains rs (rule_of x) in
    contains-none (rule_of x) (subst P empty (owners.all x inside t)))

top-best : (rules : List Rule) (routes : List Route) (a : ℕ) (t : Rule) → OwnersOf rules routes a → IsTop rules (Some t) → (w : Covers routes a t) → IsBest routes a (Some w.route)
top-best rules routes a t owners top w = (
  w.among,
  w.covers,
  λ x inside there.
      let P : Rule → Type 0 = λ y. rule_before (rule_of x) y ≡ false in
      subst P (sym w.is) (top.1 (rule_of x) (owners.all x inside there)),
)

-- where the rules are those of a table's routes that cover an address, the one in force has the way of the address
pub top-way : (rules : List Rule) (routes : List Route) (a : ℕ) (o : Option Rule) → IsTable routes → OwnersOf rules routes a → IsTop rules o → way_of o ≡ way_in routes a
top-way rules routes a None sound owners top = ap way_or_none (only-best routes a None sound (none-best rules routes a owners top))
top-way rules routes a (Some t) sound owners top =
    let w : Covers routes a t = owners.from t top.0 in
    ap (λ (y : Rule). y.way) (sym w.is) ∙ ap way_or_none (only-best routes a (Some w.route) sound (top-best rules routes a t owners top w))
