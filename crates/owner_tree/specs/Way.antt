-- The way of an address by the rules that cover it.
use Rattle.std.specs.Prelude.{ℕ, List, Option, None, Some, ◌≡◌}
use Rattle.base.specs.declared.target.Target.TheVariants.{NoRoute}
use Rattle.dn_model.specs.Routes.{IsTable}
use Rattle.dn_model.specs.Rules.{OwnersOf}
use Rattle.dn_model.specs.Table.{way_in}
use Rattle.dn_model.specs.declared.entry.Route.{Route}
use Rattle.dn_model.specs.declared.rule.Rule.{Rule}
use Rattle.dn_model.specs.declared.way.Way.{Way}
use Rattle.dn_model.specs.declared.way.Way.TheVariants.{Straight}

-- that of the rule in force; where there is none, it leads nowhere
abbrev pub way_of : Option Rule → Way
way_of None = Straight NoRoute
way_of (Some r) = r.way

-- where the rules are those of a table's routes that cover an address, the rule in force has the way of the address
abbrev pub HasTableWay : List Rule → Option Rule → Type 0
HasTableWay rules top = (routes : List Route) → (a : ℕ) → IsTable routes → OwnersOf rules routes a → way_of top ≡ way_in routes a
