-- One router's routes: its rules at an address, and where they end.
use Rattle.std.specs.Prelude.{ℕ, Bool, List, filter, map}
use Rattle.std.specs.List.{list_any}
use Rattle.base.specs.Cidr.{covers}
use Rattle.dn_model.specs.Entry.{is_bound_of}
use Rattle.dn_model.specs.Rules.{rule_of}
use Rattle.dn_model.specs.declared.entry.Route.{Route}
use Rattle.dn_model.specs.declared.rule.Rule.{Rule}

-- the rules of the routes that cover an address
abbrev pub rules_covering : List Route → ℕ → List Rule
rules_covering routes a = map rule_of (filter (λ x. covers x.prefix a) routes)

-- whether the prefix of a route begins at an address, or ends before it
abbrev pub ends_in : List Route → ℕ → Bool
ends_in routes a = list_any (λ x. is_bound_of x.prefix a) routes
