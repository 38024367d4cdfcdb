-- Sets of rules, of which each stands for a route that covers one and the same addresses: there a length fixes the
-- prefix, so length and metric are the key (the rules of Delta-net, NSDI 2017).
use Rattle.std.specs.Prelude.{ℕ, Bool, true, false, List, [], ◌∷◌, ◌++◌, Option, None, Some, filter, not, nat_lt, Contains, IsTrue, IsFalse, ◌≡◌, ◌&&◌, ◌||◌, ◌==◌}
use Rattle.base.specs.Cidr.{covers}
use Rattle.base.specs.Lists.{all_differ}
use Rattle.dn_model.specs.declared.table_op.TableOp.{TableOp}
use Rattle.dn_model.specs.declared.table_op.TableOp.TheVariants.{Put, Clear}
use Rattle.dn_model.specs.declared.entry.Route.{Route}
use Rattle.dn_model.specs.declared.rule.Rule.{Rule}

-- whether a rule has this key
abbrev pub has_rule_key : ℕ → ℕ → Rule → Bool
has_rule_key l m r = (r.len == l) && (r.metric == m)

-- the rules with other keys
abbrev pub without_rule : List Rule → ℕ → ℕ → List Rule
without_rule rules l m = filter (λ r. not (has_rule_key l m r)) rules

-- a rule in the place of the one with its key
abbrev pub with_rule : List Rule → Rule → List Rule
with_rule rules rule = without_rule rules rule.len rule.metric ++ rule ∷ []

-- the rules of other lengths
abbrev pub without_length : List Rule → ℕ → List Rule
without_length rules l = filter (λ r. not (r.len == l)) rules

-- the rules but for the one of a length and a metric, or without a metric but for all of the length
abbrev pub cleared_rules : List Rule → ℕ → Option ℕ → List Rule
cleared_rules rules l None = without_length rules l
cleared_rules rules l (Some m) = without_rule rules l m

-- a rule in the place of the one with its key, or, alone, of all of its length
abbrev pub placed_rule : Bool → List Rule → Rule → List Rule
placed_rule false rules rule = with_rule rules rule
placed_rule true rules rule = without_length rules rule.len ++ rule ∷ []

-- what an update makes of the rules where its prefix covers: Put puts its rule in the place of the one with its key, or,
-- alone, of all of its length; Clear takes away the rule with its key, or without a metric all rules of its length
abbrev pub after_rule_op : Bool → List Rule → TableOp → List Rule
after_rule_op alone rules (Put p m w) = placed_rule alone rules (record { len = p.len; metric = m; way = w })
after_rule_op alone rules (Clear p m) = cleared_rules rules p.len m

-- whether a rule goes before another: the longer prefix, and of equal lengths the lesser metric
abbrev pub rule_before : Rule → Rule → Bool
rule_before x y = nat_lt y.len x.len || ((x.len == y.len) && nat_lt x.metric y.metric)

-- no two rules have one key
abbrev pub HasRulesOnce : List Rule → Type 0
HasRulesOnce rules = IsTrue (all_differ (λ x y. has_rule_key x.len x.metric y) rules)

-- the rule that goes before all others, if there is any
abbrev pub IsTop : List Rule → Option Rule → Type 0
IsTop rules None = rules ≡ []
IsTop rules (Some top) = Contains rules top × ((r : Rule) → Contains rules r → IsFalse (rule_before r top))

-- the rule of a route
abbrev pub rule_of : Route → Rule
rule_of x = record { len = x.prefix.len; metric = x.metric; way = x.way }

-- a route that covers an address, and whose rule this is
pub record Covers (routes : List Route) (a : ℕ) (rule : Rule) : Type 0 where
  pub route : Route
  pub among : Contains routes route
  pub covers : IsTrue (covers route.prefix a)
  pub is : rule_of route ≡ rule

-- the rules are those of the routes that cover an address
pub record OwnersOf (rules : List Rule) (routes : List Route) (a : ℕ) : Type 0 where
  pub from : (r : Rule) → Contains rules r → Covers routes a r
  pub all : (x : Route) → Contains routes x → IsTrue (covers x.prefix a) → Contains rules (rule_of x)
