-- Which of two rules goes first.
use Rattle.std.specs.Prelude.{Option, None, Some, if◌then◌else◌}
use Rattle.dn_model.specs.Rules.{rule_before}
use Rattle.dn_model.specs.declared.rule.Rule.{Rule}

-- the one of two rules that goes first; the earlier one, where neither does
abbrev pub first_of : Option Rule → Rule → Option Rule
first_of None y = Some y
first_of (Some x) y = if rule_before y x then Some y else Some x
