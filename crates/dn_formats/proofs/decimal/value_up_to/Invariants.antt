use Rattle.std.proofs.Common.{◌≡◌, ◌≤◌, take}
use Rattle.dn_formats.specs.Decimal.{decimal_value}
use Rattle.dn_formats.proofs.decimal.value_up_to.Given as goal

abbrev pub invariant-loop-digit : goal.invariant-loop-digit
invariant-loop-digit l = (l.value ≡ decimal_value (take l.digit-index l.digits)) × (l.value ≤ l.high)
