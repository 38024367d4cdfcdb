use Rattle.std.proofs.Common.{arith, ◌+◌, ◌<◌, length}
use Rattle.dn_formats.specs.Decimal.{decimal_value}
use Rattle.dn_formats.proofs.Digits.{too_large, decimal_value-front, decimal_value-more}
use Rattle.dn_formats.proofs.decimal.value_up_to.Goals as goal

pub returns-then-value-from-clause-value : goal.returns-then-value-from-clause-value
returns-then-value-from-clause-value c =
    let within : c.loop-digit.digit-index < length c.args.digits.now = omega arith in
    too_large (decimal_value c.args.digits.now) c.args.high
    (omega (arith, decimal_value-front c.args.digits.now (c.loop-digit.digit-index + 1), decimal_value-more c.args.digits.now c.loop-digit.digit-index within))
