use Rattle.std.proofs.Common.{rules}
use Rattle.pbx_text.specs.Decimal.{digits_value}
use Rattle.pbx_text.proofs.Clocks.{too_large}
use Rattle.pbx_text.proofs.clock.number_up_to.Goals as goal

pub returns-then-number-max : goal.returns-then-number-max
returns-then-number-max c =
    too_large c.digits.number c.args.max (digits_value c.args.digits.now) c.digits.rest.now c.digits.invariant.value c.in-len1-up.len_at_least
    (search rules)
