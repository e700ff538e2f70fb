use Rattle.std.proofs.Common.{rules}
use Rattle.pbx_text.proofs.Decimals.{signed_ok, signed_low, signed_high, signed_past}
use Rattle.pbx_text.proofs.decimal.read_signed.Goals as goal

pub returns-in-Ok : goal.returns-in-Ok
returns-in-Ok c = search (rules, signed_ok c.args.text.now c.args.min c.args.max c.in-Ok.number)

pub returns-in_default : goal.returns-in_default
returns-in_default c = search (rules, signed_high c.args.text.now c.args.min c.args.max)

pub returns-in_default-2 : goal.returns-in_default-2
returns-in_default-2 c = search (rules, signed_low c.args.text.now c.args.min c.args.max)

pub returns-in_default-3 : goal.returns-in_default-3
returns-in_default-3 c = search (rules, signed_past c.args.text.now c.args.min c.args.max c.ranges.min c.ranges.max)
