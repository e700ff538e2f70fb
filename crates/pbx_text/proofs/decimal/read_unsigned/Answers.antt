use Rattle.std.proofs.Common.{rules}
use Rattle.pbx_text.proofs.Decimals.{unsigned_ok, unsigned_far, unsigned_past}
use Rattle.pbx_text.proofs.decimal.read_unsigned.Goals as goal

pub returns-in-Ok : goal.returns-in-Ok
returns-in-Ok c = search (rules, unsigned_ok c.args.text.now c.args.max c.in-Ok.number)

pub returns-in_default : goal.returns-in_default
returns-in_default c = search (rules, unsigned_far c.args.text.now c.args.max)

pub returns-in_default-2 : goal.returns-in_default-2
returns-in_default-2 c = search (rules, unsigned_past c.args.text.now c.args.max c.ranges.max.fits)
