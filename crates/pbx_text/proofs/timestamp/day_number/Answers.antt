use Rattle.std.proofs.Common.{◌≡◌, pos, of_z, to_z, w64, rules}
use Rattle.jiff_core.specs.Calendar.{IsDate}
use Rattle.jiff_core.specs.Date.{epoch_day, IsYmd}
use Rattle.pbx_text.proofs.Days.{day_is}
use Rattle.pbx_text.proofs.timestamp.day_number.Goals as goal

pub returns-in-Ok-clause-value : goal.returns-in-Ok-clause-value
returns-in-Ok-clause-value c =
    let same : to_z w64 (of_z w64 c.from.result) ≡ c.from.result = search rules in
    let is : c.from.result ≡ epoch_day c.in-Ok.date = search rules in
    let date : IsDate (pos c.args.year) (pos c.args.month) (pos c.args.day) = search rules in
    let parts : IsYmd (pos c.args.year) (pos c.args.month) (pos c.args.day) c.in-Ok.date = search rules in
    rw (same, is) (day_is c.in-Ok.date c.args.year c.args.month c.args.day date parts)
