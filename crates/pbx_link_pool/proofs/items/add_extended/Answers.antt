use Rattle.std.proofs.Common.{None, arith}
use Rattle.std.proofs.lemmas.Str.Pattern.{strip_prefix_char}
use Rattle.pbx_link_pool.proofs.Numbered.{none_added}
use Rattle.pbx_link_pool.proofs.items.add_extended.Goals as goal

pub returns-in-None : goal.returns-in-None
returns-in-None c =
    none_added c.args.items.now c.args.extension.now.extendee c.args.extension.now.number c.as_str.result.now c.in-Some-number.number (cc) (cc)
    (strip_prefix_char 46 c.as_str.result.now None c.in-None.ensures.cases (omega arith))
