use Rattle.std.proofs.Common.{Some, None, arith}
use Rattle.std.proofs.lemmas.Str.Pattern.{strip_prefix_char, strip_suffix_char}
use Rattle.pbx_link.proofs.Extended.{closed_is, unopened}
use Rattle.pbx_link.proofs.message_extensions.in_brackets.Goals as goal

pub returns-in-Some : goal.returns-in-Some
returns-in-Some c =
    closed_is c.args.name.now c.in-Some.rest.now c.strip_suffix.result
    (strip_prefix_char 91 c.args.name.now (Some c.in-Some.rest) c.in-Some.ensures.cases (omega arith))
    (strip_suffix_char 93 c.in-Some.rest.now c.strip_suffix.result c.strip_suffix.ensures.cases (omega arith))

pub returns-in-None : goal.returns-in-None
returns-in-None c = λ q e. unopened c.args.name.now (strip_prefix_char 91 c.args.name.now None c.in-None.ensures.cases (omega arith)) q e
