use Rattle.std.proofs.Common.{arith}
use Rattle.std.proofs.lemmas.Str.Pattern.{strip_prefix_char}
use Rattle.pbx_link_shapes.proofs.Dotted.{dot_is}
use Rattle.pbx_link_shapes.proofs.records.behind_dot.Goals as goal

pub returns : goal.returns
returns c = dot_is c.args.name.now c.strip_prefix.result (strip_prefix_char 46 c.args.name.now c.strip_prefix.result c.strip_prefix.ensures.cases (omega arith))
