use Rattle.std.proofs.Common.{min, ap, arith}
use Rattle.pbx_content.specs.Sound.{depth}
use Rattle.pbx_content_codec.proofs.TreeFields.{content_of_lem}
use Rattle.pbx_content_codec.proofs.levels.+levels.Goals as goal

pub depth-returns : goal.depth-returns
depth-returns t c =
    let whole = ap (λ content. min (depth content) 4294967295) (content_of_lem c.args.contents.now) in
    omega (arith, c.max.ensures, c.fields_depth.ensures, c.recs_depth.ensures, whole)
