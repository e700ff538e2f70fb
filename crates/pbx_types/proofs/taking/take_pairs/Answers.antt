use Rattle.std.proofs.Common.{map}
use Rattle.pbx_content_codec.specs.View.{content_of, pair_of}
use Rattle.pbx_types.proofs.Lists.{took_pairs}
use Rattle.pbx_types.proofs.taking.take_pairs.Goals as goal

pub returns-in-Some : goal.returns-in-Some
returns-in-Some c key k =
    took_pairs key k c.args.number c.in-Some.held (map pair_of c.pairs_in.result) (content_of c.args.contents.now) (content_of c.take.new.self) c.in-Some.ensures.value (c.pairs_in.ensures key k) c.in-Some.ensures.rest
