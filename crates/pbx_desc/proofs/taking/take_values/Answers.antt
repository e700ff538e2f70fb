use Rattle.std.proofs.Common.{map}
use Rattle.pbx_content_codec.specs.View.{content_of, val_of}
use Rattle.pbx_desc.proofs.Lists.{took_values}
use Rattle.pbx_desc.proofs.taking.take_values.Goals as goal

pub returns-in-Some : goal.returns-in-Some
returns-in-Some c k =
    took_values k c.args.number c.in-Some.held (map val_of c.values_of.result) (content_of c.args.contents.now) (content_of c.take.new.self) c.in-Some.ensures.value (c.values_of.ensures k) c.in-Some.ensures.rest
