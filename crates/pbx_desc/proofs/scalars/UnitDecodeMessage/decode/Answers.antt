use Rattle.pbx_content_codec.specs.View.{content_of}
use Rattle.pbx_content.specs.Meaning.{meaning_of}
use Rattle.pbx_desc_shapes.specs.TypesShape.{types_shape}
use Rattle.pbx_desc_wrappers.proofs.Wrappers.{empty_type}
use Rattle.pbx_desc_wrappers.proofs.Sound.{nothing_read}
use Rattle.pbx_desc.proofs.scalars.UnitDecodeMessage.decode.Goals as goal

pub returns-clause-found : goal.returns-clause-found
returns-clause-found c =
    let contents = content_of c.in_ok-type_contents.field-0 in
    nothing_read 2 contents (meaning_of types_shape 2 c.args.bytes.now) empty_type c.in_ok-type_contents.ensures.sound c.in_ok-type_contents.ensures.found
