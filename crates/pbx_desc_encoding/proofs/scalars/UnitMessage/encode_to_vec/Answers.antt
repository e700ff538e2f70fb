use Rattle.pbx_content.specs.Content.{empty}
use Rattle.pbx_content_codec.specs.View.{content_of}
use Rattle.pbx_desc_wrappers.proofs.Wrappers.{empty_type}
use Rattle.pbx_desc_wrappers.proofs.Sound.{nothing_sound, decodes_as, decodes_parts_as}
use Rattle.pbx_desc_encoding.proofs.scalars.UnitMessage.encode_to_vec.Goals as goal

pub returns-clause-decodes : goal.returns-clause-decodes
returns-clause-decodes c =
    decodes_as 2 c.in_ok-schema.schema (content_of c.new.result) empty c.contents_bytes.result c.in_ok-schema.ensures c.new.ensures (nothing_sound 2 empty_type) c.contents_bytes.ensures.decodes

pub returns-clause-parts : goal.returns-clause-parts
returns-clause-parts c =
    decodes_parts_as 2 c.in_ok-schema.schema (content_of c.new.result) empty c.contents_bytes.result c.in_ok-schema.ensures c.new.ensures (nothing_sound 2 empty_type) c.contents_bytes.ensures.parts
