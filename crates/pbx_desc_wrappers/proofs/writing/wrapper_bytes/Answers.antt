use Rattle.pbx_content_codec.specs.View.{content_of, val_of}
use Rattle.pbx_desc_wrappers.specs.Scalars.{wrapper_content}
use Rattle.pbx_desc_wrappers.proofs.Sound.{wrapper_sound, decodes_as, decodes_parts_as}
use Rattle.pbx_desc_wrappers.proofs.writing.wrapper_bytes.Goals as goal

pub returns-clause-decodes : goal.returns-clause-decodes
returns-clause-decodes c =
    let v = val_of c.args.held in
    decodes_as c.args.type_at c.in_ok-schema.schema (content_of c.in_ok-contents.contents) (wrapper_content v) c.contents_bytes.result c.in_ok-schema.ensures c.in_ok-contents.ensures
    (wrapper_sound c.args.type_at v c.requires) c.contents_bytes.ensures.decodes

pub returns-clause-parts : goal.returns-clause-parts
returns-clause-parts c =
    let v = val_of c.args.held in
    decodes_parts_as c.args.type_at c.in_ok-schema.schema (content_of c.in_ok-contents.contents) (wrapper_content v) c.contents_bytes.result c.in_ok-schema.ensures c.in_ok-contents.ensures
    (wrapper_sound c.args.type_at v c.requires) c.contents_bytes.ensures.parts
