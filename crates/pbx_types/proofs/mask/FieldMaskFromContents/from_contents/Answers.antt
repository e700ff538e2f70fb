use Rattle.std.proofs.Common.{refl, ◌∙◌}
use Rattle.pbx_content.specs.declared.shape.Kind.TheVariants as kind
use Rattle.pbx_content.specs.Content.{text}
use Rattle.pbx_content_codec.specs.View.{content_of}
use Rattle.pbx_desc_shapes.specs.TypesShape.{mask_fields}
use Rattle.pbx_types.proofs.Sound.{written}
use Rattle.pbx_types.proofs.Types.{mask_type}
use Rattle.pbx_types.proofs.Walk.{list_whole, kept_left}
use Rattle.pbx_types.proofs.mask.FieldMaskFromContents.from_contents.Goals as goal

pub returns : goal.returns
returns c sound =
    let taken = c.take_values.ensures kind.String in (
      list_whole 3 _ text c.in_ok-paths.paths mask_type refl refl refl refl taken c.in_ok-paths.ensures c.kept_records.ensures sound,
      written 3 mask_fields c.kept_records.result (content_of c.args.contents) mask_type (c.kept_records.ensures ∙ kept_left 1 (content_of c.args.contents) (content_of c.take_values.new.contents) taken.rest) sound,
    )
