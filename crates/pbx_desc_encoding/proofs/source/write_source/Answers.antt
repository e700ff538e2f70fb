use Rattle.std.proofs.Common.{refl}
use Rattle.pbx_desc_shapes.specs.DescriptorShape.{source_code_info_fields}
use Rattle.pbx_desc_encoding.specs.Content.{source_code_info_values}
use Rattle.pbx_desc_encoding.proofs.Behind.{begin, anew, written, closed}
use Rattle.pbx_desc_encoding.proofs.Told.{on_both}
use Rattle.pbx_desc_encoding.proofs.Types.{source_code_info_type}
use Rattle.pbx_desc_encoding.proofs.source.write_source.Goals as goal

pub returns : goal.returns
returns c =
    let r = c.args.source.now in
    let first = c.args.out.now.items in
    let start = begin 12 source_code_info_fields (source_code_info_values r) r.unknown first source_code_info_type refl in
    let location = anew c.new-none.result.list (written start c.in_ok-put_locations.ensures refl refl refl refl refl refl) c.new-none.ensures in
    on_both c.put_fields.result (closed r.unknown first c.new-none.result.list c.args.schema.now c.put_fields.new.out.items location source_code_info_type refl c.requires) c.put_fields.ensures.text c.put_fields.ensures.fit
