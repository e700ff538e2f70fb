use Rattle.std.proofs.Common.{[], ◌∷◌, refl}
use Rattle.pbx_content_codec.specs.View.{content_of}
use Rattle.pbx_desc_shapes.specs.DescriptorShape.{source_code_info_fields}
use Rattle.pbx_desc_records.specs.declared.source.SourceCodeInfo.{SourceCodeInfo}
use Rattle.pbx_desc_encoding.specs.Content.{source_code_info_values}
use Rattle.pbx_desc_encoding.proofs.Types.{source_code_info_type}
use Rattle.pbx_desc.specs.Exact.{are_exact, is_exact_location}
use Rattle.pbx_desc.proofs.Walk.{start, next, done}
use Rattle.pbx_desc.proofs.source.SourceCodeInfoFromContents.from_contents.Goals as goal

pub returns : goal.returns
returns c =
    let r : SourceCodeInfo = record { location = c.in_ok-location.location; unknown = c.kept_records.result } in
    let before = start source_code_info_fields (source_code_info_values r) (are_exact is_exact_location r.location ∷ []) (content_of c.args.contents) in
    let at_location = next before c.in_ok-location.ensures refl refl refl refl in
    done 12 source_code_info_type refl at_location c.kept_records.ensures
