use Rattle.std.proofs.Common.{true, [], ◌∷◌, refl}
use Rattle.pbx_content_codec.specs.View.{content_of}
use Rattle.pbx_desc_shapes.specs.DescriptorShape.{reserved_range_fields}
use Rattle.pbx_desc_records.specs.declared.message.ReservedRange.{ReservedRange}
use Rattle.pbx_desc_encoding.specs.Content.{reserved_range_values}
use Rattle.pbx_desc_encoding.proofs.Types.{reserved_range_type}
use Rattle.pbx_desc.proofs.Walk.{start, next, done}
use Rattle.pbx_desc.proofs.message.ReservedRangeFromContents.from_contents.Goals as goal

pub returns : goal.returns
returns c =
    let r : ReservedRange = record { start = c.take_number-start.result; end = c.take_number-end.result; unknown = c.kept_records.result } in
    let before = start reserved_range_fields (reserved_range_values r) (true ∷ true ∷ []) (content_of c.args.contents) in
    let at_start = next before c.take_number-start.ensures refl refl refl refl in
    let at_end = next at_start c.take_number-end.ensures refl refl refl refl in
    done 5 reserved_range_type refl at_end c.kept_records.ensures
