use Rattle.std.proofs.Common.{true, [], ◌∷◌, refl}
use Rattle.pbx_content_codec.specs.View.{content_of}
use Rattle.pbx_desc_shapes.specs.DescriptorShape.{enum_reserved_range_fields}
use Rattle.pbx_desc_records.specs.declared.enumeration.EnumReservedRange.{EnumReservedRange}
use Rattle.pbx_desc_encoding.specs.Content.{enum_reserved_range_values}
use Rattle.pbx_desc_encoding.proofs.Types.{enum_reserved_range_type}
use Rattle.pbx_desc.proofs.Walk.{start, next, done}
use Rattle.pbx_desc.proofs.enumeration.EnumReservedRangeFromContents.from_contents.Goals as goal

pub returns : goal.returns
returns c =
    let r : EnumReservedRange = record { start = c.take_number-start.result; end = c.take_number-end.result; unknown = c.kept_records.result } in
    let before = start enum_reserved_range_fields (enum_reserved_range_values r) (true ∷ true ∷ []) (content_of c.args.contents) in
    let at_start = next before c.take_number-start.ensures refl refl refl refl in
    let at_end = next at_start c.take_number-end.ensures refl refl refl refl in
    done 8 enum_reserved_range_type refl at_end c.kept_records.ensures
