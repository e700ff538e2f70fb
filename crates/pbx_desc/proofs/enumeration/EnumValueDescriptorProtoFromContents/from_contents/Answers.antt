use Rattle.std.proofs.Common.{true, [], ◌∷◌, refl}
use Rattle.pbx_content_codec.specs.View.{content_of}
use Rattle.pbx_desc_shapes.specs.DescriptorShape.{enum_value_fields}
use Rattle.pbx_desc_records.specs.declared.enumeration.EnumValueDescriptorProto.{EnumValueDescriptorProto}
use Rattle.pbx_desc_encoding.specs.Content.{enum_value_values}
use Rattle.pbx_desc_encoding.proofs.Types.{enum_value_type, enum_value_options_type}
use Rattle.pbx_desc.specs.Exact.{is_exact_if, is_exact_options}
use Rattle.pbx_desc.proofs.Walk.{start, next, done}
use Rattle.pbx_desc.proofs.enumeration.EnumValueDescriptorProtoFromContents.from_contents.Goals as goal

pub returns : goal.returns
returns c =
    let r : EnumValueDescriptorProto = record { name = c.take_text-name.result; number = c.take_number-number.result; options = c.take_options-options.result; unknown = c.kept_records.result } in
    let before = start enum_value_fields (enum_value_values r) (true ∷ true ∷ is_exact_if is_exact_options r.options ∷ []) (content_of c.args.contents) in
    let at_name = next before c.take_text-name.ensures refl refl refl refl in
    let at_number = next at_name c.take_number-number.ensures refl refl refl refl in
    let at_options = next at_number (c.take_options-options.ensures 20 enum_value_options_type) refl refl refl refl in
    done 9 enum_value_type refl at_options c.kept_records.ensures
