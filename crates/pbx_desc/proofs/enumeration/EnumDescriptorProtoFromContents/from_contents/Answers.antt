use Rattle.std.proofs.Common.{true, [], ◌∷◌, refl}
use Rattle.pbx_content_codec.specs.View.{content_of}
use Rattle.pbx_desc_shapes.specs.DescriptorShape.{enum_fields}
use Rattle.pbx_desc_records.specs.declared.enumeration.EnumDescriptorProto.{EnumDescriptorProto}
use Rattle.pbx_desc_encoding.specs.Content.{enum_values}
use Rattle.pbx_desc_encoding.proofs.Types.{enum_type, enum_options_type}
use Rattle.pbx_desc.specs.Exact.{are_exact, is_exact_enum_reserved_range, is_exact_enum_value, is_exact_if, is_exact_options}
use Rattle.pbx_desc.proofs.Walk.{start, next, done}
use Rattle.pbx_desc.proofs.enumeration.EnumDescriptorProtoFromContents.from_contents.Goals as goal

pub returns : goal.returns
returns c =
    let r : EnumDescriptorProto = record { name = c.take_text-name.result; value = c.in_ok-value.value; options = c.take_options-options.result; reserved_range = c.in_ok-reserved_range.reserved_range; reserved_name = c.in_ok-reserved_name.reserved_name; unknown = c.kept_records.result } in
    let before = start enum_fields (enum_values r) (true ∷ are_exact is_exact_enum_value r.value ∷ is_exact_if is_exact_options r.options ∷ are_exact is_exact_enum_reserved_range r.reserved_range ∷ true ∷ []) (content_of c.args.contents) in
    let at_name = next before c.take_text-name.ensures refl refl refl refl in
    let at_value = next at_name c.in_ok-value.ensures refl refl refl refl in
    let at_options = next at_value (c.take_options-options.ensures 19 enum_options_type) refl refl refl refl in
    let at_reserved_range = next at_options c.in_ok-reserved_range.ensures refl refl refl refl in
    let at_reserved_name = next at_reserved_range c.in_ok-reserved_name.ensures refl refl refl refl in
    done 7 enum_type refl at_reserved_name c.kept_records.ensures
