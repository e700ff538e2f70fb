use Rattle.std.proofs.Common.{true, [], ◌∷◌, refl}
use Rattle.pbx_content_codec.specs.View.{content_of}
use Rattle.pbx_desc_shapes.specs.DescriptorShape.{field_fields}
use Rattle.pbx_desc_records.specs.declared.field.FieldDescriptorProto.{FieldDescriptorProto}
use Rattle.pbx_desc_encoding.specs.Content.{field_values}
use Rattle.pbx_desc_encoding.proofs.Types.{field_type, field_options_type}
use Rattle.pbx_desc.specs.Exact.{is_exact_if, is_exact_options}
use Rattle.pbx_desc.proofs.Walk.{start, next, done}
use Rattle.pbx_desc.proofs.field.FieldDescriptorProtoFromContents.from_contents.Goals as goal

pub returns : goal.returns
returns c =
    let r : FieldDescriptorProto = record { name = c.take_text-name.result; extendee = c.take_text-extendee.result; number = c.take_number-number.result; label = c.take_number-label.result; kind = c.take_number-kind.result; type_name = c.take_text-type_name.result; default_value = c.take_text-default_value.result; options = c.take_options-options.result; oneof_index = c.take_number-oneof_index.result; json_name = c.take_text-json_name.result; proto3_optional = c.take_truth-proto3_optional.result; unknown = c.kept_records.result } in
    let before = start field_fields (field_values r) (true ∷ true ∷ true ∷ true ∷ true ∷ true ∷ true ∷ is_exact_if is_exact_options r.options ∷ true ∷ true ∷ true ∷ []) (content_of c.args.contents) in
    let at_name = next before c.take_text-name.ensures refl refl refl refl in
    let at_extendee = next at_name c.take_text-extendee.ensures refl refl refl refl in
    let at_number = next at_extendee c.take_number-number.ensures refl refl refl refl in
    let at_label = next at_number c.take_number-label.ensures refl refl refl refl in
    let at_kind = next at_label c.take_number-kind.ensures refl refl refl refl in
    let at_type_name = next at_kind c.take_text-type_name.ensures refl refl refl refl in
    let at_default_value = next at_type_name c.take_text-default_value.ensures refl refl refl refl in
    let at_options = next at_default_value (c.take_options-options.ensures 16 field_options_type) refl refl refl refl in
    let at_oneof_index = next at_options c.take_number-oneof_index.ensures refl refl refl refl in
    let at_json_name = next at_oneof_index c.take_text-json_name.ensures refl refl refl refl in
    let at_proto3_optional = next at_json_name c.take_truth-proto3_optional.ensures refl refl refl refl in
    done 3 field_type refl at_proto3_optional c.kept_records.ensures
