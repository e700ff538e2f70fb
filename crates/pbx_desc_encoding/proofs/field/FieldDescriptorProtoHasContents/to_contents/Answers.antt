use Rattle.std.proofs.Common.{refl}
use Rattle.pbx_desc_shapes.specs.DescriptorShape.{field_fields}
use Rattle.pbx_desc_encoding.specs.Content.{field_values}
use Rattle.pbx_desc_encoding.proofs.Built.{start, next, whole}
use Rattle.pbx_desc_encoding.proofs.Types.{field_type, field_options_type}
use Rattle.pbx_desc_encoding.proofs.field.FieldDescriptorProtoHasContents.to_contents.Goals as goal

pub returns : goal.returns
returns c =
    let r = c.args.self.now in
    let before = start field_fields (field_values r) c.new-fields.result.list c.new-fields.ensures in
    let name = next before c.in_ok-text.ensures refl refl refl in
    let extendee = next name c.in_ok-text-2.ensures refl refl refl in
    let number = next extendee c.in_ok-number.ensures refl refl refl in
    let label = next number c.in_ok-number-2.ensures refl refl refl in
    let kind = next label c.in_ok-number-3.ensures refl refl refl in
    let type_name = next kind c.in_ok-text-3.ensures refl refl refl in
    let default_value = next type_name c.in_ok-text-4.ensures refl refl refl in
    let options = next default_value (c.in_ok-options.ensures 16 field_options_type) refl refl refl in
    let oneof_index = next options c.in_ok-number-4.ensures refl refl refl in
    let json_name = next oneof_index c.in_ok-text-5.ensures refl refl refl in
    let proto3_optional = next json_name c.in_ok-truth.ensures refl refl refl in
    whole 3 field_fields (field_values r) c.truth.new.self.list r.unknown c.with_unknown.result field_type refl proto3_optional c.with_unknown.ensures.content c.with_unknown.ensures.fit
