use Rattle.std.proofs.Common.{refl}
use Rattle.pbx_desc_shapes.specs.DescriptorShape.{enum_value_fields}
use Rattle.pbx_desc_encoding.specs.Content.{enum_value_values}
use Rattle.pbx_desc_encoding.proofs.Built.{start, next, whole}
use Rattle.pbx_desc_encoding.proofs.Types.{enum_value_type, enum_value_options_type}
use Rattle.pbx_desc_encoding.proofs.enumeration.EnumValueDescriptorProtoHasContents.to_contents.Goals as goal

pub returns : goal.returns
returns c =
    let r = c.args.self.now in
    let before = start enum_value_fields (enum_value_values r) c.new-fields.result.list c.new-fields.ensures in
    let name = next before c.in_ok-text.ensures refl refl refl in
    let number = next name c.in_ok-number.ensures refl refl refl in
    let options = next number (c.in_ok-options.ensures 20 enum_value_options_type) refl refl refl in
    whole 9 enum_value_fields (enum_value_values r) c.options.new.self.list r.unknown c.with_unknown.result enum_value_type refl options c.with_unknown.ensures.content c.with_unknown.ensures.fit
