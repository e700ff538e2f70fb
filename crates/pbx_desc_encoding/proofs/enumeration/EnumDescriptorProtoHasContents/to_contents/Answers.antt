use Rattle.std.proofs.Common.{refl}
use Rattle.pbx_desc_shapes.specs.DescriptorShape.{enum_fields}
use Rattle.pbx_desc_encoding.specs.Content.{enum_values}
use Rattle.pbx_desc_encoding.proofs.Built.{start, next, whole}
use Rattle.pbx_desc_encoding.proofs.Types.{enum_type, enum_options_type}
use Rattle.pbx_desc_encoding.proofs.enumeration.EnumDescriptorProtoHasContents.to_contents.Goals as goal

pub returns : goal.returns
returns c =
    let r = c.args.self.now in
    let before = start enum_fields (enum_values r) c.new-fields.result.list c.new-fields.ensures in
    let name = next before c.in_ok-text.ensures refl refl refl in
    let value = next name c.in_ok-records.ensures refl refl refl in
    let options = next value (c.in_ok-options.ensures 19 enum_options_type) refl refl refl in
    let reserved_range = next options c.in_ok-records-2.ensures refl refl refl in
    let reserved_name = next reserved_range c.in_ok-texts.ensures refl refl refl in
    whole 7 enum_fields (enum_values r) c.texts.new.self.list r.unknown c.with_unknown.result enum_type refl reserved_name c.with_unknown.ensures.content c.with_unknown.ensures.fit
