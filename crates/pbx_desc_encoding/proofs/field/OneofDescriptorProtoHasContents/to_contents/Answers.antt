use Rattle.std.proofs.Common.{refl}
use Rattle.pbx_desc_shapes.specs.DescriptorShape.{oneof_fields}
use Rattle.pbx_desc_encoding.specs.Content.{oneof_values}
use Rattle.pbx_desc_encoding.proofs.Built.{start, next, whole}
use Rattle.pbx_desc_encoding.proofs.Types.{oneof_type, oneof_options_type}
use Rattle.pbx_desc_encoding.proofs.field.OneofDescriptorProtoHasContents.to_contents.Goals as goal

pub returns : goal.returns
returns c =
    let r = c.args.self.now in
    let before = start oneof_fields (oneof_values r) c.new-fields.result.list c.new-fields.ensures in
    let name = next before c.in_ok-text.ensures refl refl refl in
    let options = next name (c.in_ok-options.ensures 18 oneof_options_type) refl refl refl in
    whole 6 oneof_fields (oneof_values r) c.options.new.self.list r.unknown c.with_unknown.result oneof_type refl options c.with_unknown.ensures.content c.with_unknown.ensures.fit
