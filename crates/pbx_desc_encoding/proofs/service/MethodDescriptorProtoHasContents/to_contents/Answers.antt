use Rattle.std.proofs.Common.{refl}
use Rattle.pbx_desc_shapes.specs.DescriptorShape.{method_fields}
use Rattle.pbx_desc_encoding.specs.Content.{method_values}
use Rattle.pbx_desc_encoding.proofs.Built.{start, next, whole}
use Rattle.pbx_desc_encoding.proofs.Types.{method_type, method_options_type}
use Rattle.pbx_desc_encoding.proofs.service.MethodDescriptorProtoHasContents.to_contents.Goals as goal

pub returns : goal.returns
returns c =
    let r = c.args.self.now in
    let before = start method_fields (method_values r) c.new-fields.result.list c.new-fields.ensures in
    let name = next before c.in_ok-text.ensures refl refl refl in
    let input_type = next name c.in_ok-text-2.ensures refl refl refl in
    let output_type = next input_type c.in_ok-text-3.ensures refl refl refl in
    let options = next output_type (c.in_ok-options.ensures 22 method_options_type) refl refl refl in
    let client_streaming = next options c.in_ok-truth.ensures refl refl refl in
    let server_streaming = next client_streaming c.in_ok-truth-2.ensures refl refl refl in
    whole 11 method_fields (method_values r) c.truth-2.new.self.list r.unknown c.with_unknown.result method_type refl server_streaming c.with_unknown.ensures.content c.with_unknown.ensures.fit
