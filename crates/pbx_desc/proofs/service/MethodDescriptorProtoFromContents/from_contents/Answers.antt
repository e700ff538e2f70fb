use Rattle.std.proofs.Common.{true, [], ◌∷◌, refl}
use Rattle.pbx_content_codec.specs.View.{content_of}
use Rattle.pbx_desc_shapes.specs.DescriptorShape.{method_fields}
use Rattle.pbx_desc_records.specs.declared.service.MethodDescriptorProto.{MethodDescriptorProto}
use Rattle.pbx_desc_encoding.specs.Content.{method_values}
use Rattle.pbx_desc_encoding.proofs.Types.{method_type, method_options_type}
use Rattle.pbx_desc.specs.Exact.{is_exact_if, is_exact_options}
use Rattle.pbx_desc.proofs.Walk.{start, next, done}
use Rattle.pbx_desc.proofs.service.MethodDescriptorProtoFromContents.from_contents.Goals as goal

pub returns : goal.returns
returns c =
    let r : MethodDescriptorProto = record { name = c.take_text-name.result; input_type = c.take_text-input_type.result; output_type = c.take_text-output_type.result; options = c.take_options-options.result; client_streaming = c.take_truth-client_streaming.result; server_streaming = c.take_truth-server_streaming.result; unknown = c.kept_records.result } in
    let before = start method_fields (method_values r) (true ∷ true ∷ true ∷ is_exact_if is_exact_options r.options ∷ true ∷ true ∷ []) (content_of c.args.contents) in
    let at_name = next before c.take_text-name.ensures refl refl refl refl in
    let at_input_type = next at_name c.take_text-input_type.ensures refl refl refl refl in
    let at_output_type = next at_input_type c.take_text-output_type.ensures refl refl refl refl in
    let at_options = next at_output_type (c.take_options-options.ensures 22 method_options_type) refl refl refl refl in
    let at_client_streaming = next at_options c.take_truth-client_streaming.ensures refl refl refl refl in
    let at_server_streaming = next at_client_streaming c.take_truth-server_streaming.ensures refl refl refl refl in
    done 11 method_type refl at_server_streaming c.kept_records.ensures
