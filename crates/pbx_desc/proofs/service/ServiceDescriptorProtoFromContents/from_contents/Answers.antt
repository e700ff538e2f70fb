use Rattle.std.proofs.Common.{true, [], ◌∷◌, refl}
use Rattle.pbx_content_codec.specs.View.{content_of}
use Rattle.pbx_desc_shapes.specs.DescriptorShape.{service_fields}
use Rattle.pbx_desc_records.specs.declared.service.ServiceDescriptorProto.{ServiceDescriptorProto}
use Rattle.pbx_desc_encoding.specs.Content.{service_values}
use Rattle.pbx_desc_encoding.proofs.Types.{service_type, service_options_type}
use Rattle.pbx_desc.specs.Exact.{are_exact, is_exact_if, is_exact_method, is_exact_options}
use Rattle.pbx_desc.proofs.Walk.{start, next, done}
use Rattle.pbx_desc.proofs.service.ServiceDescriptorProtoFromContents.from_contents.Goals as goal

pub returns : goal.returns
returns c =
    let r : ServiceDescriptorProto = record { name = c.take_text-name.result; method = c.in_ok-method.method; options = c.take_options-options.result; unknown = c.kept_records.result } in
    let before = start service_fields (service_values r) (true ∷ are_exact is_exact_method r.method ∷ is_exact_if is_exact_options r.options ∷ []) (content_of c.args.contents) in
    let at_name = next before c.take_text-name.ensures refl refl refl refl in
    let at_method = next at_name c.in_ok-method.ensures refl refl refl refl in
    let at_options = next at_method (c.take_options-options.ensures 21 service_options_type) refl refl refl refl in
    done 10 service_type refl at_options c.kept_records.ensures
