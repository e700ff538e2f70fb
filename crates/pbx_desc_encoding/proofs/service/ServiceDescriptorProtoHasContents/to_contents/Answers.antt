use Rattle.std.proofs.Common.{refl}
use Rattle.pbx_desc_shapes.specs.DescriptorShape.{service_fields}
use Rattle.pbx_desc_encoding.specs.Content.{service_values}
use Rattle.pbx_desc_encoding.proofs.Built.{start, next, whole}
use Rattle.pbx_desc_encoding.proofs.Types.{service_type, service_options_type}
use Rattle.pbx_desc_encoding.proofs.service.ServiceDescriptorProtoHasContents.to_contents.Goals as goal

pub returns : goal.returns
returns c =
    let r = c.args.self.now in
    let before = start service_fields (service_values r) c.new-fields.result.list c.new-fields.ensures in
    let name = next before c.in_ok-text.ensures refl refl refl in
    let method = next name c.in_ok-records.ensures refl refl refl in
    let options = next method (c.in_ok-options.ensures 21 service_options_type) refl refl refl in
    whole 10 service_fields (service_values r) c.options.new.self.list r.unknown c.with_unknown.result service_type refl options c.with_unknown.ensures.content c.with_unknown.ensures.fit
