use Rattle.std.proofs.Common.{Option, refl}
use Rattle.std.proofs.lemmas.Result.{IfOk-weaker}
use Rattle.pbx_desc_records.specs.declared.options.Options.{Options}
use Rattle.pbx_desc_records.specs.declared.service.MethodDescriptorProto.{MethodDescriptorProto}
use Rattle.pbx_desc_records.specs.declared.service.ServiceDescriptorProto.{ServiceDescriptorProto}
use Rattle.pbx_link_definitions.specs.Says.{is_uninterpreted}
use Rattle.pbx_link_definitions.specs.Definitions.{Part, at, methods_in, service_name}
use Rattle.pbx_link_definitions.specs.Places.{place_if}
use Rattle.pbx_link_rules_record.specs.OptionRules.{uninterpreted}
use Rattle.pbx_link_rules_record.proofs.Among.{among_right}
use Rattle.pbx_link_rules_record.proofs.OptionPlaces.{moved, own_none}
use Rattle.pbx_link_rules_record.proofs.uninterpreted.in_service.Goals as goal

abbrev options : MethodDescriptorProto → Option Options
options m = m.options

pub returns : goal.returns
returns c =
    let s = c.args.service.now in
    IfOk-weaker c.in_list.result _ _
    (λ o h. λ scope index.
    let p : Part ServiceDescriptorProto = record { scope = scope; place = c.args.place.now; index = index; item = s } in
    among_right (place_if (is_uninterpreted s.options) (at p 3)) (uninterpreted options 4 (methods_in p)) o
    (own_none (is_uninterpreted s.options) (at p 3) c.if-is_uninterpreted.ensures)
    (moved options 4 2 (service_name p) c.args.place.now c.args.place.now c.as_slice.result.now s.method o refl c.as_slice.ensures (h (service_name p))))
    c.in_list.ensures
