use Rattle.std.proofs.Common.{◌∙◌, Option, Bool, ap}
use Rattle.std.proofs.lemmas.Result.{IfOk-weaker}
use Rattle.pbx_desc_records.specs.declared.enumeration.EnumDescriptorProto.{EnumDescriptorProto}
use Rattle.pbx_desc_records.specs.declared.enumeration.EnumValueDescriptorProto.{EnumValueDescriptorProto}
use Rattle.pbx_desc_records.specs.declared.options.Options.{Options}
use Rattle.pbx_link_definitions.specs.Says.{is_uninterpreted}
use Rattle.pbx_link_definitions.specs.Definitions.{at, values_in}
use Rattle.pbx_link_definitions.specs.Places.{place_if}
use Rattle.pbx_link_rules_record.specs.OptionRules.{uninterpreted}
use Rattle.pbx_link_rules_record.proofs.Among.{among_right}
use Rattle.pbx_link_rules_record.proofs.OptionPlaces.{moved, own_none}
use Rattle.pbx_link_rules_record.proofs.uninterpreted.in_enum.Goals as goal

abbrev own : EnumDescriptorProto → Bool
own d = is_uninterpreted d.options

abbrev options : EnumValueDescriptorProto → Option Options
options v = v.options

pub returns : goal.returns
returns c =
    let e = c.args.part.now in
    IfOk-weaker c.in_list.result _ _
    (λ o h. among_right (place_if (own e.item) (at e 3)) (uninterpreted options 3 (values_in e)) o
    (own_none (own e.item) (at e 3) (c.if-is_uninterpreted.ensures ∙ ap own c.item-record.ensures))
    (moved options 3 2 e.scope c.place.result.now e.place c.as_slice.result.now e.item.value o c.place.ensures (c.as_slice.ensures ∙ ap (λ (d : EnumDescriptorProto). d.value) c.item-record.ensures) (h e.scope)))
    c.in_list.ensures
