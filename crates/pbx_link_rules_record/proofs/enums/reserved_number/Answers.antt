use Rattle.std.proofs.Common.{◌≡◌, ◌∙◌, ◌||◌, List, is_none, subst}
use Rattle.std.specs.Prelude.{position}
use Rattle.pbx_desc_records.specs.declared.enumeration.EnumValueDescriptorProto.{EnumValueDescriptorProto}
use Rattle.pbx_link_rules_record.specs.EnumRules.{is_reserved_value}
use Rattle.pbx_link_rules_record.specs.Sets.{lacks_or_has}
use Rattle.pbx_link_definitions.proofs.Indexes.{position_is_index, index_same}
use Rattle.pbx_link_rules_record.proofs.Indexes.{reserved_is}
use Rattle.pbx_link_rules_record.proofs.enums.reserved_number.Goals as goal

pub returns : goal.returns
returns c =
    let e = c.args.declared.now in
    let set = c.in_ok-reserved.reserved in
    index_same (λ i v. lacks_or_has set v.number) (λ i v. is_none v.number || is_reserved_value e v.number) e.value c.first_reserved.result
    (λ i v. reserved_is e c.as_slice.result.now set v.number (c.as_slice.ensures ∙ c.in_ok-ranges.ensures) c.in_ok-reserved.ensures)
    (position_is_index (λ v. lacks_or_has set v.number) e.value c.first_reserved.result
    (subst (λ (vs : List EnumValueDescriptorProto). c.first_reserved.result ≡ position (λ v. lacks_or_has set v.number) vs) c.as_slice-2.ensures c.first_reserved.ensures))
