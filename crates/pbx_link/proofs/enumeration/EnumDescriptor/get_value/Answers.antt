use Rattle.std.proofs.Common.{◌≡◌, ◌∙◌, ℤ, Some, ap, to_z, of_z, w32, rules}
use Rattle.std.specs.Prelude.{position}
use Rattle.pbx_desc_records.specs.declared.enumeration.EnumValueDescriptorProto.{EnumValueDescriptorProto}
use Rattle.pbx_link_definitions.specs.Says.{are_equal}
use Rattle.pbx_link.specs.Tables.{no_value}
use Rattle.pbx_link.proofs.Parts.{found_within, found_part, missed_part}
use Rattle.pbx_link.proofs.enumeration.EnumDescriptor.get_value.Goals as goal

pub returns-in_err-index : goal.returns-in_err-index
returns-in_err-index c =
    let same : to_z w32 (of_z w32 c.args.number) ≡ c.args.number = search rules in
    let is = c.number_position.ensures ∙ ap (λ (z : ℤ). position (λ (v : EnumValueDescriptorProto). are_equal v.number (Some z))
    c.own_values.result.now) same in
    c.from_residual.ensures
    ∙ missed_part (λ (v : EnumValueDescriptorProto). are_equal v.number (Some c.args.number)) c.args.self.now.part.scope c.args.self.now.part.place 2
    c.args.self.now.pool c.args.self.now.file
    c.args.self.now.part.item.value c.own_values.result.now c.number_position.result c.own_values.ensures is c.in_err-index.was

pub value-requires : goal.value-requires
value-requires c =
    let same : to_z w32 (of_z w32 c.args.number) ≡ c.args.number = search rules in
    let is = c.number_position.ensures ∙ ap (λ (z : ℤ). position (λ (v : EnumValueDescriptorProto). are_equal v.number (Some z))
    c.own_values.result.now) same in
    found_within (λ (v : EnumValueDescriptorProto). are_equal v.number (Some c.args.number)) c.args.self.now.part.scope c.args.self.now.part.place 2
    c.args.self.now.pool c.args.self.now.file
    c.args.self.now.part.item.value c.own_values.result.now c.number_position.result c.in_ok-index.index c.own_values.ensures is c.in_ok-index.was

pub returns : goal.returns
returns c =
    let same : to_z w32 (of_z w32 c.args.number) ≡ c.args.number = search rules in
    let is = c.number_position.ensures ∙ ap (λ (z : ℤ). position (λ (v : EnumValueDescriptorProto). are_equal v.number (Some z))
    c.own_values.result.now) same in
    ap Some c.value.ensures
    ∙ found_part (λ (v : EnumValueDescriptorProto). are_equal v.number (Some c.args.number)) c.args.self.now.part.scope c.args.self.now.part.place 2
    c.args.self.now.pool c.args.self.now.file
    no_value c.args.self.now.part.item.value c.own_values.result.now c.number_position.result c.in_ok-index.index c.own_values.ensures is c.in_ok-index.was
