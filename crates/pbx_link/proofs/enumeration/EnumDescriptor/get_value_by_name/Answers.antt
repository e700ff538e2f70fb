use Rattle.std.proofs.Common.{◌∙◌, Some, ap}
use Rattle.pbx_desc_records.specs.declared.enumeration.EnumValueDescriptorProto.{EnumValueDescriptorProto}
use Rattle.pbx_link_definitions.specs.Names.{is_named}
use Rattle.pbx_link.specs.Tables.{no_value}
use Rattle.pbx_link.proofs.Parts.{found_within, found_part, missed_part}
use Rattle.pbx_link.proofs.enumeration.EnumDescriptor.get_value_by_name.Goals as goal

pub returns-in_err-index : goal.returns-in_err-index
returns-in_err-index c =
    c.from_residual.ensures
    ∙ missed_part (λ (v : EnumValueDescriptorProto). is_named v.name c.args.name.now) c.args.self.now.part.scope c.args.self.now.part.place 2
    c.args.self.now.pool c.args.self.now.file
    c.args.self.now.part.item.value c.own_values.result.now c.name_position.result c.own_values.ensures c.name_position.ensures c.in_err-index.was

pub value-requires : goal.value-requires
value-requires c =
    found_within (λ (v : EnumValueDescriptorProto). is_named v.name c.args.name.now) c.args.self.now.part.scope c.args.self.now.part.place 2
    c.args.self.now.pool c.args.self.now.file
    c.args.self.now.part.item.value c.own_values.result.now c.name_position.result c.in_ok-index.index c.own_values.ensures c.name_position.ensures
    c.in_ok-index.was

pub returns : goal.returns
returns c =
    ap Some c.value.ensures
    ∙ found_part (λ (v : EnumValueDescriptorProto). is_named v.name c.args.name.now) c.args.self.now.part.scope c.args.self.now.part.place 2
    c.args.self.now.pool c.args.self.now.file
    no_value c.args.self.now.part.item.value c.own_values.result.now c.name_position.result c.in_ok-index.index c.own_values.ensures
    c.name_position.ensures c.in_ok-index.was
