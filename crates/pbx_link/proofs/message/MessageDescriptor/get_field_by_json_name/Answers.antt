use Rattle.std.proofs.Common.{◌∙◌, Some, ap}
use Rattle.pbx_desc_records.specs.declared.field.FieldDescriptorProto.{FieldDescriptorProto}
use Rattle.pbx_link_definitions.specs.Definitions.{message_name}
use Rattle.pbx_link_definitions.specs.Says.{own_fields}
use Rattle.pbx_link_definitions.specs.Names.{is_named}
use Rattle.pbx_link.specs.Tables.{no_field}
use Rattle.pbx_link.proofs.Parts.{found_within, found_part, missed_part}
use Rattle.pbx_link.proofs.message.MessageDescriptor.get_field_by_json_name.Goals as goal

pub returns-in_err-index : goal.returns-in_err-index
returns-in_err-index c =
    c.from_residual.ensures
    ∙ missed_part (λ (x : FieldDescriptorProto). is_named x.json_name c.args.name.now) (message_name c.args.self.now.part)
    c.args.self.now.part.place 2 c.args.self.now.pool c.args.self.now.file
    (own_fields c.args.self.now.part.item) c.own_fields.result.now c.json_name_position.result c.own_fields.ensures c.json_name_position.ensures
    c.in_err-index.was

pub field-requires : goal.field-requires
field-requires c =
    found_within (λ (x : FieldDescriptorProto). is_named x.json_name c.args.name.now) (message_name c.args.self.now.part) c.args.self.now.part.place 2
    c.args.self.now.pool c.args.self.now.file
    (own_fields c.args.self.now.part.item) c.own_fields.result.now c.json_name_position.result c.in_ok-index.index c.own_fields.ensures
    c.json_name_position.ensures c.in_ok-index.was

pub returns : goal.returns
returns c =
    ap Some c.field.ensures
    ∙ found_part (λ (x : FieldDescriptorProto). is_named x.json_name c.args.name.now) (message_name c.args.self.now.part) c.args.self.now.part.place 2
    c.args.self.now.pool c.args.self.now.file
    no_field (own_fields c.args.self.now.part.item) c.own_fields.result.now c.json_name_position.result c.in_ok-index.index c.own_fields.ensures
    c.json_name_position.ensures c.in_ok-index.was
