use Rattle.std.proofs.Common.{◌≡◌, take, map}
use Rattle.pbx_desc_records.specs.declared.field.FieldDescriptorProto.{FieldDescriptorProto}
use Rattle.pbx_link_definitions.specs.Names.{text_or_empty, qualified}
use Rattle.pbx_link_tables.proofs.entry.field_names.Given as goal

abbrev pub invariant-loop-field : goal.invariant-loop-field
invariant-loop-field l = l.names ≡ map (λ (x : FieldDescriptorProto). qualified l.scope (text_or_empty x.name)) (take l.field-index l.fields)
