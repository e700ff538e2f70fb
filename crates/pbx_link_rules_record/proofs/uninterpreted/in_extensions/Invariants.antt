use Rattle.std.proofs.Common.{◌≡◌, drop}
use Rattle.pbx_desc_records.specs.declared.field.FieldDescriptorProto.{FieldDescriptorProto}
use Rattle.pbx_link_rules_record.specs.OptionRules.{uninterpreted}
use Rattle.pbx_link_rules_record.proofs.uninterpreted.in_extensions.Given as goal

abbrev pub invariant-loop-part : goal.invariant-loop-part
invariant-loop-part l = uninterpreted (λ (x : FieldDescriptorProto). x.options) 8 l.extensions ≡ uninterpreted (λ (x : FieldDescriptorProto). x.options) 8 (drop l.part-index l.extensions)
