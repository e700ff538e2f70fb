use Rattle.std.proofs.Common.{◌≡◌, ℕ, ◌<◌, false, take, get_or}
use Rattle.pbx_desc_records.specs.declared.field.FieldDescriptorProto.{FieldDescriptorProto}
use Rattle.pbx_link_definitions.specs.Found.{is_earlier}
use Rattle.pbx_link_rules_field.proofs.Numbered.{like, Holds}
use Rattle.pbx_link_rules_field.proofs.numbers.number_again.Given as goal

abbrev pub invariant-loop-index : goal.invariant-loop-index
invariant-loop-index l = record {
  none : (k : ℕ) → k < l.index → (d : FieldDescriptorProto) → is_earlier like l.fields k (get_or l.fields k d) ≡ false;
  seen : Holds l.seen.keys (take l.index l.fields);
}
