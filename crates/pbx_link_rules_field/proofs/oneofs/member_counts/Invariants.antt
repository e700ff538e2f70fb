use Rattle.std.proofs.Common.{◌≡◌, ℕ, ◌<◌, length, take, get_or}
use Rattle.pbx_desc_records.specs.declared.message.DescriptorProto.{out-DescriptorProto}
use Rattle.pbx_link_rules_field.specs.Members.{member_count}
use Rattle.pbx_link_rules_field.proofs.oneofs.member_counts.Given as goal

abbrev pub invariant-loop-field : goal.invariant-loop-field
invariant-loop-field l = record {
  long : length l.counts.items ≡ length (out-DescriptorProto l.message).oneof_decl;
  so_far : (i : ℕ) → i < length l.counts.items → get_or l.counts.items i 0 ≡ member_count (take l.field-index l.field-items) i;
}
