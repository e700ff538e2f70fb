-- Messages in parts.
use Rattle.std.specs.Prelude.{[]}
use Rattle.pbx_desc_records.specs.declared.message.DescriptorProto.{DescriptorProto, out-DescriptorProto, roll-DescriptorProto}

-- the message, the messages in it left out
abbrev pub without_nested : DescriptorProto → DescriptorProto
without_nested m = roll-DescriptorProto (record (out-DescriptorProto m) { nested_type = [] })
