-- What a linked and settled message holds, the messages in it left out.
use Rattle.std.specs.Prelude.{ℕ, List, map}
use Rattle.pbx_desc_records.specs.declared.file.FileDescriptorProto.{FileDescriptorProto}
use Rattle.pbx_desc_records.specs.declared.message.DescriptorProto.{DescriptorProto, out-DescriptorProto}
use Rattle.pbx_desc_shapes.specs.DescriptorShape.{message_fields}
use Rattle.pbx_link_record.specs.Unknown.{settled_unknown}
use Rattle.pbx_link_record.specs.Settled.{settled_field, settled_enum, settled_extension_range, settled_options, settled_oneof, settled_reserved_range}
use Rattle.pbx_link_record.specs.Linked.{linked_field, linked_extension}
use Rattle.pbx_link_record.specs.declared.messages.OwnParts.{OwnParts}

-- the parts of the message of this full name
abbrev pub own_parts : List FileDescriptorProto → List ℕ → DescriptorProto → OwnParts
own_parts seen name m =
    let o = out-DescriptorProto m in
    record {
      name = o.name;
      field = map settled_field (map (linked_field seen name) o.field);
      enum_type = map settled_enum o.enum_type;
      extension_range = map settled_extension_range o.extension_range;
      extension = map settled_field (map (linked_extension seen name) o.extension);
      options = settled_options o.options;
      oneof_decl = map settled_oneof o.oneof_decl;
      reserved_range = map settled_reserved_range o.reserved_range;
      reserved_name = o.reserved_name;
      unknown = settled_unknown message_fields o.unknown;
    }
