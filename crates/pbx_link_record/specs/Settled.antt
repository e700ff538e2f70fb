-- Records as their own encoding gives them back: unknown records by ascending number, those of one number in their order, without
-- what is never written (Protocol Buffers "Encoding": Field Order; "Language Guide": Unknown Fields). Options keep their order.
use Rattle.std.specs.Prelude.{◌≡◌, [], map, Option, option_map}
use Rattle.pbx_desc_shapes.specs.DescriptorShape.{file_fields, message_fields, field_fields, extension_range_fields, reserved_range_fields, oneof_fields}
use Rattle.pbx_desc_shapes.specs.DescriptorShape.{enum_fields, enum_reserved_range_fields, enum_value_fields, service_fields, method_fields}
use Rattle.pbx_desc_shapes.specs.DescriptorShape.{source_code_info_fields, location_fields}
use Rattle.pbx_desc_records.specs.declared.enumeration.EnumDescriptorProto.{EnumDescriptorProto}
use Rattle.pbx_desc_records.specs.declared.enumeration.EnumReservedRange.{EnumReservedRange}
use Rattle.pbx_desc_records.specs.declared.enumeration.EnumValueDescriptorProto.{EnumValueDescriptorProto}
use Rattle.pbx_desc_records.specs.declared.field.FieldDescriptorProto.{FieldDescriptorProto}
use Rattle.pbx_desc_records.specs.declared.field.OneofDescriptorProto.{OneofDescriptorProto}
use Rattle.pbx_desc_records.specs.declared.file.FileDescriptorProto.{FileDescriptorProto}
use Rattle.pbx_desc_records.specs.declared.message.DescriptorProto.{DescriptorProto, roll-DescriptorProto, fold-DescriptorProto}
use Rattle.pbx_desc_records.specs.declared.message.DescriptorProto.TheOpen.{DescriptorProto-F}
use Rattle.pbx_desc_records.specs.declared.message.ExtensionRange.{ExtensionRange}
use Rattle.pbx_desc_records.specs.declared.message.ReservedRange.{ReservedRange}
use Rattle.pbx_desc_records.specs.declared.options.Options.{Options}
use Rattle.pbx_desc_records.specs.declared.service.MethodDescriptorProto.{MethodDescriptorProto}
use Rattle.pbx_desc_records.specs.declared.service.ServiceDescriptorProto.{ServiceDescriptorProto}
use Rattle.pbx_desc_records.specs.declared.source.Location.{Location}
use Rattle.pbx_desc_records.specs.declared.source.SourceCodeInfo.{SourceCodeInfo}
use Rattle.pbx_link_record.specs.Unknown.{unread, settled_unknown}

-- the records of options, in their order
abbrev pub written_options : Options → Options
written_options p = record p { recs = unread [] p.recs }

-- options, if there are any
abbrev pub settled_options : Option Options → Option Options
settled_options o = option_map written_options o

-- an ExtensionRange
abbrev pub settled_extension_range : ExtensionRange → ExtensionRange
settled_extension_range r = record r { options = settled_options r.options; unknown = settled_unknown extension_range_fields r.unknown }

-- a ReservedRange
abbrev pub settled_reserved_range : ReservedRange → ReservedRange
settled_reserved_range r = record r { unknown = settled_unknown reserved_range_fields r.unknown }

-- a FieldDescriptorProto
abbrev pub settled_field : FieldDescriptorProto → FieldDescriptorProto
settled_field f = record f { options = settled_options f.options; unknown = settled_unknown field_fields f.unknown }

-- a OneofDescriptorProto
abbrev pub settled_oneof : OneofDescriptorProto → OneofDescriptorProto
settled_oneof o = record o { options = settled_options o.options; unknown = settled_unknown oneof_fields o.unknown }

-- an EnumReservedRange
abbrev pub settled_enum_range : EnumReservedRange → EnumReservedRange
settled_enum_range r = record r { unknown = settled_unknown enum_reserved_range_fields r.unknown }

-- an EnumValueDescriptorProto
abbrev pub settled_value : EnumValueDescriptorProto → EnumValueDescriptorProto
settled_value v = record v { options = settled_options v.options; unknown = settled_unknown enum_value_fields v.unknown }

-- an EnumDescriptorProto
abbrev pub settled_enum : EnumDescriptorProto → EnumDescriptorProto
settled_enum e = record e {
  value = map settled_value e.value;
  options = settled_options e.options;
  reserved_range = map settled_enum_range e.reserved_range;
  unknown = settled_unknown enum_fields e.unknown;
}

-- a MethodDescriptorProto
abbrev pub settled_method : MethodDescriptorProto → MethodDescriptorProto
settled_method m = record m { options = settled_options m.options; unknown = settled_unknown method_fields m.unknown }

-- a ServiceDescriptorProto
abbrev pub settled_service : ServiceDescriptorProto → ServiceDescriptorProto
settled_service s = record s { method = map settled_method s.method; options = settled_options s.options; unknown = settled_unknown service_fields s.unknown }

-- a Location
abbrev pub settled_location : Location → Location
settled_location l = record l { unknown = settled_unknown location_fields l.unknown }

-- a SourceCodeInfo
abbrev pub settled_source : SourceCodeInfo → SourceCodeInfo
settled_source s = record s { location = map settled_location s.location; unknown = settled_unknown source_code_info_fields s.unknown }

-- a message whose nested messages are settled
abbrev pub settled_layer : DescriptorProto-F DescriptorProto → DescriptorProto
settled_layer m = roll-DescriptorProto (record m {
  field = map settled_field m.field;
  enum_type = map settled_enum m.enum_type;
  extension_range = map settled_extension_range m.extension_range;
  extension = map settled_field m.extension;
  options = settled_options m.options;
  oneof_decl = map settled_oneof m.oneof_decl;
  reserved_range = map settled_reserved_range m.reserved_range;
  unknown = settled_unknown message_fields m.unknown;
})

-- a DescriptorProto, at every depth
abbrev pub settled_message : DescriptorProto → DescriptorProto
settled_message = fold-DescriptorProto DescriptorProto settled_layer

-- the record that the encoding of a file's record decodes to
abbrev pub settled_file : FileDescriptorProto → FileDescriptorProto
settled_file f = record f {
  message_type = map settled_message f.message_type;
  enum_type = map settled_enum f.enum_type;
  service = map settled_service f.service;
  extension = map settled_field f.extension;
  options = settled_options f.options;
  source_code_info = option_map settled_source f.source_code_info;
  unknown = settled_unknown file_fields f.unknown;
}

-- two records of files with the same content
abbrev pub SameFile : FileDescriptorProto → FileDescriptorProto → Type 0
SameFile f g = settled_file f ≡ settled_file g
