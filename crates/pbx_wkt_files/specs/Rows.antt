-- What rows of the table in the code stand for.
use Rattle.std.specs.Prelude.{ℕ, ℤ, pos, List, [], map, Option, Some, None, option_map}
use Rattle.pbx_wire.specs.declared.rec.Rec.{Rec}
use Rattle.pbx_wire.specs.declared.rec.Rec.{Varint, Bytes}
use Rattle.pbx_desc_records.specs.declared.enumeration.EnumDescriptorProto.{EnumDescriptorProto}
use Rattle.pbx_desc_records.specs.declared.enumeration.EnumValueDescriptorProto.{EnumValueDescriptorProto}
use Rattle.pbx_desc_records.specs.declared.field.FieldDescriptorProto.{FieldDescriptorProto}
use Rattle.pbx_desc_records.specs.declared.field.OneofDescriptorProto.{OneofDescriptorProto}
use Rattle.pbx_desc_records.specs.declared.file.FileDescriptorProto.{FileDescriptorProto}
use Rattle.pbx_desc_records.specs.declared.message.DescriptorProto.{DescriptorProto, roll-DescriptorProto}
use Rattle.pbx_desc_records.specs.declared.message.ExtensionRange.{ExtensionRange}
use Rattle.pbx_desc_records.specs.declared.message.ReservedRange.{ReservedRange}
use Rattle.pbx_desc_records.specs.declared.options.Options.{Options}
use Rattle.pbx_wkt_files.specs.declared.row.Kind.{Kind}
use Rattle.pbx_wkt_files.specs.declared.row.Kind.TheVariants.{Double, Float, Int64, Uint64, Int32, Bool, String, Message, Bytes as BytesKind, Uint32, Enum}
use Rattle.pbx_wkt_files.specs.declared.row.Label.{Label}
use Rattle.pbx_wkt_files.specs.declared.row.Label.TheVariants.{Optional, Required, Repeated}
use Rattle.pbx_wkt_files.specs.declared.row.OptionRow.{OptionRow}
use Rattle.pbx_wkt_files.specs.declared.row.OptionRow.TheVariants.{Number, Text}
use Rattle.pbx_wkt_files.specs.declared.row.Beside.{Beside}
use Rattle.pbx_wkt_files.specs.declared.row.Beside.TheVariants.{Nothing, Default, Options as HasOptions, Member}
use Rattle.pbx_wkt_files.specs.declared.row.FieldRow.{FieldRow}
use Rattle.pbx_wkt_files.specs.declared.row.ValueRow.{ValueRow}
use Rattle.pbx_wkt_files.specs.declared.row.EnumRow.{EnumRow}
use Rattle.pbx_wkt_files.specs.declared.row.RangeRow.{RangeRow}
use Rattle.pbx_wkt_files.specs.declared.row.MessageRow.{MessageRow}
use Rattle.pbx_wkt_files.specs.declared.row.TopRow.{TopRow}
use Rattle.pbx_wkt_files.specs.declared.row.FileRow.{FileRow}

-- the option of a row
abbrev pub row_rec : OptionRow → Rec
row_rec (Number n v) = Varint n v
row_rec (Text n text) = Bytes n text.now

-- the options of rows
abbrev pub rows_options : List OptionRow → Options
rows_options rows = record { recs = map row_rec rows }

-- the number of a label
abbrev pub label_number : Label → ℤ
label_number Optional = pos 1
label_number Required = pos 2
label_number Repeated = pos 3

-- the number of a type
abbrev pub kind_number : Kind → ℤ
kind_number Double = pos 1
kind_number Float = pos 2
kind_number Int64 = pos 3
kind_number Uint64 = pos 4
kind_number Int32 = pos 5
kind_number Bool = pos 8
kind_number String = pos 9
kind_number (Message name) = pos 11
kind_number BytesKind = pos 12
kind_number Uint32 = pos 13
kind_number (Enum name) = pos 14

-- the name of a type, if it has one
abbrev pub kind_name : Kind → Option (List ℕ)
kind_name (Message name) = Some name.now
kind_name (Enum name) = Some name.now
kind_name _ = None

-- the default
abbrev pub beside_default : Beside → Option (List ℕ)
beside_default (Default text) = Some text.now
beside_default _ = None

-- the options
abbrev pub beside_options : Beside → Option Options
beside_options (HasOptions rows) = Some (rows_options rows.now)
beside_options _ = None

-- the index of the oneof
abbrev pub beside_oneof : Beside → Option ℤ
beside_oneof (Member i) = Some i
beside_oneof _ = None

-- the field of a row
abbrev pub row_field : FieldRow → FieldDescriptorProto
row_field r = record {
  name = Some r.1.now;
  extendee = None;
  number = Some r.0;
  label = Some (label_number r.3);
  kind = Some (kind_number r.4);
  type_name = kind_name r.4;
  default_value = beside_default r.5;
  options = beside_options r.5;
  oneof_index = beside_oneof r.5;
  json_name = Some r.2.now;
  proto3_optional = None;
  unknown = [];
}

-- the value of a row
abbrev pub row_value : ValueRow → EnumValueDescriptorProto
row_value r = record { name = Some r.0.now; number = Some r.1; options = None; unknown = [] }

-- the enum of a row
abbrev pub row_enum : EnumRow → EnumDescriptorProto
row_enum r = record {
  name = Some r.0.now;
  value = map row_value r.1.now;
  options = None;
  reserved_range = [];
  reserved_name = [];
  unknown = [];
}

-- the extension range of a row
abbrev pub row_extension_range : RangeRow → ExtensionRange
row_extension_range r = record { start = Some r.0; «end» = Some r.1; options = None; unknown = [] }

-- the reserved range of a row
abbrev pub row_reserved_range : RangeRow → ReservedRange
row_reserved_range r = record { start = Some r.0; «end» = Some r.1; unknown = [] }

-- the oneof of a name
abbrev pub named_oneof : List ℕ → OneofDescriptorProto
named_oneof name = record { name = Some name; options = None; unknown = [] }

-- the message of a row, with these messages in it
abbrev pub row_message_with : MessageRow → List DescriptorProto → DescriptorProto
row_message_with r nested = roll-DescriptorProto (record {
  name = Some r.0.now;
  field = map row_field r.1.now;
  nested_type = nested;
  enum_type = map row_enum r.2.now;
  extension_range = map row_extension_range r.3.1.now;
  extension = [];
  options = option_map (λ rows. rows_options rows.now) r.3.3;
  oneof_decl = map (λ name. named_oneof name.now) r.3.0.now;
  reserved_range = map row_reserved_range r.3.2.now;
  reserved_name = [];
  unknown = [];
})

-- the message of a row that holds no others
abbrev pub row_message : MessageRow → DescriptorProto
row_message r = row_message_with r []

-- the message of a row at the top of a file
abbrev pub row_top : TopRow → DescriptorProto
row_top r = row_message_with r.0 (map row_message r.1.now)

-- the file of a row, with these messages
abbrev pub row_file_with : FileRow → List DescriptorProto → FileDescriptorProto
row_file_with r messages = record {
  name = Some r.name.now;
  «package» = Some r.«package».now;
  dependency = map (λ name. name.now) r.dependency.now;
  message_type = messages;
  enum_type = map row_enum r.enums.now;
  service = [];
  extension = [];
  options = Some (rows_options r.options.now);
  source_code_info = None;
  public_dependency = [];
  weak_dependency = [];
  syntax = option_map (λ text. text.now) r.syntax;
  unknown = [];
}

-- the file of a row
abbrev pub row_file : FileRow → FileDescriptorProto
row_file r = row_file_with r (map row_top r.messages.now)
