-- Descriptor records as a schema file declares its parts (Protocol Buffers `descriptor.proto`): fields with their types set, type names with a
-- leading dot, and the default JSON name; all that is not told is absent.
use Rattle.std.specs.Prelude.{ℕ, pos, List, [], ◌∷◌, ◌++◌, map, Option, Some, None, codes}
use Rattle.pbx_wire.specs.declared.rec.Rec.{Rec}
use Rattle.pbx_wire.specs.declared.rec.Rec.{Varint, Bytes}
use Rattle.pbx_desc_records.specs.declared.enumeration.EnumDescriptorProto.{EnumDescriptorProto}
use Rattle.pbx_desc_records.specs.declared.enumeration.EnumValueDescriptorProto.{EnumValueDescriptorProto}
use Rattle.pbx_desc_records.specs.declared.field.FieldDescriptorProto.{FieldDescriptorProto}
use Rattle.pbx_desc_records.specs.declared.field.OneofDescriptorProto.{OneofDescriptorProto}
use Rattle.pbx_desc_records.specs.declared.file.FileDescriptorProto.{FileDescriptorProto}
use Rattle.pbx_desc_records.specs.declared.message.DescriptorProto.{DescriptorProto, roll-DescriptorProto}
use Rattle.pbx_desc_records.specs.declared.message.DescriptorProto.TheOpen.{DescriptorProto-F}
use Rattle.pbx_desc_records.specs.declared.message.ExtensionRange.{ExtensionRange}
use Rattle.pbx_desc_records.specs.declared.message.ReservedRange.{ReservedRange}
use Rattle.pbx_desc_records.specs.declared.options.Options.{Options}
use Rattle.pbx_link_record.specs.Linked.{default_json_name}

-- ---- options

-- an option that is a number or a flag
abbrev pub number_option : ℕ → ℕ → Rec
number_option n v = Varint n v

-- an option that is a text
abbrev pub text_option : ℕ → List ℕ → Rec
text_option n text = Bytes n text

-- ---- fields

-- what one value of a field is: the number of `FieldDescriptorProto.Type`, and the name of the message or enum
pub record FieldType : Type 0 where
  pub number : ℕ
  pub name : Option (List ℕ)

-- a scalar by its number
abbrev pub scalar : ℕ → FieldType
scalar n = record { number = n; name = None }

abbrev pub double : FieldType
double = scalar 1

abbrev pub float : FieldType
float = scalar 2

abbrev pub int64 : FieldType
int64 = scalar 3

abbrev pub uint64 : FieldType
uint64 = scalar 4

abbrev pub int32 : FieldType
int32 = scalar 5

abbrev pub bool : FieldType
bool = scalar 8

abbrev pub string : FieldType
string = scalar 9

abbrev pub bytes : FieldType
bytes = scalar 12

abbrev pub uint32 : FieldType
uint32 = scalar 13

-- an exact name in the package of the built-in files
abbrev pub google : List ℕ → List ℕ
google name = codes ".google.protobuf." ++ name

-- a message of the package
abbrev pub message : List ℕ → FieldType
message name = record { number = 11; name = Some (google name) }

-- an enum of the package
abbrev pub enum : List ℕ → FieldType
enum name = record { number = 14; name = Some (google name) }

-- a field with a label of `FieldDescriptorProto.Label`
abbrev pub field : ℕ → ℕ → List ℕ → FieldType → FieldDescriptorProto
field label n name t = record {
  name = Some name;
  extendee = None;
  number = Some (pos n);
  label = Some (pos label);
  kind = Some (pos t.number);
  type_name = t.name;
  default_value = None;
  options = None;
  oneof_index = None;
  json_name = Some (default_json_name name);
  proto3_optional = None;
  unknown = [];
}

abbrev pub optional : ℕ → List ℕ → FieldType → FieldDescriptorProto
optional = field 1

abbrev pub required : ℕ → List ℕ → FieldType → FieldDescriptorProto
required = field 2

abbrev pub repeated : ℕ → List ℕ → FieldType → FieldDescriptorProto
repeated = field 3

-- with this default
abbrev pub with_default : List ℕ → FieldDescriptorProto → FieldDescriptorProto
with_default text x = record x { default_value = Some text }

-- with these options
abbrev pub with_options : List Rec → FieldDescriptorProto → FieldDescriptorProto
with_options recs x = record x { options = Some (record { recs = recs }) }

-- a member of the oneof of this index
abbrev pub member : ℕ → FieldDescriptorProto → FieldDescriptorProto
member i x = record x { oneof_index = Some (pos i) }

-- the options that are not interpreted yet, which each message of options has
abbrev pub uninterpreted : FieldDescriptorProto
uninterpreted = repeated 999 (codes "uninterpreted_option") (message (codes "UninterpretedOption"))

-- ---- enums

-- a value by its name and number
abbrev pub value : List ℕ × ℕ → EnumValueDescriptorProto
value v = record { name = Some v.0; number = Some (pos v.1); options = None; unknown = [] }

-- an enum of these values
abbrev pub an_enum : List ℕ → List (List ℕ × ℕ) → EnumDescriptorProto
an_enum name values = record {
  name = Some name;
  value = map value values;
  options = None;
  reserved_range = [];
  reserved_name = [];
  unknown = [];
}

-- ---- messages

-- what few messages have: oneofs by their names, ranges of numbers for extensions, reserved ranges (the ends are exclusive), and options
pub record Rest : Type 0 where
  pub oneofs : List (List ℕ)
  pub extension_ranges : List (ℕ × ℕ)
  pub reserved_ranges : List (ℕ × ℕ)
  pub options : Option (List Rec)

-- none of them
abbrev pub plain : Rest
plain = record { oneofs = []; extension_ranges = []; reserved_ranges = []; options = None }

-- options alone
abbrev pub optioned : List Rec → Rest
optioned recs = record { oneofs = []; extension_ranges = []; reserved_ranges = []; options = Some recs }

-- oneofs alone
abbrev pub choosing : List (List ℕ) → Rest
choosing names = record { oneofs = names; extension_ranges = []; reserved_ranges = []; options = None }

-- ranges alone
abbrev pub ranged : List (ℕ × ℕ) → List (ℕ × ℕ) → Rest
ranged extension reserved = record { oneofs = []; extension_ranges = extension; reserved_ranges = reserved; options = None }

-- the numbers that most options leave to extensions
abbrev pub extensions : ℕ × ℕ
extensions = (1000, 536870912)

abbrev pub oneof : List ℕ → OneofDescriptorProto
oneof name = record { name = Some name; options = None; unknown = [] }

abbrev pub extension_range : ℕ × ℕ → ExtensionRange
extension_range r = record { start = Some (pos r.0); «end» = Some (pos r.1); options = None; unknown = [] }

abbrev pub reserved_range : ℕ × ℕ → ReservedRange
reserved_range r = record { start = Some (pos r.0); «end» = Some (pos r.1); unknown = [] }

abbrev pub options_of : Option (List Rec) → Option Options
options_of None = None
options_of (Some recs) = Some (record { recs = recs })

-- a message by its name, its fields, its enums and the rest, the messages in it left out
pub record Message : Type 0 where
  pub name : List ℕ
  pub fields : List FieldDescriptorProto
  pub enums : List EnumDescriptorProto
  pub rest : Rest

abbrev pub type : List ℕ → List FieldDescriptorProto → List EnumDescriptorProto → Rest → Message
type name fields enums rest = record { name = name; fields = fields; enums = enums; rest = rest }

-- a message that no other holds, and the messages in it, which hold no others
pub record Top : Type 0 where
  pub own : Message
  pub nested : List Message

abbrev pub top : Message → List Message → Top
top own nested = record { own = own; nested = nested }

-- the parts of a message's record, with these messages in it
abbrev pub message_layer : Message → List DescriptorProto → DescriptorProto-F DescriptorProto
message_layer m nested = record {
  name = Some m.name;
  field = m.fields;
  nested_type = nested;
  enum_type = m.enums;
  extension_range = map extension_range m.rest.extension_ranges;
  extension = [];
  options = options_of m.rest.options;
  oneof_decl = map oneof m.rest.oneofs;
  reserved_range = map reserved_range m.rest.reserved_ranges;
  reserved_name = [];
  unknown = [];
}

-- the record of a message that holds no others
abbrev pub message_record : Message → DescriptorProto
message_record m = roll-DescriptorProto (message_layer m [])

-- the record of a message that no other holds
abbrev pub top_record : Top → DescriptorProto
top_record t = roll-DescriptorProto (message_layer t.own (map message_record t.nested))

-- ---- files

-- a file by its name, its package, its imports, its messages, enums and options, and its syntax
pub record File : Type 0 where
  pub name : List ℕ
  pub «package» : List ℕ
  pub imports : List (List ℕ)
  pub messages : List Top
  pub enums : List EnumDescriptorProto
  pub options : List Rec
  pub syntax : Option (List ℕ)

abbrev pub file : List ℕ → List ℕ → List (List ℕ) → List Top → List EnumDescriptorProto → List Rec → Option (List ℕ) → File
file name own imports messages enums options syntax = record {
  name = name;
  «package» = own;
  imports = imports;
  messages = messages;
  enums = enums;
  options = options;
  syntax = syntax;
}

-- its record
abbrev pub file_record : File → FileDescriptorProto
file_record f = record {
  name = Some f.name;
  «package» = Some f.«package»;
  dependency = f.imports;
  message_type = map top_record f.messages;
  enum_type = f.enums;
  service = [];
  extension = [];
  options = Some (record { recs = f.options });
  source_code_info = None;
  public_dependency = [];
  weak_dependency = [];
  syntax = f.syntax;
  unknown = [];
}
