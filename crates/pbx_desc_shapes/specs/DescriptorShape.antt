-- The shape of the descriptor records: the message types of Protocol Buffers `descriptor.proto` that describe files, with the fields that records have.
use Rattle.std.specs.Prelude.{ℕ, List, [], ◌∷◌, true, false, None, codes}
use Rattle.pbx_content.specs.declared.shape.Kind.{Kind}
use Rattle.pbx_content.specs.declared.shape.Kind.TheVariants as kind
use Rattle.pbx_content.specs.declared.shape.Cardinality.TheVariants.{Singular, Repeated}
use Rattle.pbx_content.specs.declared.shape.FieldShape.{FieldShape}
use Rattle.pbx_content.specs.declared.shape.MessageShape.{MessageShape}
use Rattle.pbx_content.specs.declared.shape.Shape.{Shape}

-- a field of at most one value, which has presence (Protocol Buffers "Application Note: Field Presence": proto2)
abbrev pub one_field : ℕ → List ℕ → List ℕ → Kind → FieldShape
one_field n name json k = record {
  number = n;
  name = name;
  json_name = json;
  is_extension = false;
  kind = k;
  cardinality = Singular;
  presence = true;
  oneof = None;
  packed = false;
  default = None;
  entry = None;
}

-- a field that is a list
abbrev pub list_field : ℕ → List ℕ → List ℕ → Kind → FieldShape
list_field n name json k = record {
  number = n;
  name = name;
  json_name = json;
  is_extension = false;
  kind = k;
  cardinality = Repeated;
  presence = false;
  oneof = None;
  packed = false;
  default = None;
  entry = None;
}

-- a list of numbers that is written as one record (Protocol Buffers "Encoding": Packed Repeated Fields)
abbrev pub packed_field : ℕ → List ℕ → List ℕ → Kind → FieldShape
packed_field n name json k = record {
  number = n;
  name = name;
  json_name = json;
  is_extension = false;
  kind = k;
  cardinality = Repeated;
  presence = false;
  oneof = None;
  packed = true;
  default = None;
  entry = None;
}

-- the fields of FileDescriptorSet
abbrev pub set_fields : List FieldShape
set_fields =
    list_field 1 (codes "file") (codes "file") (kind.Message 1)
    ∷ []

-- the fields of FileDescriptorProto; `edition` is none of them
abbrev pub file_fields : List FieldShape
file_fields =
    one_field 1 (codes "name") (codes "name") kind.String
    ∷ one_field 2 (codes "package") (codes "package") kind.String
    ∷ list_field 3 (codes "dependency") (codes "dependency") kind.String
    ∷ list_field 4 (codes "message_type") (codes "messageType") (kind.Message 2)
    ∷ list_field 5 (codes "enum_type") (codes "enumType") (kind.Message 7)
    ∷ list_field 6 (codes "service") (codes "service") (kind.Message 10)
    ∷ list_field 7 (codes "extension") (codes "extension") (kind.Message 3)
    ∷ one_field 8 (codes "options") (codes "options") (kind.Message 14)
    ∷ one_field 9 (codes "source_code_info") (codes "sourceCodeInfo") (kind.Message 12)
    ∷ list_field 10 (codes "public_dependency") (codes "publicDependency") kind.Int32
    ∷ list_field 11 (codes "weak_dependency") (codes "weakDependency") kind.Int32
    ∷ one_field 12 (codes "syntax") (codes "syntax") kind.String
    ∷ []

-- the fields of DescriptorProto
abbrev pub message_fields : List FieldShape
message_fields =
    one_field 1 (codes "name") (codes "name") kind.String
    ∷ list_field 2 (codes "field") (codes "field") (kind.Message 3)
    ∷ list_field 3 (codes "nested_type") (codes "nestedType") (kind.Message 2)
    ∷ list_field 4 (codes "enum_type") (codes "enumType") (kind.Message 7)
    ∷ list_field 5 (codes "extension_range") (codes "extensionRange") (kind.Message 4)
    ∷ list_field 6 (codes "extension") (codes "extension") (kind.Message 3)
    ∷ one_field 7 (codes "options") (codes "options") (kind.Message 15)
    ∷ list_field 8 (codes "oneof_decl") (codes "oneofDecl") (kind.Message 6)
    ∷ list_field 9 (codes "reserved_range") (codes "reservedRange") (kind.Message 5)
    ∷ list_field 10 (codes "reserved_name") (codes "reservedName") kind.String
    ∷ []

-- the fields of FieldDescriptorProto; `label` and `type` are enums, which a record holds as their numbers (Protocol Buffers "Encoding": Bools and Enums)
abbrev pub field_fields : List FieldShape
field_fields =
    one_field 1 (codes "name") (codes "name") kind.String
    ∷ one_field 2 (codes "extendee") (codes "extendee") kind.String
    ∷ one_field 3 (codes "number") (codes "number") kind.Int32
    ∷ one_field 4 (codes "label") (codes "label") kind.Int32
    ∷ one_field 5 (codes "type") (codes "type") kind.Int32
    ∷ one_field 6 (codes "type_name") (codes "typeName") kind.String
    ∷ one_field 7 (codes "default_value") (codes "defaultValue") kind.String
    ∷ one_field 8 (codes "options") (codes "options") (kind.Message 16)
    ∷ one_field 9 (codes "oneof_index") (codes "oneofIndex") kind.Int32
    ∷ one_field 10 (codes "json_name") (codes "jsonName") kind.String
    ∷ one_field 17 (codes "proto3_optional") (codes "proto3Optional") kind.Bool
    ∷ []

-- the fields of DescriptorProto.ExtensionRange
abbrev pub extension_range_fields : List FieldShape
extension_range_fields =
    one_field 1 (codes "start") (codes "start") kind.Int32
    ∷ one_field 2 (codes "end") (codes "end") kind.Int32
    ∷ one_field 3 (codes "options") (codes "options") (kind.Message 17)
    ∷ []

-- the fields of DescriptorProto.ReservedRange
abbrev pub reserved_range_fields : List FieldShape
reserved_range_fields =
    one_field 1 (codes "start") (codes "start") kind.Int32
    ∷ one_field 2 (codes "end") (codes "end") kind.Int32
    ∷ []

-- the fields of OneofDescriptorProto
abbrev pub oneof_fields : List FieldShape
oneof_fields =
    one_field 1 (codes "name") (codes "name") kind.String
    ∷ one_field 2 (codes "options") (codes "options") (kind.Message 18)
    ∷ []

-- the fields of EnumDescriptorProto
abbrev pub enum_fields : List FieldShape
enum_fields =
    one_field 1 (codes "name") (codes "name") kind.String
    ∷ list_field 2 (codes "value") (codes "value") (kind.Message 9)
    ∷ one_field 3 (codes "options") (codes "options") (kind.Message 19)
    ∷ list_field 4 (codes "reserved_range") (codes "reservedRange") (kind.Message 8)
    ∷ list_field 5 (codes "reserved_name") (codes "reservedName") kind.String
    ∷ []

-- the fields of EnumDescriptorProto.EnumReservedRange
abbrev pub enum_reserved_range_fields : List FieldShape
enum_reserved_range_fields =
    one_field 1 (codes "start") (codes "start") kind.Int32
    ∷ one_field 2 (codes "end") (codes "end") kind.Int32
    ∷ []

-- the fields of EnumValueDescriptorProto
abbrev pub enum_value_fields : List FieldShape
enum_value_fields =
    one_field 1 (codes "name") (codes "name") kind.String
    ∷ one_field 2 (codes "number") (codes "number") kind.Int32
    ∷ one_field 3 (codes "options") (codes "options") (kind.Message 20)
    ∷ []

-- the fields of ServiceDescriptorProto
abbrev pub service_fields : List FieldShape
service_fields =
    one_field 1 (codes "name") (codes "name") kind.String
    ∷ list_field 2 (codes "method") (codes "method") (kind.Message 11)
    ∷ one_field 3 (codes "options") (codes "options") (kind.Message 21)
    ∷ []

-- the fields of MethodDescriptorProto
abbrev pub method_fields : List FieldShape
method_fields =
    one_field 1 (codes "name") (codes "name") kind.String
    ∷ one_field 2 (codes "input_type") (codes "inputType") kind.String
    ∷ one_field 3 (codes "output_type") (codes "outputType") kind.String
    ∷ one_field 4 (codes "options") (codes "options") (kind.Message 22)
    ∷ one_field 5 (codes "client_streaming") (codes "clientStreaming") kind.Bool
    ∷ one_field 6 (codes "server_streaming") (codes "serverStreaming") kind.Bool
    ∷ []

-- the fields of SourceCodeInfo
abbrev pub source_code_info_fields : List FieldShape
source_code_info_fields =
    list_field 1 (codes "location") (codes "location") (kind.Message 13)
    ∷ []

-- the fields of SourceCodeInfo.Location
abbrev pub location_fields : List FieldShape
location_fields =
    packed_field 1 (codes "path") (codes "path") kind.Int32
    ∷ packed_field 2 (codes "span") (codes "span") kind.Int32
    ∷ one_field 3 (codes "leading_comments") (codes "leadingComments") kind.String
    ∷ one_field 4 (codes "trailing_comments") (codes "trailingComments") kind.String
    ∷ list_field 6 (codes "leading_detached_comments") (codes "leadingDetachedComments") kind.String
    ∷ []

-- a type, of a proto2 file, of which the order of kept records of different numbers is no part of a content
abbrev pub message_shape : List ℕ → List FieldShape → MessageShape
message_shape name fields = record { full_name = name; fields = fields; keeps_order = false; proto3 = false }

-- a type of options: no field is read, and the order of all records is a part of the content
abbrev pub options_shape : List ℕ → MessageShape
options_shape name = record { full_name = name; fields = []; keeps_order = true; proto3 = false }

-- The types by their places: 0 FileDescriptorSet, 1 FileDescriptorProto, 2 DescriptorProto, 3 FieldDescriptorProto, 4 DescriptorProto.ExtensionRange,
-- 5 DescriptorProto.ReservedRange, 6 OneofDescriptorProto, 7 EnumDescriptorProto, 8 EnumDescriptorProto.EnumReservedRange,
-- 9 EnumValueDescriptorProto, 10 ServiceDescriptorProto, 11 MethodDescriptorProto, 12 SourceCodeInfo, 13 SourceCodeInfo.Location, 14 FileOptions,
-- 15 MessageOptions, 16 FieldOptions, 17 ExtensionRangeOptions, 18 OneofOptions, 19 EnumOptions, 20 EnumValueOptions, 21 ServiceOptions,
-- 22 MethodOptions.
unfoldable pub descriptor_shape : Shape
descriptor_shape = record {
  messages =
      message_shape (codes "google.protobuf.FileDescriptorSet") set_fields
      ∷ message_shape (codes "google.protobuf.FileDescriptorProto") file_fields
      ∷ message_shape (codes "google.protobuf.DescriptorProto") message_fields
      ∷ message_shape (codes "google.protobuf.FieldDescriptorProto") field_fields
      ∷ message_shape (codes "google.protobuf.DescriptorProto.ExtensionRange") extension_range_fields
      ∷ message_shape (codes "google.protobuf.DescriptorProto.ReservedRange") reserved_range_fields
      ∷ message_shape (codes "google.protobuf.OneofDescriptorProto") oneof_fields
      ∷ message_shape (codes "google.protobuf.EnumDescriptorProto") enum_fields
      ∷ message_shape (codes "google.protobuf.EnumDescriptorProto.EnumReservedRange") enum_reserved_range_fields
      ∷ message_shape (codes "google.protobuf.EnumValueDescriptorProto") enum_value_fields
      ∷ message_shape (codes "google.protobuf.ServiceDescriptorProto") service_fields
      ∷ message_shape (codes "google.protobuf.MethodDescriptorProto") method_fields
      ∷ message_shape (codes "google.protobuf.SourceCodeInfo") source_code_info_fields
      ∷ message_shape (codes "google.protobuf.SourceCodeInfo.Location") location_fields
      ∷ options_shape (codes "google.protobuf.FileOptions")
      ∷ options_shape (codes "google.protobuf.MessageOptions")
      ∷ options_shape (codes "google.protobuf.FieldOptions")
      ∷ options_shape (codes "google.protobuf.ExtensionRangeOptions")
      ∷ options_shape (codes "google.protobuf.OneofOptions")
      ∷ options_shape (codes "google.protobuf.EnumOptions")
      ∷ options_shape (codes "google.protobuf.EnumValueOptions")
      ∷ options_shape (codes "google.protobuf.ServiceOptions")
      ∷ options_shape (codes "google.protobuf.MethodOptions")
      ∷ [];
  enums = [];
}
