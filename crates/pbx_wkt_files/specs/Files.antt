-- The built-in files: the schema files that come with Protocol Buffers, message by message and one line a field (google/protobuf/any.proto,
-- source_context.proto, type.proto, api.proto, descriptor.proto, duration.proto, empty.proto, field_mask.proto, struct.proto, timestamp.proto,
-- wrappers.proto, compiler/plugin.proto).
use Rattle.std.specs.Prelude.{ℕ, List, [], ◌∷◌, ◌++◌, map, Option, Some, None, codes, find}
use Rattle.pbx_desc_records.specs.declared.field.FieldDescriptorProto.{FieldDescriptorProto}
use Rattle.pbx_desc_records.specs.declared.file.FileDescriptorProto.{FileDescriptorProto}
use Rattle.pbx_link_definitions.specs.Names.{is_named}
use Rattle.pbx_wkt_files.specs.Records.{double, float, int64, uint64, int32, bool, string, bytes, uint32, message, enum, optional, required, repeated}
use Rattle.pbx_wkt_files.specs.Records.{with_default, with_options, member, uninterpreted, number_option, text_option}
use Rattle.pbx_wkt_files.specs.Records.{plain, optioned, choosing, ranged, extensions, an_enum}
use Rattle.pbx_wkt_files.specs.Records.{Message, type, Top, top, File, file, file_record}

-- ---- google/protobuf/any.proto

-- the fields of Any
abbrev pub any_fields : List FieldDescriptorProto
any_fields =
    optional 1 (codes "type_url") string
    ∷ optional 2 (codes "value") bytes
    ∷ []

-- Any
abbrev pub any_type : Message
any_type = type (codes "Any") any_fields [] plain

-- google/protobuf/any.proto
abbrev pub any_file : File
any_file =
    file (codes "google/protobuf/any.proto") (codes "google.protobuf")
    []
    (
    top any_type []
    ∷ []
    )
    []
    (
    text_option 1 (codes "com.google.protobuf")
    ∷ text_option 8 (codes "AnyProto")
    ∷ number_option 10 1
    ∷ text_option 11 (codes "google.golang.org/protobuf/types/known/anypb")
    ∷ text_option 36 (codes "GPB")
    ∷ text_option 37 (codes "Google.Protobuf.WellKnownTypes")
    ∷ []
    )
    (Some (codes "proto3"))

-- ---- google/protobuf/source_context.proto

-- the fields of SourceContext
abbrev pub source_context_fields : List FieldDescriptorProto
source_context_fields =
    optional 1 (codes "file_name") string
    ∷ []

-- SourceContext
abbrev pub source_context_type : Message
source_context_type = type (codes "SourceContext") source_context_fields [] plain

-- google/protobuf/source_context.proto
abbrev pub source_context_file : File
source_context_file =
    file (codes "google/protobuf/source_context.proto") (codes "google.protobuf")
    []
    (
    top source_context_type []
    ∷ []
    )
    []
    (
    text_option 1 (codes "com.google.protobuf")
    ∷ text_option 8 (codes "SourceContextProto")
    ∷ number_option 10 1
    ∷ text_option 11 (codes "google.golang.org/protobuf/types/known/sourcecontextpb")
    ∷ text_option 36 (codes "GPB")
    ∷ text_option 37 (codes "Google.Protobuf.WellKnownTypes")
    ∷ []
    )
    (Some (codes "proto3"))

-- ---- google/protobuf/type.proto

-- the fields of Type
abbrev pub type_fields : List FieldDescriptorProto
type_fields =
    optional 1 (codes "name") string
    ∷ repeated 2 (codes "fields") (message (codes "Field"))
    ∷ repeated 3 (codes "oneofs") string
    ∷ repeated 4 (codes "options") (message (codes "Option"))
    ∷ optional 5 (codes "source_context") (message (codes "SourceContext"))
    ∷ optional 6 (codes "syntax") (enum (codes "Syntax"))
    ∷ optional 7 (codes "edition") string
    ∷ []

-- Type
abbrev pub type_type : Message
type_type = type (codes "Type") type_fields [] plain

-- the values of Field.Kind
abbrev pub field_kind_values : List (List ℕ × ℕ)
field_kind_values =
    (codes "TYPE_UNKNOWN", 0) ∷ (codes "TYPE_DOUBLE", 1) ∷ (codes "TYPE_FLOAT", 2) ∷ (codes "TYPE_INT64", 3) ∷ (codes "TYPE_UINT64", 4) ∷
    (codes "TYPE_INT32", 5) ∷ (codes "TYPE_FIXED64", 6) ∷ (codes "TYPE_FIXED32", 7) ∷ (codes "TYPE_BOOL", 8) ∷ (codes "TYPE_STRING", 9) ∷
    (codes "TYPE_GROUP", 10) ∷ (codes "TYPE_MESSAGE", 11) ∷ (codes "TYPE_BYTES", 12) ∷ (codes "TYPE_UINT32", 13) ∷ (codes "TYPE_ENUM", 14) ∷
    (codes "TYPE_SFIXED32", 15) ∷ (codes "TYPE_SFIXED64", 16) ∷ (codes "TYPE_SINT32", 17) ∷ (codes "TYPE_SINT64", 18) ∷ []

-- the values of Field.Cardinality
abbrev pub field_cardinality_values : List (List ℕ × ℕ)
field_cardinality_values =
    (codes "CARDINALITY_UNKNOWN", 0) ∷ (codes "CARDINALITY_OPTIONAL", 1) ∷ (codes "CARDINALITY_REQUIRED", 2) ∷
    (codes "CARDINALITY_REPEATED", 3) ∷ []

-- the fields of Field
abbrev pub field_fields : List FieldDescriptorProto
field_fields =
    optional 1 (codes "kind") (enum (codes "Field.Kind"))
    ∷ optional 2 (codes "cardinality") (enum (codes "Field.Cardinality"))
    ∷ optional 3 (codes "number") int32
    ∷ optional 4 (codes "name") string
    ∷ optional 6 (codes "type_url") string
    ∷ optional 7 (codes "oneof_index") int32
    ∷ optional 8 (codes "packed") bool
    ∷ repeated 9 (codes "options") (message (codes "Option"))
    ∷ optional 10 (codes "json_name") string
    ∷ optional 11 (codes "default_value") string
    ∷ []

-- Field
abbrev pub field_type : Message
field_type =
    type (codes "Field") field_fields
    (
    an_enum (codes "Kind") field_kind_values
    ∷ an_enum (codes "Cardinality") field_cardinality_values
    ∷ []
    )
    plain

-- the fields of Enum
abbrev pub enum_fields : List FieldDescriptorProto
enum_fields =
    optional 1 (codes "name") string
    ∷ repeated 2 (codes "enumvalue") (message (codes "EnumValue"))
    ∷ repeated 3 (codes "options") (message (codes "Option"))
    ∷ optional 4 (codes "source_context") (message (codes "SourceContext"))
    ∷ optional 5 (codes "syntax") (enum (codes "Syntax"))
    ∷ optional 6 (codes "edition") string
    ∷ []

-- Enum
abbrev pub enum_type : Message
enum_type = type (codes "Enum") enum_fields [] plain

-- the fields of EnumValue
abbrev pub enum_value_fields : List FieldDescriptorProto
enum_value_fields =
    optional 1 (codes "name") string
    ∷ optional 2 (codes "number") int32
    ∷ repeated 3 (codes "options") (message (codes "Option"))
    ∷ []

-- EnumValue
abbrev pub enum_value_type : Message
enum_value_type = type (codes "EnumValue") enum_value_fields [] plain

-- the fields of Option
abbrev pub option_fields : List FieldDescriptorProto
option_fields =
    optional 1 (codes "name") string
    ∷ optional 2 (codes "value") (message (codes "Any"))
    ∷ []

-- Option
abbrev pub option_type : Message
option_type = type (codes "Option") option_fields [] plain

-- the values of Syntax
abbrev pub syntax_values : List (List ℕ × ℕ)
syntax_values =
    (codes "SYNTAX_PROTO2", 0) ∷ (codes "SYNTAX_PROTO3", 1) ∷ (codes "SYNTAX_EDITIONS", 2) ∷ []

-- google/protobuf/type.proto
abbrev pub type_file : File
type_file =
    file (codes "google/protobuf/type.proto") (codes "google.protobuf")
    (codes "google/protobuf/any.proto" ∷ codes "google/protobuf/source_context.proto" ∷ [])
    (
    top type_type []
    ∷ top field_type []
    ∷ top enum_type []
    ∷ top enum_value_type []
    ∷ top option_type []
    ∷ []
    )
    (an_enum (codes "Syntax") syntax_values ∷ [])
    (
    text_option 1 (codes "com.google.protobuf")
    ∷ text_option 8 (codes "TypeProto")
    ∷ number_option 10 1
    ∷ text_option 11 (codes "google.golang.org/protobuf/types/known/typepb")
    ∷ number_option 31 1
    ∷ text_option 36 (codes "GPB")
    ∷ text_option 37 (codes "Google.Protobuf.WellKnownTypes")
    ∷ []
    )
    (Some (codes "proto3"))

-- ---- google/protobuf/api.proto

-- the fields of Api
abbrev pub api_fields : List FieldDescriptorProto
api_fields =
    optional 1 (codes "name") string
    ∷ repeated 2 (codes "methods") (message (codes "Method"))
    ∷ repeated 3 (codes "options") (message (codes "Option"))
    ∷ optional 4 (codes "version") string
    ∷ optional 5 (codes "source_context") (message (codes "SourceContext"))
    ∷ repeated 6 (codes "mixins") (message (codes "Mixin"))
    ∷ optional 7 (codes "syntax") (enum (codes "Syntax"))
    ∷ []

-- Api
abbrev pub api_type : Message
api_type = type (codes "Api") api_fields [] plain

-- the fields of Method
abbrev pub method_fields : List FieldDescriptorProto
method_fields =
    optional 1 (codes "name") string
    ∷ optional 2 (codes "request_type_url") string
    ∷ optional 3 (codes "request_streaming") bool
    ∷ optional 4 (codes "response_type_url") string
    ∷ optional 5 (codes "response_streaming") bool
    ∷ repeated 6 (codes "options") (message (codes "Option"))
    ∷ optional 7 (codes "syntax") (enum (codes "Syntax"))
    ∷ []

-- Method
abbrev pub method_type : Message
method_type = type (codes "Method") method_fields [] plain

-- the fields of Mixin
abbrev pub mixin_fields : List FieldDescriptorProto
mixin_fields =
    optional 1 (codes "name") string
    ∷ optional 2 (codes "root") string
    ∷ []

-- Mixin
abbrev pub mixin_type : Message
mixin_type = type (codes "Mixin") mixin_fields [] plain

-- google/protobuf/api.proto
abbrev pub api_file : File
api_file =
    file (codes "google/protobuf/api.proto") (codes "google.protobuf")
    (codes "google/protobuf/source_context.proto" ∷ codes "google/protobuf/type.proto" ∷ [])
    (
    top api_type []
    ∷ top method_type []
    ∷ top mixin_type []
    ∷ []
    )
    []
    (
    text_option 1 (codes "com.google.protobuf")
    ∷ text_option 8 (codes "ApiProto")
    ∷ number_option 10 1
    ∷ text_option 11 (codes "google.golang.org/protobuf/types/known/apipb")
    ∷ text_option 36 (codes "GPB")
    ∷ text_option 37 (codes "Google.Protobuf.WellKnownTypes")
    ∷ []
    )
    (Some (codes "proto3"))

-- ---- google/protobuf/descriptor.proto

-- the fields of FileDescriptorSet
abbrev pub file_descriptor_set_fields : List FieldDescriptorProto
file_descriptor_set_fields =
    repeated 1 (codes "file") (message (codes "FileDescriptorProto"))
    ∷ []

-- FileDescriptorSet
abbrev pub file_descriptor_set_type : Message
file_descriptor_set_type = type (codes "FileDescriptorSet") file_descriptor_set_fields [] plain

-- the fields of FileDescriptorProto
abbrev pub file_descriptor_proto_fields : List FieldDescriptorProto
file_descriptor_proto_fields =
    optional 1 (codes "name") string
    ∷ optional 2 (codes "package") string
    ∷ repeated 3 (codes "dependency") string
    ∷ repeated 10 (codes "public_dependency") int32
    ∷ repeated 11 (codes "weak_dependency") int32
    ∷ repeated 4 (codes "message_type") (message (codes "DescriptorProto"))
    ∷ repeated 5 (codes "enum_type") (message (codes "EnumDescriptorProto"))
    ∷ repeated 6 (codes "service") (message (codes "ServiceDescriptorProto"))
    ∷ repeated 7 (codes "extension") (message (codes "FieldDescriptorProto"))
    ∷ optional 8 (codes "options") (message (codes "FileOptions"))
    ∷ optional 9 (codes "source_code_info") (message (codes "SourceCodeInfo"))
    ∷ optional 12 (codes "syntax") string
    ∷ optional 14 (codes "edition") (enum (codes "Edition"))
    ∷ []

-- FileDescriptorProto
abbrev pub file_descriptor_proto_type : Message
file_descriptor_proto_type = type (codes "FileDescriptorProto") file_descriptor_proto_fields [] plain

-- the fields of DescriptorProto.ExtensionRange
abbrev pub descriptor_proto_extension_range_fields : List FieldDescriptorProto
descriptor_proto_extension_range_fields =
    optional 1 (codes "start") int32
    ∷ optional 2 (codes "end") int32
    ∷ optional 3 (codes "options") (message (codes "ExtensionRangeOptions"))
    ∷ []

-- DescriptorProto.ExtensionRange
abbrev pub descriptor_proto_extension_range_type : Message
descriptor_proto_extension_range_type = type (codes "ExtensionRange") descriptor_proto_extension_range_fields [] plain

-- the fields of DescriptorProto.ReservedRange
abbrev pub descriptor_proto_reserved_range_fields : List FieldDescriptorProto
descriptor_proto_reserved_range_fields =
    optional 1 (codes "start") int32
    ∷ optional 2 (codes "end") int32
    ∷ []

-- DescriptorProto.ReservedRange
abbrev pub descriptor_proto_reserved_range_type : Message
descriptor_proto_reserved_range_type = type (codes "ReservedRange") descriptor_proto_reserved_range_fields [] plain

-- the fields of DescriptorProto
abbrev pub descriptor_proto_fields : List FieldDescriptorProto
descriptor_proto_fields =
    optional 1 (codes "name") string
    ∷ repeated 2 (codes "field") (message (codes "FieldDescriptorProto"))
    ∷ repeated 6 (codes "extension") (message (codes "FieldDescriptorProto"))
    ∷ repeated 3 (codes "nested_type") (message (codes "DescriptorProto"))
    ∷ repeated 4 (codes "enum_type") (message (codes "EnumDescriptorProto"))
    ∷ repeated 5 (codes "extension_range") (message (codes "DescriptorProto.ExtensionRange"))
    ∷ repeated 8 (codes "oneof_decl") (message (codes "OneofDescriptorProto"))
    ∷ optional 7 (codes "options") (message (codes "MessageOptions"))
    ∷ repeated 9 (codes "reserved_range") (message (codes "DescriptorProto.ReservedRange"))
    ∷ repeated 10 (codes "reserved_name") string
    ∷ []

-- DescriptorProto
abbrev pub descriptor_proto_type : Message
descriptor_proto_type = type (codes "DescriptorProto") descriptor_proto_fields [] plain

-- the fields of ExtensionRangeOptions.Declaration
abbrev pub extension_range_options_declaration_fields : List FieldDescriptorProto
extension_range_options_declaration_fields =
    optional 1 (codes "number") int32
    ∷ optional 2 (codes "full_name") string
    ∷ optional 3 (codes "type") string
    ∷ optional 5 (codes "reserved") bool
    ∷ optional 6 (codes "repeated") bool
    ∷ []

-- ExtensionRangeOptions.Declaration
abbrev pub extension_range_options_declaration_type : Message
extension_range_options_declaration_type = type (codes "Declaration") extension_range_options_declaration_fields [] (ranged [] ((4, 5) ∷ []))

-- the values of ExtensionRangeOptions.VerificationState
abbrev pub extension_range_options_verification_state_values : List (List ℕ × ℕ)
extension_range_options_verification_state_values =
    (codes "DECLARATION", 0) ∷ (codes "UNVERIFIED", 1) ∷ []

-- the fields of ExtensionRangeOptions
abbrev pub extension_range_options_fields : List FieldDescriptorProto
extension_range_options_fields =
    uninterpreted
    ∷ with_options [] (repeated 2 (codes "declaration") (message (codes "ExtensionRangeOptions.Declaration")))
    ∷ optional 50 (codes "features") (message (codes "FeatureSet"))
    ∷ with_default (codes "UNVERIFIED") (optional 3 (codes "verification") (enum (codes "ExtensionRangeOptions.VerificationState")))
    ∷ []

-- ExtensionRangeOptions
abbrev pub extension_range_options_type : Message
extension_range_options_type =
    type (codes "ExtensionRangeOptions") extension_range_options_fields
    (an_enum (codes "VerificationState") extension_range_options_verification_state_values ∷ [])
    (ranged (extensions ∷ []) [])

-- the values of FieldDescriptorProto.Type
abbrev pub field_descriptor_proto_type_values : List (List ℕ × ℕ)
field_descriptor_proto_type_values =
    (codes "TYPE_DOUBLE", 1) ∷ (codes "TYPE_FLOAT", 2) ∷ (codes "TYPE_INT64", 3) ∷ (codes "TYPE_UINT64", 4) ∷ (codes "TYPE_INT32", 5) ∷
    (codes "TYPE_FIXED64", 6) ∷ (codes "TYPE_FIXED32", 7) ∷ (codes "TYPE_BOOL", 8) ∷ (codes "TYPE_STRING", 9) ∷ (codes "TYPE_GROUP", 10) ∷
    (codes "TYPE_MESSAGE", 11) ∷ (codes "TYPE_BYTES", 12) ∷ (codes "TYPE_UINT32", 13) ∷ (codes "TYPE_ENUM", 14) ∷
    (codes "TYPE_SFIXED32", 15) ∷ (codes "TYPE_SFIXED64", 16) ∷ (codes "TYPE_SINT32", 17) ∷ (codes "TYPE_SINT64", 18) ∷ []

-- the values of FieldDescriptorProto.Label
abbrev pub field_descriptor_proto_label_values : List (List ℕ × ℕ)
field_descriptor_proto_label_values =
    (codes "LABEL_OPTIONAL", 1) ∷ (codes "LABEL_REPEATED", 3) ∷ (codes "LABEL_REQUIRED", 2) ∷ []

-- the fields of FieldDescriptorProto
abbrev pub field_descriptor_proto_fields : List FieldDescriptorProto
field_descriptor_proto_fields =
    optional 1 (codes "name") string
    ∷ optional 3 (codes "number") int32
    ∷ optional 4 (codes "label") (enum (codes "FieldDescriptorProto.Label"))
    ∷ optional 5 (codes "type") (enum (codes "FieldDescriptorProto.Type"))
    ∷ optional 6 (codes "type_name") string
    ∷ optional 2 (codes "extendee") string
    ∷ optional 7 (codes "default_value") string
    ∷ optional 9 (codes "oneof_index") int32
    ∷ optional 10 (codes "json_name") string
    ∷ optional 8 (codes "options") (message (codes "FieldOptions"))
    ∷ optional 17 (codes "proto3_optional") bool
    ∷ []

-- FieldDescriptorProto
abbrev pub field_descriptor_proto_type : Message
field_descriptor_proto_type =
    type (codes "FieldDescriptorProto") field_descriptor_proto_fields
    (
    an_enum (codes "Type") field_descriptor_proto_type_values
    ∷ an_enum (codes "Label") field_descriptor_proto_label_values
    ∷ []
    )
    plain

-- the fields of OneofDescriptorProto
abbrev pub oneof_descriptor_proto_fields : List FieldDescriptorProto
oneof_descriptor_proto_fields =
    optional 1 (codes "name") string
    ∷ optional 2 (codes "options") (message (codes "OneofOptions"))
    ∷ []

-- OneofDescriptorProto
abbrev pub oneof_descriptor_proto_type : Message
oneof_descriptor_proto_type = type (codes "OneofDescriptorProto") oneof_descriptor_proto_fields [] plain

-- the fields of EnumDescriptorProto.EnumReservedRange
abbrev pub enum_descriptor_proto_enum_reserved_range_fields : List FieldDescriptorProto
enum_descriptor_proto_enum_reserved_range_fields =
    optional 1 (codes "start") int32
    ∷ optional 2 (codes "end") int32
    ∷ []

-- EnumDescriptorProto.EnumReservedRange
abbrev pub enum_descriptor_proto_enum_reserved_range_type : Message
enum_descriptor_proto_enum_reserved_range_type = type (codes "EnumReservedRange") enum_descriptor_proto_enum_reserved_range_fields [] plain

-- the fields of EnumDescriptorProto
abbrev pub enum_descriptor_proto_fields : List FieldDescriptorProto
enum_descriptor_proto_fields =
    optional 1 (codes "name") string
    ∷ repeated 2 (codes "value") (message (codes "EnumValueDescriptorProto"))
    ∷ optional 3 (codes "options") (message (codes "EnumOptions"))
    ∷ repeated 4 (codes "reserved_range") (message (codes "EnumDescriptorProto.EnumReservedRange"))
    ∷ repeated 5 (codes "reserved_name") string
    ∷ []

-- EnumDescriptorProto
abbrev pub enum_descriptor_proto_type : Message
enum_descriptor_proto_type = type (codes "EnumDescriptorProto") enum_descriptor_proto_fields [] plain

-- the fields of EnumValueDescriptorProto
abbrev pub enum_value_descriptor_proto_fields : List FieldDescriptorProto
enum_value_descriptor_proto_fields =
    optional 1 (codes "name") string
    ∷ optional 2 (codes "number") int32
    ∷ optional 3 (codes "options") (message (codes "EnumValueOptions"))
    ∷ []

-- EnumValueDescriptorProto
abbrev pub enum_value_descriptor_proto_type : Message
enum_value_descriptor_proto_type = type (codes "EnumValueDescriptorProto") enum_value_descriptor_proto_fields [] plain

-- the fields of ServiceDescriptorProto
abbrev pub service_descriptor_proto_fields : List FieldDescriptorProto
service_descriptor_proto_fields =
    optional 1 (codes "name") string
    ∷ repeated 2 (codes "method") (message (codes "MethodDescriptorProto"))
    ∷ optional 3 (codes "options") (message (codes "ServiceOptions"))
    ∷ []

-- ServiceDescriptorProto
abbrev pub service_descriptor_proto_type : Message
service_descriptor_proto_type = type (codes "ServiceDescriptorProto") service_descriptor_proto_fields [] plain

-- the fields of MethodDescriptorProto
abbrev pub method_descriptor_proto_fields : List FieldDescriptorProto
method_descriptor_proto_fields =
    optional 1 (codes "name") string
    ∷ optional 2 (codes "input_type") string
    ∷ optional 3 (codes "output_type") string
    ∷ optional 4 (codes "options") (message (codes "MethodOptions"))
    ∷ with_default (codes "false") (optional 5 (codes "client_streaming") bool)
    ∷ with_default (codes "false") (optional 6 (codes "server_streaming") bool)
    ∷ []

-- MethodDescriptorProto
abbrev pub method_descriptor_proto_type : Message
method_descriptor_proto_type = type (codes "MethodDescriptorProto") method_descriptor_proto_fields [] plain

-- the values of FileOptions.OptimizeMode
abbrev pub file_options_optimize_mode_values : List (List ℕ × ℕ)
file_options_optimize_mode_values =
    (codes "SPEED", 1) ∷ (codes "CODE_SIZE", 2) ∷ (codes "LITE_RUNTIME", 3) ∷ []

-- the fields of FileOptions
abbrev pub file_options_fields : List FieldDescriptorProto
file_options_fields =
    optional 1 (codes "java_package") string
    ∷ optional 8 (codes "java_outer_classname") string
    ∷ with_default (codes "false") (optional 10 (codes "java_multiple_files") bool)
    ∷ with_options (number_option 3 1 ∷ []) (optional 20 (codes "java_generate_equals_and_hash") bool)
    ∷ with_default (codes "false") (optional 27 (codes "java_string_check_utf8") bool)
    ∷ with_default (codes "SPEED") (optional 9 (codes "optimize_for") (enum (codes "FileOptions.OptimizeMode")))
    ∷ optional 11 (codes "go_package") string
    ∷ with_default (codes "false") (optional 16 (codes "cc_generic_services") bool)
    ∷ with_default (codes "false") (optional 17 (codes "java_generic_services") bool)
    ∷ with_default (codes "false") (optional 18 (codes "py_generic_services") bool)
    ∷ with_default (codes "false") (optional 42 (codes "php_generic_services") bool)
    ∷ with_default (codes "false") (optional 23 (codes "deprecated") bool)
    ∷ with_default (codes "true") (optional 31 (codes "cc_enable_arenas") bool)
    ∷ optional 36 (codes "objc_class_prefix") string
    ∷ optional 37 (codes "csharp_namespace") string
    ∷ optional 39 (codes "swift_prefix") string
    ∷ optional 40 (codes "php_class_prefix") string
    ∷ optional 41 (codes "php_namespace") string
    ∷ optional 44 (codes "php_metadata_namespace") string
    ∷ optional 45 (codes "ruby_package") string
    ∷ optional 50 (codes "features") (message (codes "FeatureSet"))
    ∷ uninterpreted
    ∷ []

-- FileOptions
abbrev pub file_options_type : Message
file_options_type =
    type (codes "FileOptions") file_options_fields
    (an_enum (codes "OptimizeMode") file_options_optimize_mode_values ∷ [])
    (ranged (extensions ∷ []) ((38, 39) ∷ []))

-- the fields of MessageOptions
abbrev pub message_options_fields : List FieldDescriptorProto
message_options_fields =
    with_default (codes "false") (optional 1 (codes "message_set_wire_format") bool)
    ∷ with_default (codes "false") (optional 2 (codes "no_standard_descriptor_accessor") bool)
    ∷ with_default (codes "false") (optional 3 (codes "deprecated") bool)
    ∷ optional 7 (codes "map_entry") bool
    ∷ with_options (number_option 3 1 ∷ []) (optional 11 (codes "deprecated_legacy_json_field_conflicts") bool)
    ∷ optional 12 (codes "features") (message (codes "FeatureSet"))
    ∷ uninterpreted
    ∷ []

-- MessageOptions
abbrev pub message_options_type : Message
message_options_type =
    type (codes "MessageOptions") message_options_fields
    []
    (ranged (extensions ∷ []) ((4, 5) ∷ (5, 6) ∷ (6, 7) ∷ (8, 9) ∷ (9, 10) ∷ []))

-- the fields of FieldOptions.EditionDefault
abbrev pub field_options_edition_default_fields : List FieldDescriptorProto
field_options_edition_default_fields =
    optional 3 (codes "edition") (enum (codes "Edition"))
    ∷ optional 2 (codes "value") string
    ∷ []

-- FieldOptions.EditionDefault
abbrev pub field_options_edition_default_type : Message
field_options_edition_default_type = type (codes "EditionDefault") field_options_edition_default_fields [] plain

-- the values of FieldOptions.CType
abbrev pub field_options_ctype_values : List (List ℕ × ℕ)
field_options_ctype_values =
    (codes "STRING", 0) ∷ (codes "CORD", 1) ∷ (codes "STRING_PIECE", 2) ∷ []

-- the values of FieldOptions.JSType
abbrev pub field_options_jstype_values : List (List ℕ × ℕ)
field_options_jstype_values =
    (codes "JS_NORMAL", 0) ∷ (codes "JS_STRING", 1) ∷ (codes "JS_NUMBER", 2) ∷ []

-- the values of FieldOptions.OptionRetention
abbrev pub field_options_option_retention_values : List (List ℕ × ℕ)
field_options_option_retention_values =
    (codes "RETENTION_UNKNOWN", 0) ∷ (codes "RETENTION_RUNTIME", 1) ∷ (codes "RETENTION_SOURCE", 2) ∷ []

-- the values of FieldOptions.OptionTargetType
abbrev pub field_options_option_target_type_values : List (List ℕ × ℕ)
field_options_option_target_type_values =
    (codes "TARGET_TYPE_UNKNOWN", 0) ∷ (codes "TARGET_TYPE_FILE", 1) ∷ (codes "TARGET_TYPE_EXTENSION_RANGE", 2) ∷
    (codes "TARGET_TYPE_MESSAGE", 3) ∷ (codes "TARGET_TYPE_FIELD", 4) ∷ (codes "TARGET_TYPE_ONEOF", 5) ∷ (codes "TARGET_TYPE_ENUM", 6) ∷
    (codes "TARGET_TYPE_ENUM_ENTRY", 7) ∷ (codes "TARGET_TYPE_SERVICE", 8) ∷ (codes "TARGET_TYPE_METHOD", 9) ∷ []

-- the fields of FieldOptions
abbrev pub field_options_fields : List FieldDescriptorProto
field_options_fields =
    with_default (codes "STRING") (optional 1 (codes "ctype") (enum (codes "FieldOptions.CType")))
    ∷ optional 2 (codes "packed") bool
    ∷ with_default (codes "JS_NORMAL") (optional 6 (codes "jstype") (enum (codes "FieldOptions.JSType")))
    ∷ with_default (codes "false") (optional 5 (codes "lazy") bool)
    ∷ with_default (codes "false") (optional 15 (codes "unverified_lazy") bool)
    ∷ with_default (codes "false") (optional 3 (codes "deprecated") bool)
    ∷ with_default (codes "false") (optional 10 (codes "weak") bool)
    ∷ with_default (codes "false") (optional 16 (codes "debug_redact") bool)
    ∷ optional 17 (codes "retention") (enum (codes "FieldOptions.OptionRetention"))
    ∷ repeated 19 (codes "targets") (enum (codes "FieldOptions.OptionTargetType"))
    ∷ repeated 20 (codes "edition_defaults") (message (codes "FieldOptions.EditionDefault"))
    ∷ optional 21 (codes "features") (message (codes "FeatureSet"))
    ∷ uninterpreted
    ∷ []

-- FieldOptions
abbrev pub field_options_type : Message
field_options_type =
    type (codes "FieldOptions") field_options_fields
    (
    an_enum (codes "CType") field_options_ctype_values
    ∷ an_enum (codes "JSType") field_options_jstype_values
    ∷ an_enum (codes "OptionRetention") field_options_option_retention_values
    ∷ an_enum (codes "OptionTargetType") field_options_option_target_type_values
    ∷ []
    )
    (ranged (extensions ∷ []) ((4, 5) ∷ (18, 19) ∷ []))

-- the fields of OneofOptions
abbrev pub oneof_options_fields : List FieldDescriptorProto
oneof_options_fields =
    optional 1 (codes "features") (message (codes "FeatureSet"))
    ∷ uninterpreted
    ∷ []

-- OneofOptions
abbrev pub oneof_options_type : Message
oneof_options_type = type (codes "OneofOptions") oneof_options_fields [] (ranged (extensions ∷ []) [])

-- the fields of EnumOptions
abbrev pub enum_options_fields : List FieldDescriptorProto
enum_options_fields =
    optional 2 (codes "allow_alias") bool
    ∷ with_default (codes "false") (optional 3 (codes "deprecated") bool)
    ∷ with_options (number_option 3 1 ∷ []) (optional 6 (codes "deprecated_legacy_json_field_conflicts") bool)
    ∷ optional 7 (codes "features") (message (codes "FeatureSet"))
    ∷ uninterpreted
    ∷ []

-- EnumOptions
abbrev pub enum_options_type : Message
enum_options_type = type (codes "EnumOptions") enum_options_fields [] (ranged (extensions ∷ []) ((5, 6) ∷ []))

-- the fields of EnumValueOptions
abbrev pub enum_value_options_fields : List FieldDescriptorProto
enum_value_options_fields =
    with_default (codes "false") (optional 1 (codes "deprecated") bool)
    ∷ optional 2 (codes "features") (message (codes "FeatureSet"))
    ∷ with_default (codes "false") (optional 3 (codes "debug_redact") bool)
    ∷ uninterpreted
    ∷ []

-- EnumValueOptions
abbrev pub enum_value_options_type : Message
enum_value_options_type = type (codes "EnumValueOptions") enum_value_options_fields [] (ranged (extensions ∷ []) [])

-- the fields of ServiceOptions
abbrev pub service_options_fields : List FieldDescriptorProto
service_options_fields =
    optional 34 (codes "features") (message (codes "FeatureSet"))
    ∷ with_default (codes "false") (optional 33 (codes "deprecated") bool)
    ∷ uninterpreted
    ∷ []

-- ServiceOptions
abbrev pub service_options_type : Message
service_options_type = type (codes "ServiceOptions") service_options_fields [] (ranged (extensions ∷ []) [])

-- the values of MethodOptions.IdempotencyLevel
abbrev pub method_options_idempotency_level_values : List (List ℕ × ℕ)
method_options_idempotency_level_values =
    (codes "IDEMPOTENCY_UNKNOWN", 0) ∷ (codes "NO_SIDE_EFFECTS", 1) ∷ (codes "IDEMPOTENT", 2) ∷ []

-- the fields of MethodOptions
abbrev pub method_options_fields : List FieldDescriptorProto
method_options_fields =
    with_default (codes "false") (optional 33 (codes "deprecated") bool)
    ∷ with_default (codes "IDEMPOTENCY_UNKNOWN") (optional 34 (codes "idempotency_level") (enum (codes "MethodOptions.IdempotencyLevel")))
    ∷ optional 35 (codes "features") (message (codes "FeatureSet"))
    ∷ uninterpreted
    ∷ []

-- MethodOptions
abbrev pub method_options_type : Message
method_options_type =
    type (codes "MethodOptions") method_options_fields
    (an_enum (codes "IdempotencyLevel") method_options_idempotency_level_values ∷ [])
    (ranged (extensions ∷ []) [])

-- the fields of UninterpretedOption.NamePart
abbrev pub uninterpreted_option_name_part_fields : List FieldDescriptorProto
uninterpreted_option_name_part_fields =
    required 1 (codes "name_part") string
    ∷ required 2 (codes "is_extension") bool
    ∷ []

-- UninterpretedOption.NamePart
abbrev pub uninterpreted_option_name_part_type : Message
uninterpreted_option_name_part_type = type (codes "NamePart") uninterpreted_option_name_part_fields [] plain

-- the fields of UninterpretedOption
abbrev pub uninterpreted_option_fields : List FieldDescriptorProto
uninterpreted_option_fields =
    repeated 2 (codes "name") (message (codes "UninterpretedOption.NamePart"))
    ∷ optional 3 (codes "identifier_value") string
    ∷ optional 4 (codes "positive_int_value") uint64
    ∷ optional 5 (codes "negative_int_value") int64
    ∷ optional 6 (codes "double_value") double
    ∷ optional 7 (codes "string_value") bytes
    ∷ optional 8 (codes "aggregate_value") string
    ∷ []

-- UninterpretedOption
abbrev pub uninterpreted_option_type : Message
uninterpreted_option_type = type (codes "UninterpretedOption") uninterpreted_option_fields [] plain

-- the values of FeatureSet.FieldPresence
abbrev pub feature_set_field_presence_values : List (List ℕ × ℕ)
feature_set_field_presence_values =
    (codes "FIELD_PRESENCE_UNKNOWN", 0) ∷ (codes "EXPLICIT", 1) ∷ (codes "IMPLICIT", 2) ∷ (codes "LEGACY_REQUIRED", 3) ∷ []

-- the values of FeatureSet.EnumType
abbrev pub feature_set_enum_type_values : List (List ℕ × ℕ)
feature_set_enum_type_values =
    (codes "ENUM_TYPE_UNKNOWN", 0) ∷ (codes "OPEN", 1) ∷ (codes "CLOSED", 2) ∷ []

-- the values of FeatureSet.RepeatedFieldEncoding
abbrev pub feature_set_repeated_field_encoding_values : List (List ℕ × ℕ)
feature_set_repeated_field_encoding_values =
    (codes "REPEATED_FIELD_ENCODING_UNKNOWN", 0) ∷ (codes "PACKED", 1) ∷ (codes "EXPANDED", 2) ∷ []

-- the values of FeatureSet.Utf8Validation
abbrev pub feature_set_utf8_validation_values : List (List ℕ × ℕ)
feature_set_utf8_validation_values =
    (codes "UTF8_VALIDATION_UNKNOWN", 0) ∷ (codes "NONE", 1) ∷ (codes "VERIFY", 2) ∷ []

-- the values of FeatureSet.MessageEncoding
abbrev pub feature_set_message_encoding_values : List (List ℕ × ℕ)
feature_set_message_encoding_values =
    (codes "MESSAGE_ENCODING_UNKNOWN", 0) ∷ (codes "LENGTH_PREFIXED", 1) ∷ (codes "DELIMITED", 2) ∷ []

-- the values of FeatureSet.JsonFormat
abbrev pub feature_set_json_format_values : List (List ℕ × ℕ)
feature_set_json_format_values =
    (codes "JSON_FORMAT_UNKNOWN", 0) ∷ (codes "ALLOW", 1) ∷ (codes "LEGACY_BEST_EFFORT", 2) ∷ []

-- the fields of FeatureSet
abbrev pub feature_set_fields : List FieldDescriptorProto
feature_set_fields =
    with_options [] (optional 1 (codes "field_presence") (enum (codes "FeatureSet.FieldPresence")))
    ∷ with_options [] (optional 2 (codes "enum_type") (enum (codes "FeatureSet.EnumType")))
    ∷ with_options [] (optional 3 (codes "repeated_field_encoding") (enum (codes "FeatureSet.RepeatedFieldEncoding")))
    ∷ with_options [] (optional 4 (codes "utf8_validation") (enum (codes "FeatureSet.Utf8Validation")))
    ∷ with_options [] (optional 5 (codes "message_encoding") (enum (codes "FeatureSet.MessageEncoding")))
    ∷ with_options [] (optional 6 (codes "json_format") (enum (codes "FeatureSet.JsonFormat")))
    ∷ []

-- FeatureSet
abbrev pub feature_set_type : Message
feature_set_type =
    type (codes "FeatureSet") feature_set_fields
    (
    an_enum (codes "FieldPresence") feature_set_field_presence_values
    ∷ an_enum (codes "EnumType") feature_set_enum_type_values
    ∷ an_enum (codes "RepeatedFieldEncoding") feature_set_repeated_field_encoding_values
    ∷ an_enum (codes "Utf8Validation") feature_set_utf8_validation_values
    ∷ an_enum (codes "MessageEncoding") feature_set_message_encoding_values
    ∷ an_enum (codes "JsonFormat") feature_set_json_format_values
    ∷ []
    )
    (ranged ((1000, 1001) ∷ (1001, 1002) ∷ (9995, 10000) ∷ []) ((999, 1000) ∷ []))

-- the fields of FeatureSetDefaults.FeatureSetEditionDefault
abbrev pub feature_set_defaults_feature_set_edition_default_fields : List FieldDescriptorProto
feature_set_defaults_feature_set_edition_default_fields =
    optional 3 (codes "edition") (enum (codes "Edition"))
    ∷ optional 2 (codes "features") (message (codes "FeatureSet"))
    ∷ []

-- FeatureSetDefaults.FeatureSetEditionDefault
abbrev pub feature_set_defaults_feature_set_edition_default_type : Message
feature_set_defaults_feature_set_edition_default_type =
    type (codes "FeatureSetEditionDefault") feature_set_defaults_feature_set_edition_default_fields
    []
    plain

-- the fields of FeatureSetDefaults
abbrev pub feature_set_defaults_fields : List FieldDescriptorProto
feature_set_defaults_fields =
    repeated 1 (codes "defaults") (message (codes "FeatureSetDefaults.FeatureSetEditionDefault"))
    ∷ optional 4 (codes "minimum_edition") (enum (codes "Edition"))
    ∷ optional 5 (codes "maximum_edition") (enum (codes "Edition"))
    ∷ []

-- FeatureSetDefaults
abbrev pub feature_set_defaults_type : Message
feature_set_defaults_type = type (codes "FeatureSetDefaults") feature_set_defaults_fields [] plain

-- the fields of SourceCodeInfo.Location
abbrev pub source_code_info_location_fields : List FieldDescriptorProto
source_code_info_location_fields =
    with_options (number_option 2 1 ∷ []) (repeated 1 (codes "path") int32)
    ∷ with_options (number_option 2 1 ∷ []) (repeated 2 (codes "span") int32)
    ∷ optional 3 (codes "leading_comments") string
    ∷ optional 4 (codes "trailing_comments") string
    ∷ repeated 6 (codes "leading_detached_comments") string
    ∷ []

-- SourceCodeInfo.Location
abbrev pub source_code_info_location_type : Message
source_code_info_location_type = type (codes "Location") source_code_info_location_fields [] plain

-- the fields of SourceCodeInfo
abbrev pub source_code_info_fields : List FieldDescriptorProto
source_code_info_fields =
    repeated 1 (codes "location") (message (codes "SourceCodeInfo.Location"))
    ∷ []

-- SourceCodeInfo
abbrev pub source_code_info_type : Message
source_code_info_type = type (codes "SourceCodeInfo") source_code_info_fields [] plain

-- the values of GeneratedCodeInfo.Annotation.Semantic
abbrev pub generated_code_info_annotation_semantic_values : List (List ℕ × ℕ)
generated_code_info_annotation_semantic_values =
    (codes "NONE", 0) ∷ (codes "SET", 1) ∷ (codes "ALIAS", 2) ∷ []

-- the fields of GeneratedCodeInfo.Annotation
abbrev pub generated_code_info_annotation_fields : List FieldDescriptorProto
generated_code_info_annotation_fields =
    with_options (number_option 2 1 ∷ []) (repeated 1 (codes "path") int32)
    ∷ optional 2 (codes "source_file") string
    ∷ optional 3 (codes "begin") int32
    ∷ optional 4 (codes "end") int32
    ∷ optional 5 (codes "semantic") (enum (codes "GeneratedCodeInfo.Annotation.Semantic"))
    ∷ []

-- GeneratedCodeInfo.Annotation
abbrev pub generated_code_info_annotation_type : Message
generated_code_info_annotation_type =
    type (codes "Annotation") generated_code_info_annotation_fields
    (an_enum (codes "Semantic") generated_code_info_annotation_semantic_values ∷ [])
    plain

-- the fields of GeneratedCodeInfo
abbrev pub generated_code_info_fields : List FieldDescriptorProto
generated_code_info_fields =
    repeated 1 (codes "annotation") (message (codes "GeneratedCodeInfo.Annotation"))
    ∷ []

-- GeneratedCodeInfo
abbrev pub generated_code_info_type : Message
generated_code_info_type = type (codes "GeneratedCodeInfo") generated_code_info_fields [] plain

-- the values of Edition
abbrev pub edition_values : List (List ℕ × ℕ)
edition_values =
    (codes "EDITION_UNKNOWN", 0) ∷ (codes "EDITION_PROTO2", 998) ∷ (codes "EDITION_PROTO3", 999) ∷ (codes "EDITION_2023", 1000) ∷
    (codes "EDITION_1_TEST_ONLY", 1) ∷ (codes "EDITION_2_TEST_ONLY", 2) ∷ (codes "EDITION_99997_TEST_ONLY", 99997) ∷
    (codes "EDITION_99998_TEST_ONLY", 99998) ∷ (codes "EDITION_99999_TEST_ONLY", 99999) ∷ []

-- messages of google/protobuf/descriptor.proto: files and what stands in them
unfoldable pub descriptor_files : List Top
descriptor_files =
    top file_descriptor_set_type []
    ∷ top file_descriptor_proto_type []
    ∷ top descriptor_proto_type (descriptor_proto_extension_range_type ∷ descriptor_proto_reserved_range_type ∷ [])
    ∷ top extension_range_options_type (extension_range_options_declaration_type ∷ [])
    ∷ []

-- messages of google/protobuf/descriptor.proto: fields, oneofs, enums and services
unfoldable pub descriptor_members : List Top
descriptor_members =
    top field_descriptor_proto_type []
    ∷ top oneof_descriptor_proto_type []
    ∷ top enum_descriptor_proto_type (enum_descriptor_proto_enum_reserved_range_type ∷ [])
    ∷ top enum_value_descriptor_proto_type []
    ∷ top service_descriptor_proto_type []
    ∷ top method_descriptor_proto_type []
    ∷ []

-- messages of google/protobuf/descriptor.proto: options of files and messages
unfoldable pub descriptor_file_options : List Top
descriptor_file_options =
    top file_options_type []
    ∷ top message_options_type []
    ∷ []

-- messages of google/protobuf/descriptor.proto: options of other parts
unfoldable pub descriptor_field_options : List Top
descriptor_field_options =
    top field_options_type (field_options_edition_default_type ∷ [])
    ∷ top oneof_options_type []
    ∷ top enum_options_type []
    ∷ top enum_value_options_type []
    ∷ top service_options_type []
    ∷ top method_options_type []
    ∷ []

-- messages of google/protobuf/descriptor.proto: features and source info
unfoldable pub descriptor_features : List Top
descriptor_features =
    top uninterpreted_option_type (uninterpreted_option_name_part_type ∷ [])
    ∷ top feature_set_type []
    ∷ top feature_set_defaults_type (feature_set_defaults_feature_set_edition_default_type ∷ [])
    ∷ top source_code_info_type (source_code_info_location_type ∷ [])
    ∷ top generated_code_info_type (generated_code_info_annotation_type ∷ [])
    ∷ []

-- google/protobuf/descriptor.proto
abbrev pub descriptor_file : File
descriptor_file =
    file (codes "google/protobuf/descriptor.proto") (codes "google.protobuf")
    []
    (descriptor_files ++ descriptor_members ++ descriptor_file_options ++ descriptor_field_options ++ descriptor_features)
    (an_enum (codes "Edition") edition_values ∷ [])
    (
    text_option 1 (codes "com.google.protobuf")
    ∷ text_option 8 (codes "DescriptorProtos")
    ∷ number_option 9 1
    ∷ text_option 11 (codes "google.golang.org/protobuf/types/descriptorpb")
    ∷ number_option 31 1
    ∷ text_option 36 (codes "GPB")
    ∷ text_option 37 (codes "Google.Protobuf.Reflection")
    ∷ []
    )
    None

-- ---- google/protobuf/duration.proto

-- the fields of Duration
abbrev pub duration_fields : List FieldDescriptorProto
duration_fields =
    optional 1 (codes "seconds") int64
    ∷ optional 2 (codes "nanos") int32
    ∷ []

-- Duration
abbrev pub duration_type : Message
duration_type = type (codes "Duration") duration_fields [] plain

-- google/protobuf/duration.proto
abbrev pub duration_file : File
duration_file =
    file (codes "google/protobuf/duration.proto") (codes "google.protobuf")
    []
    (
    top duration_type []
    ∷ []
    )
    []
    (
    text_option 1 (codes "com.google.protobuf")
    ∷ text_option 8 (codes "DurationProto")
    ∷ number_option 10 1
    ∷ text_option 11 (codes "google.golang.org/protobuf/types/known/durationpb")
    ∷ number_option 31 1
    ∷ text_option 36 (codes "GPB")
    ∷ text_option 37 (codes "Google.Protobuf.WellKnownTypes")
    ∷ []
    )
    (Some (codes "proto3"))

-- ---- google/protobuf/empty.proto

-- the fields of Empty
abbrev pub empty_fields : List FieldDescriptorProto
empty_fields = []

-- Empty
abbrev pub empty_type : Message
empty_type = type (codes "Empty") empty_fields [] plain

-- google/protobuf/empty.proto
abbrev pub empty_file : File
empty_file =
    file (codes "google/protobuf/empty.proto") (codes "google.protobuf")
    []
    (
    top empty_type []
    ∷ []
    )
    []
    (
    text_option 1 (codes "com.google.protobuf")
    ∷ text_option 8 (codes "EmptyProto")
    ∷ number_option 10 1
    ∷ text_option 11 (codes "google.golang.org/protobuf/types/known/emptypb")
    ∷ number_option 31 1
    ∷ text_option 36 (codes "GPB")
    ∷ text_option 37 (codes "Google.Protobuf.WellKnownTypes")
    ∷ []
    )
    (Some (codes "proto3"))

-- ---- google/protobuf/field_mask.proto

-- the fields of FieldMask
abbrev pub field_mask_fields : List FieldDescriptorProto
field_mask_fields =
    repeated 1 (codes "paths") string
    ∷ []

-- FieldMask
abbrev pub field_mask_type : Message
field_mask_type = type (codes "FieldMask") field_mask_fields [] plain

-- google/protobuf/field_mask.proto
abbrev pub field_mask_file : File
field_mask_file =
    file (codes "google/protobuf/field_mask.proto") (codes "google.protobuf")
    []
    (
    top field_mask_type []
    ∷ []
    )
    []
    (
    text_option 1 (codes "com.google.protobuf")
    ∷ text_option 8 (codes "FieldMaskProto")
    ∷ number_option 10 1
    ∷ text_option 11 (codes "google.golang.org/protobuf/types/known/fieldmaskpb")
    ∷ number_option 31 1
    ∷ text_option 36 (codes "GPB")
    ∷ text_option 37 (codes "Google.Protobuf.WellKnownTypes")
    ∷ []
    )
    (Some (codes "proto3"))

-- ---- google/protobuf/struct.proto

-- the fields of Struct.FieldsEntry
abbrev pub struct_fields_entry_fields : List FieldDescriptorProto
struct_fields_entry_fields =
    optional 1 (codes "key") string
    ∷ optional 2 (codes "value") (message (codes "Value"))
    ∷ []

-- Struct.FieldsEntry
abbrev pub struct_fields_entry_type : Message
struct_fields_entry_type = type (codes "FieldsEntry") struct_fields_entry_fields [] (optioned (number_option 7 1 ∷ []))

-- the fields of Struct
abbrev pub struct_fields : List FieldDescriptorProto
struct_fields =
    repeated 1 (codes "fields") (message (codes "Struct.FieldsEntry"))
    ∷ []

-- Struct
abbrev pub struct_type : Message
struct_type = type (codes "Struct") struct_fields [] plain

-- the fields of Value
abbrev pub value_fields : List FieldDescriptorProto
value_fields =
    member 0 (optional 1 (codes "null_value") (enum (codes "NullValue")))
    ∷ member 0 (optional 2 (codes "number_value") double)
    ∷ member 0 (optional 3 (codes "string_value") string)
    ∷ member 0 (optional 4 (codes "bool_value") bool)
    ∷ member 0 (optional 5 (codes "struct_value") (message (codes "Struct")))
    ∷ member 0 (optional 6 (codes "list_value") (message (codes "ListValue")))
    ∷ []

-- Value
abbrev pub value_type : Message
value_type = type (codes "Value") value_fields [] (choosing (codes "kind" ∷ []))

-- the fields of ListValue
abbrev pub list_value_fields : List FieldDescriptorProto
list_value_fields =
    repeated 1 (codes "values") (message (codes "Value"))
    ∷ []

-- ListValue
abbrev pub list_value_type : Message
list_value_type = type (codes "ListValue") list_value_fields [] plain

-- the values of NullValue
abbrev pub null_value_values : List (List ℕ × ℕ)
null_value_values =
    (codes "NULL_VALUE", 0) ∷ []

-- google/protobuf/struct.proto
abbrev pub struct_file : File
struct_file =
    file (codes "google/protobuf/struct.proto") (codes "google.protobuf")
    []
    (
    top struct_type (struct_fields_entry_type ∷ [])
    ∷ top value_type []
    ∷ top list_value_type []
    ∷ []
    )
    (an_enum (codes "NullValue") null_value_values ∷ [])
    (
    text_option 1 (codes "com.google.protobuf")
    ∷ text_option 8 (codes "StructProto")
    ∷ number_option 10 1
    ∷ text_option 11 (codes "google.golang.org/protobuf/types/known/structpb")
    ∷ number_option 31 1
    ∷ text_option 36 (codes "GPB")
    ∷ text_option 37 (codes "Google.Protobuf.WellKnownTypes")
    ∷ []
    )
    (Some (codes "proto3"))

-- ---- google/protobuf/timestamp.proto

-- the fields of Timestamp
abbrev pub timestamp_fields : List FieldDescriptorProto
timestamp_fields =
    optional 1 (codes "seconds") int64
    ∷ optional 2 (codes "nanos") int32
    ∷ []

-- Timestamp
abbrev pub timestamp_type : Message
timestamp_type = type (codes "Timestamp") timestamp_fields [] plain

-- google/protobuf/timestamp.proto
abbrev pub timestamp_file : File
timestamp_file =
    file (codes "google/protobuf/timestamp.proto") (codes "google.protobuf")
    []
    (
    top timestamp_type []
    ∷ []
    )
    []
    (
    text_option 1 (codes "com.google.protobuf")
    ∷ text_option 8 (codes "TimestampProto")
    ∷ number_option 10 1
    ∷ text_option 11 (codes "google.golang.org/protobuf/types/known/timestamppb")
    ∷ number_option 31 1
    ∷ text_option 36 (codes "GPB")
    ∷ text_option 37 (codes "Google.Protobuf.WellKnownTypes")
    ∷ []
    )
    (Some (codes "proto3"))

-- ---- google/protobuf/wrappers.proto

-- the fields of DoubleValue
abbrev pub double_value_fields : List FieldDescriptorProto
double_value_fields =
    optional 1 (codes "value") double
    ∷ []

-- DoubleValue
abbrev pub double_value_type : Message
double_value_type = type (codes "DoubleValue") double_value_fields [] plain

-- the fields of FloatValue
abbrev pub float_value_fields : List FieldDescriptorProto
float_value_fields =
    optional 1 (codes "value") float
    ∷ []

-- FloatValue
abbrev pub float_value_type : Message
float_value_type = type (codes "FloatValue") float_value_fields [] plain

-- the fields of Int64Value
abbrev pub int64_value_fields : List FieldDescriptorProto
int64_value_fields =
    optional 1 (codes "value") int64
    ∷ []

-- Int64Value
abbrev pub int64_value_type : Message
int64_value_type = type (codes "Int64Value") int64_value_fields [] plain

-- the fields of UInt64Value
abbrev pub uint64_value_fields : List FieldDescriptorProto
uint64_value_fields =
    optional 1 (codes "value") uint64
    ∷ []

-- UInt64Value
abbrev pub uint64_value_type : Message
uint64_value_type = type (codes "UInt64Value") uint64_value_fields [] plain

-- the fields of Int32Value
abbrev pub int32_value_fields : List FieldDescriptorProto
int32_value_fields =
    optional 1 (codes "value") int32
    ∷ []

-- Int32Value
abbrev pub int32_value_type : Message
int32_value_type = type (codes "Int32Value") int32_value_fields [] plain

-- the fields of UInt32Value
abbrev pub uint32_value_fields : List FieldDescriptorProto
uint32_value_fields =
    optional 1 (codes "value") uint32
    ∷ []

-- UInt32Value
abbrev pub uint32_value_type : Message
uint32_value_type = type (codes "UInt32Value") uint32_value_fields [] plain

-- the fields of BoolValue
abbrev pub bool_value_fields : List FieldDescriptorProto
bool_value_fields =
    optional 1 (codes "value") bool
    ∷ []

-- BoolValue
abbrev pub bool_value_type : Message
bool_value_type = type (codes "BoolValue") bool_value_fields [] plain

-- the fields of StringValue
abbrev pub string_value_fields : List FieldDescriptorProto
string_value_fields =
    optional 1 (codes "value") string
    ∷ []

-- StringValue
abbrev pub string_value_type : Message
string_value_type = type (codes "StringValue") string_value_fields [] plain

-- the fields of BytesValue
abbrev pub bytes_value_fields : List FieldDescriptorProto
bytes_value_fields =
    optional 1 (codes "value") bytes
    ∷ []

-- BytesValue
abbrev pub bytes_value_type : Message
bytes_value_type = type (codes "BytesValue") bytes_value_fields [] plain

-- google/protobuf/wrappers.proto
abbrev pub wrappers_file : File
wrappers_file =
    file (codes "google/protobuf/wrappers.proto") (codes "google.protobuf")
    []
    (
    top double_value_type []
    ∷ top float_value_type []
    ∷ top int64_value_type []
    ∷ top uint64_value_type []
    ∷ top int32_value_type []
    ∷ top uint32_value_type []
    ∷ top bool_value_type []
    ∷ top string_value_type []
    ∷ top bytes_value_type []
    ∷ []
    )
    []
    (
    text_option 1 (codes "com.google.protobuf")
    ∷ text_option 8 (codes "WrappersProto")
    ∷ number_option 10 1
    ∷ text_option 11 (codes "google.golang.org/protobuf/types/known/wrapperspb")
    ∷ number_option 31 1
    ∷ text_option 36 (codes "GPB")
    ∷ text_option 37 (codes "Google.Protobuf.WellKnownTypes")
    ∷ []
    )
    (Some (codes "proto3"))

-- ---- google/protobuf/compiler/plugin.proto

-- the fields of Version
abbrev pub version_fields : List FieldDescriptorProto
version_fields =
    optional 1 (codes "major") int32
    ∷ optional 2 (codes "minor") int32
    ∷ optional 3 (codes "patch") int32
    ∷ optional 4 (codes "suffix") string
    ∷ []

-- Version
abbrev pub version_type : Message
version_type = type (codes "Version") version_fields [] plain

-- the fields of CodeGeneratorRequest
abbrev pub code_generator_request_fields : List FieldDescriptorProto
code_generator_request_fields =
    repeated 1 (codes "file_to_generate") string
    ∷ optional 2 (codes "parameter") string
    ∷ repeated 15 (codes "proto_file") (message (codes "FileDescriptorProto"))
    ∷ repeated 17 (codes "source_file_descriptors") (message (codes "FileDescriptorProto"))
    ∷ optional 3 (codes "compiler_version") (message (codes "compiler.Version"))
    ∷ []

-- CodeGeneratorRequest
abbrev pub code_generator_request_type : Message
code_generator_request_type = type (codes "CodeGeneratorRequest") code_generator_request_fields [] plain

-- the fields of CodeGeneratorResponse.File
abbrev pub code_generator_response_file_fields : List FieldDescriptorProto
code_generator_response_file_fields =
    optional 1 (codes "name") string
    ∷ optional 2 (codes "insertion_point") string
    ∷ optional 15 (codes "content") string
    ∷ optional 16 (codes "generated_code_info") (message (codes "GeneratedCodeInfo"))
    ∷ []

-- CodeGeneratorResponse.File
abbrev pub code_generator_response_file_type : Message
code_generator_response_file_type = type (codes "File") code_generator_response_file_fields [] plain

-- the values of CodeGeneratorResponse.Feature
abbrev pub code_generator_response_feature_values : List (List ℕ × ℕ)
code_generator_response_feature_values =
    (codes "FEATURE_NONE", 0) ∷ (codes "FEATURE_PROTO3_OPTIONAL", 1) ∷ (codes "FEATURE_SUPPORTS_EDITIONS", 2) ∷ []

-- the fields of CodeGeneratorResponse
abbrev pub code_generator_response_fields : List FieldDescriptorProto
code_generator_response_fields =
    optional 1 (codes "error") string
    ∷ optional 2 (codes "supported_features") uint64
    ∷ repeated 15 (codes "file") (message (codes "compiler.CodeGeneratorResponse.File"))
    ∷ []

-- CodeGeneratorResponse
abbrev pub code_generator_response_type : Message
code_generator_response_type =
    type (codes "CodeGeneratorResponse") code_generator_response_fields
    (an_enum (codes "Feature") code_generator_response_feature_values ∷ [])
    plain

-- google/protobuf/compiler/plugin.proto
abbrev pub plugin_file : File
plugin_file =
    file (codes "google/protobuf/compiler/plugin.proto") (codes "google.protobuf.compiler")
    (codes "google/protobuf/descriptor.proto" ∷ [])
    (
    top version_type []
    ∷ top code_generator_request_type []
    ∷ top code_generator_response_type (code_generator_response_file_type ∷ [])
    ∷ []
    )
    []
    (
    text_option 1 (codes "com.google.protobuf.compiler")
    ∷ text_option 8 (codes "PluginProtos")
    ∷ text_option 11 (codes "google.golang.org/protobuf/types/pluginpb")
    ∷ text_option 37 (codes "Google.Protobuf.Compiler")
    ∷ []
    )
    None

-- the files, each behind those that it imports
unfoldable pub wkt_rows : List File
wkt_rows =
    any_file
    ∷ source_context_file
    ∷ type_file
    ∷ api_file
    ∷ descriptor_file
    ∷ duration_file
    ∷ empty_file
    ∷ field_mask_file
    ∷ struct_file
    ∷ timestamp_file
    ∷ wrappers_file
    ∷ plugin_file
    ∷ []

-- their records
unfoldable pub wkt_files : List FileDescriptorProto
wkt_files = map file_record wkt_rows

-- the record of the file of exactly this name, such as `google/protobuf/any.proto`
abbrev pub wkt_file_named : List ℕ → Option FileDescriptorProto
wkt_file_named name = find (λ (f : FileDescriptorProto). is_named f.name name) wkt_files
