-- Records in which nothing stands beside what they hold as messages: each unknown record, of them and of the records in them, may be written.
use Rattle.std.specs.Prelude.{List, [], ◌∷◌, map, Bool, true, ◌&&◌, Option, Some, None}
use Rattle.pbx_wire.specs.Text.{all_true}
use Rattle.pbx_wire.specs.declared.rec.Rec.{Rec}
use Rattle.pbx_content.specs.declared.shape.FieldShape.{FieldShape}
use Rattle.pbx_desc_shapes.specs.DescriptorShape.{set_fields, file_fields, message_fields, field_fields, extension_range_fields}
use Rattle.pbx_desc_shapes.specs.DescriptorShape.{reserved_range_fields, oneof_fields}
use Rattle.pbx_desc_shapes.specs.DescriptorShape.{enum_fields, enum_reserved_range_fields, enum_value_fields, service_fields, method_fields}
use Rattle.pbx_desc_shapes.specs.DescriptorShape.{source_code_info_fields, location_fields}
use Rattle.pbx_desc_records.specs.declared.enumeration.EnumDescriptorProto.{EnumDescriptorProto}
use Rattle.pbx_desc_records.specs.declared.enumeration.EnumReservedRange.{EnumReservedRange}
use Rattle.pbx_desc_records.specs.declared.enumeration.EnumValueDescriptorProto.{EnumValueDescriptorProto}
use Rattle.pbx_desc_records.specs.declared.field.FieldDescriptorProto.{FieldDescriptorProto}
use Rattle.pbx_desc_records.specs.declared.field.OneofDescriptorProto.{OneofDescriptorProto}
use Rattle.pbx_desc_records.specs.declared.file.FileDescriptorProto.{FileDescriptorProto}
use Rattle.pbx_desc_records.specs.declared.file.FileDescriptorSet.{FileDescriptorSet}
use Rattle.pbx_desc_records.specs.declared.message.DescriptorProto.{DescriptorProto, fold-DescriptorProto}
use Rattle.pbx_desc_records.specs.declared.message.DescriptorProto.TheOpen.{DescriptorProto-F}
use Rattle.pbx_desc_records.specs.declared.message.ExtensionRange.{ExtensionRange}
use Rattle.pbx_desc_records.specs.declared.message.ReservedRange.{ReservedRange}
use Rattle.pbx_desc_records.specs.declared.options.Options.{Options}
use Rattle.pbx_desc_records.specs.declared.service.MethodDescriptorProto.{MethodDescriptorProto}
use Rattle.pbx_desc_records.specs.declared.service.ServiceDescriptorProto.{ServiceDescriptorProto}
use Rattle.pbx_desc_records.specs.declared.source.Location.{Location}
use Rattle.pbx_desc_records.specs.declared.source.SourceCodeInfo.{SourceCodeInfo}
use Rattle.pbx_desc_encoding.specs.Content.{is_writable}

-- each of the records may be written, and is read as none of the fields (Protocol Buffers "Language Guide (proto 3)": Unknown Fields)
abbrev pub are_writable : List FieldShape → List Rec → Bool
are_writable gs rs = all_true (map (is_writable gs) rs)

-- the records in it are exact, and its unknown records may be written beside its fields
abbrev pub is_exact_with : List Bool → List FieldShape → List Rec → Bool
is_exact_with inner gs unknown = all_true inner && are_writable gs unknown

-- each is exact
abbrev pub are_exact : {R : Type 0} → (R → Bool) → List R → Bool
are_exact is_exact rs = all_true (map is_exact rs)

-- it is exact, if there is one
abbrev pub is_exact_if : {R : Type 0} → (R → Bool) → Option R → Bool
is_exact_if is_exact None = true
is_exact_if is_exact (Some r) = is_exact r

-- ---- each record

abbrev pub is_exact_options : Options → Bool
is_exact_options o = are_writable [] o.recs

abbrev pub is_exact_extension_range : ExtensionRange → Bool
is_exact_extension_range r = is_exact_with (is_exact_if is_exact_options r.options ∷ []) extension_range_fields r.unknown

abbrev pub is_exact_reserved_range : ReservedRange → Bool
is_exact_reserved_range r = is_exact_with [] reserved_range_fields r.unknown

abbrev pub is_exact_field : FieldDescriptorProto → Bool
is_exact_field f = is_exact_with (is_exact_if is_exact_options f.options ∷ []) field_fields f.unknown

abbrev pub is_exact_oneof : OneofDescriptorProto → Bool
is_exact_oneof o = is_exact_with (is_exact_if is_exact_options o.options ∷ []) oneof_fields o.unknown

abbrev pub is_exact_enum_reserved_range : EnumReservedRange → Bool
is_exact_enum_reserved_range r = is_exact_with [] enum_reserved_range_fields r.unknown

abbrev pub is_exact_enum_value : EnumValueDescriptorProto → Bool
is_exact_enum_value v = is_exact_with (is_exact_if is_exact_options v.options ∷ []) enum_value_fields v.unknown

abbrev pub is_exact_enum : EnumDescriptorProto → Bool
is_exact_enum e =
    is_exact_with
    (are_exact is_exact_enum_value e.value
    ∷ is_exact_if is_exact_options e.options
    ∷ are_exact is_exact_enum_reserved_range e.reserved_range
    ∷ [])
    enum_fields e.unknown

abbrev pub is_exact_method : MethodDescriptorProto → Bool
is_exact_method m = is_exact_with (is_exact_if is_exact_options m.options ∷ []) method_fields m.unknown

abbrev pub is_exact_service : ServiceDescriptorProto → Bool
is_exact_service s = is_exact_with (are_exact is_exact_method s.method ∷ is_exact_if is_exact_options s.options ∷ []) service_fields s.unknown

abbrev pub is_exact_location : Location → Bool
is_exact_location l = is_exact_with [] location_fields l.unknown

abbrev pub is_exact_source_code_info : SourceCodeInfo → Bool
is_exact_source_code_info s = is_exact_with (are_exact is_exact_location s.location ∷ []) source_code_info_fields s.unknown

-- one layer of a message, with what is told of its nested messages in their places
abbrev pub is_exact_message_step : DescriptorProto-F Bool → Bool
is_exact_message_step m =
    is_exact_with
    (are_exact is_exact_field m.field
    ∷ all_true m.nested_type
    ∷ are_exact is_exact_enum m.enum_type
    ∷ are_exact is_exact_extension_range m.extension_range
    ∷ are_exact is_exact_field m.extension
    ∷ is_exact_if is_exact_options m.options
    ∷ are_exact is_exact_oneof m.oneof_decl
    ∷ are_exact is_exact_reserved_range m.reserved_range
    ∷ [])
    message_fields m.unknown

abbrev pub is_exact_message : DescriptorProto → Bool
is_exact_message = fold-DescriptorProto Bool is_exact_message_step

abbrev pub is_exact_file : FileDescriptorProto → Bool
is_exact_file f =
    is_exact_with
    (are_exact is_exact_message f.message_type
    ∷ are_exact is_exact_enum f.enum_type
    ∷ are_exact is_exact_service f.service
    ∷ are_exact is_exact_field f.extension
    ∷ is_exact_if is_exact_options f.options
    ∷ is_exact_if is_exact_source_code_info f.source_code_info
    ∷ [])
    file_fields f.unknown

abbrev pub is_exact_file_set : FileDescriptorSet → Bool
is_exact_file_set s = is_exact_with (are_exact is_exact_file s.file ∷ []) set_fields s.unknown
