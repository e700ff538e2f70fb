-- What descriptor records hold as messages of the types of their shape.
use Rattle.std.specs.Prelude.{ℕ, ℤ, List, [], ◌∷◌, map, filter, Bool, ◌&&◌, Option, Some, None, option_map}
use Rattle.pbx_wire.specs.Text.{is_numbered}
use Rattle.pbx_wire.specs.declared.rec.Rec.{Rec}
use Rattle.pbx_content.specs.declared.shape.FieldShape.{FieldShape}
use Rattle.pbx_content.specs.Content.{Content, content, Fields, no_fields, Val, number, truth, text, message, many, vals_of}
use Rattle.pbx_content.specs.Meaning.{with_field}
use Rattle.pbx_content.specs.Shape.{is_kept}
use Rattle.pbx_desc_shapes.specs.DescriptorShape.{set_fields, file_fields, message_fields, field_fields, extension_range_fields, reserved_range_fields, oneof_fields}
use Rattle.pbx_desc_shapes.specs.DescriptorShape.{enum_fields, enum_reserved_range_fields, enum_value_fields, service_fields, method_fields}
use Rattle.pbx_desc_shapes.specs.DescriptorShape.{source_code_info_fields, location_fields}
use Rattle.pbx_desc_records.specs.declared.enumeration.EnumDescriptorProto.{EnumDescriptorProto}
use Rattle.pbx_desc_records.specs.declared.enumeration.EnumReservedRange.{EnumReservedRange}
use Rattle.pbx_desc_records.specs.declared.enumeration.EnumValueDescriptorProto.{EnumValueDescriptorProto}
use Rattle.pbx_desc_records.specs.declared.field.FieldDescriptorProto.{FieldDescriptorProto}
use Rattle.pbx_desc_records.specs.declared.field.OneofDescriptorProto.{OneofDescriptorProto}
use Rattle.pbx_desc_records.specs.declared.file.FileDescriptorProto.{FileDescriptorProto}
use Rattle.pbx_desc_records.specs.declared.file.FileDescriptorSet.{FileDescriptorSet}
use Rattle.pbx_desc_records.specs.declared.message.DescriptorProto.{DescriptorProto, fold-DescriptorProto}
use Rattle.pbx_desc_records.specs.declared.message.DescriptorProto.TheOpen.{DescriptorProto-F}
use Rattle.pbx_desc_records.specs.declared.message.ExtensionRange.{ExtensionRange}
use Rattle.pbx_desc_records.specs.declared.message.ReservedRange.{ReservedRange}
use Rattle.pbx_desc_records.specs.declared.options.Options.{Options}
use Rattle.pbx_desc_records.specs.declared.service.MethodDescriptorProto.{MethodDescriptorProto}
use Rattle.pbx_desc_records.specs.declared.service.ServiceDescriptorProto.{ServiceDescriptorProto}
use Rattle.pbx_desc_records.specs.declared.source.Location.{Location}
use Rattle.pbx_desc_records.specs.declared.source.SourceCodeInfo.{SourceCodeInfo}

-- ---- the content of any record

-- a record that may be written, and is read as none of the fields
abbrev pub is_writable : List FieldShape → Rec → Bool
is_writable gs r = is_numbered r && is_kept gs r

-- the records that are kept behind these fields
abbrev pub writable : List FieldShape → List Rec → List Rec
writable gs rs = filter (is_writable gs) rs

-- values in the order of their fields, under the fields' numbers
abbrev pub fields_from : List FieldShape → List (Option Val) → Fields
fields_from [] vs = no_fields
fields_from (g ∷ gs) [] = no_fields
fields_from (g ∷ gs) (v ∷ vs) = with_field g.number v (fields_from gs vs)

-- the values of all fields, and what may be written of the unknown records
abbrev pub record_content : List FieldShape → List (Option Val) → List Rec → Content
record_content gs vs unknown = content (fields_from gs vs) (writable gs unknown)

-- ---- values of fields

-- a text, if there is one
abbrev pub of_text : Option (List ℕ) → Option Val
of_text t = option_map text t

-- a number, if there is one
abbrev pub of_number : Option ℤ → Option Val
of_number z = option_map number z

-- a truth value, if there is one
abbrev pub of_truth : Option Bool → Option Val
of_truth b = option_map truth b

-- a record of this content, if there is one
abbrev pub of_record : {R : Type 0} → (R → Content) → Option R → Option Val
of_record f r = option_map (λ x. message (f x)) r

-- the values of a list; an empty list is absent
abbrev pub listed : List Val → Option Val
listed [] = None
listed (v ∷ vs) = Some (many (vals_of (v ∷ vs)))

-- texts
abbrev pub of_texts : List (List ℕ) → Option Val
of_texts ts = listed (map text ts)

-- numbers
abbrev pub of_numbers : List ℤ → Option Val
of_numbers zs = listed (map number zs)

-- records of this content
abbrev pub of_records : {R : Type 0} → (R → Content) → List R → Option Val
of_records f rs = listed (map (λ x. message (f x)) rs)

-- ---- each record: its values by ascending number, and its content

-- the content of options: no field is read, all their records are kept
abbrev pub options_content : Options → Content
options_content o = record_content [] [] o.recs

-- options, if there are any
abbrev pub of_options : Option Options → Option Val
of_options o = of_record options_content o

-- the values of an ExtensionRange
abbrev pub extension_range_values : ExtensionRange → List (Option Val)
extension_range_values r = of_number r.start ∷ of_number r.end ∷ of_options r.options ∷ []

-- the content of an ExtensionRange
abbrev pub extension_range_content : ExtensionRange → Content
extension_range_content r = record_content extension_range_fields (extension_range_values r) r.unknown

-- the values of a ReservedRange
abbrev pub reserved_range_values : ReservedRange → List (Option Val)
reserved_range_values r = of_number r.start ∷ of_number r.end ∷ []

-- the content of a ReservedRange
abbrev pub reserved_range_content : ReservedRange → Content
reserved_range_content r = record_content reserved_range_fields (reserved_range_values r) r.unknown

-- the values of a FieldDescriptorProto
abbrev pub field_values : FieldDescriptorProto → List (Option Val)
field_values f =
    of_text f.name
    ∷ of_text f.extendee
    ∷ of_number f.number
    ∷ of_number f.label
    ∷ of_number f.kind
    ∷ of_text f.type_name
    ∷ of_text f.default_value
    ∷ of_options f.options
    ∷ of_number f.oneof_index
    ∷ of_text f.json_name
    ∷ of_truth f.proto3_optional
    ∷ []

-- the content of a FieldDescriptorProto
abbrev pub field_content : FieldDescriptorProto → Content
field_content f = record_content field_fields (field_values f) f.unknown

-- the values of a OneofDescriptorProto
abbrev pub oneof_values : OneofDescriptorProto → List (Option Val)
oneof_values o = of_text o.name ∷ of_options o.options ∷ []

-- the content of a OneofDescriptorProto
abbrev pub oneof_content : OneofDescriptorProto → Content
oneof_content o = record_content oneof_fields (oneof_values o) o.unknown

-- the values of an EnumReservedRange
abbrev pub enum_reserved_range_values : EnumReservedRange → List (Option Val)
enum_reserved_range_values r = of_number r.start ∷ of_number r.end ∷ []

-- the content of an EnumReservedRange
abbrev pub enum_reserved_range_content : EnumReservedRange → Content
enum_reserved_range_content r = record_content enum_reserved_range_fields (enum_reserved_range_values r) r.unknown

-- the values of an EnumValueDescriptorProto
abbrev pub enum_value_values : EnumValueDescriptorProto → List (Option Val)
enum_value_values v = of_text v.name ∷ of_number v.number ∷ of_options v.options ∷ []

-- the content of an EnumValueDescriptorProto
abbrev pub enum_value_content : EnumValueDescriptorProto → Content
enum_value_content v = record_content enum_value_fields (enum_value_values v) v.unknown

-- the values of an EnumDescriptorProto
abbrev pub enum_values : EnumDescriptorProto → List (Option Val)
enum_values e =
    of_text e.name
    ∷ of_records enum_value_content e.value
    ∷ of_options e.options
    ∷ of_records enum_reserved_range_content e.reserved_range
    ∷ of_texts e.reserved_name
    ∷ []

-- the content of an EnumDescriptorProto
abbrev pub enum_content : EnumDescriptorProto → Content
enum_content e = record_content enum_fields (enum_values e) e.unknown

-- the values of a MethodDescriptorProto
abbrev pub method_values : MethodDescriptorProto → List (Option Val)
method_values m =
    of_text m.name
    ∷ of_text m.input_type
    ∷ of_text m.output_type
    ∷ of_options m.options
    ∷ of_truth m.client_streaming
    ∷ of_truth m.server_streaming
    ∷ []

-- the content of a MethodDescriptorProto
abbrev pub method_content : MethodDescriptorProto → Content
method_content m = record_content method_fields (method_values m) m.unknown

-- the values of a ServiceDescriptorProto
abbrev pub service_values : ServiceDescriptorProto → List (Option Val)
service_values s = of_text s.name ∷ of_records method_content s.method ∷ of_options s.options ∷ []

-- the content of a ServiceDescriptorProto
abbrev pub service_content : ServiceDescriptorProto → Content
service_content s = record_content service_fields (service_values s) s.unknown

-- the values of a Location
abbrev pub location_values : Location → List (Option Val)
location_values l =
    of_numbers l.path
    ∷ of_numbers l.span
    ∷ of_text l.leading_comments
    ∷ of_text l.trailing_comments
    ∷ of_texts l.leading_detached_comments
    ∷ []

-- the content of a Location
abbrev pub location_content : Location → Content
location_content l = record_content location_fields (location_values l) l.unknown

-- the values of a SourceCodeInfo
abbrev pub source_code_info_values : SourceCodeInfo → List (Option Val)
source_code_info_values s = of_records location_content s.location ∷ []

-- the content of a SourceCodeInfo
abbrev pub source_code_info_content : SourceCodeInfo → Content
source_code_info_content s = record_content source_code_info_fields (source_code_info_values s) s.unknown

-- the values of a DescriptorProto, with the contents of its nested messages in their places
abbrev pub message_values : DescriptorProto-F Content → List (Option Val)
message_values m =
    of_text m.name
    ∷ of_records field_content m.field
    ∷ listed (map message m.nested_type)
    ∷ of_records enum_content m.enum_type
    ∷ of_records extension_range_content m.extension_range
    ∷ of_records field_content m.extension
    ∷ of_options m.options
    ∷ of_records oneof_content m.oneof_decl
    ∷ of_records reserved_range_content m.reserved_range
    ∷ of_texts m.reserved_name
    ∷ []

-- the content of one layer of a DescriptorProto
abbrev pub message_step : DescriptorProto-F Content → Content
message_step m = record_content message_fields (message_values m) m.unknown

-- the content of a DescriptorProto
abbrev pub message_content : DescriptorProto → Content
message_content = fold-DescriptorProto Content message_step

-- the values of a FileDescriptorProto
abbrev pub file_values : FileDescriptorProto → List (Option Val)
file_values f =
    of_text f.name
    ∷ of_text f.«package»
    ∷ of_texts f.dependency
    ∷ of_records message_content f.message_type
    ∷ of_records enum_content f.enum_type
    ∷ of_records service_content f.service
    ∷ of_records field_content f.extension
    ∷ of_options f.options
    ∷ of_record source_code_info_content f.source_code_info
    ∷ of_numbers f.public_dependency
    ∷ of_numbers f.weak_dependency
    ∷ of_text f.syntax
    ∷ []

-- the content of a FileDescriptorProto
abbrev pub file_content : FileDescriptorProto → Content
file_content f = record_content file_fields (file_values f) f.unknown

-- the values of a FileDescriptorSet
abbrev pub file_set_values : FileDescriptorSet → List (Option Val)
file_set_values s = of_records file_content s.file ∷ []

-- the content of a FileDescriptorSet
abbrev pub file_set_content : FileDescriptorSet → Content
file_set_content s = record_content set_fields (file_set_values s) s.unknown

-- ---- files one by one

-- a FileDescriptorProto as the value of a field
abbrev pub file_value : FileDescriptorProto → Val
file_value f = message (file_content f)

-- the content of a FileDescriptorSet of these values
abbrev pub set_content : List Val → Content
set_content files = record_content set_fields (listed files ∷ []) []

-- the content of the FileDescriptorSet of these files
abbrev pub files_content : List FileDescriptorProto → Content
files_content files = set_content (map file_value files)
