-- Records of one content are settled to one record.
use Rattle.std.proofs.Common.{◌≡◌, ◌∙◌, ℕ, ℤ, List, [], ◌∷◌, map, Bool, Option, refl, ap, sym, subst}
use Rattle.pbx_wire.specs.declared.rec.Rec.{Rec}
use Rattle.pbx_content.specs.Content.{Content, Val, message}
use Rattle.pbx_desc_records.specs.declared.options.Options.{Options}
use Rattle.pbx_desc_records.specs.declared.message.DescriptorProto.{DescriptorProto, out-DescriptorProto, roll-DescriptorProto, roll-out-DescriptorProto}
use Rattle.pbx_desc_records.specs.declared.message.DescriptorProto.{out-roll-DescriptorProto, ind-DescriptorProto}
use Rattle.pbx_desc_records.specs.declared.enumeration.EnumDescriptorProto.{EnumDescriptorProto}
use Rattle.pbx_desc_records.specs.declared.enumeration.EnumReservedRange.{EnumReservedRange}
use Rattle.pbx_desc_records.specs.declared.enumeration.EnumValueDescriptorProto.{EnumValueDescriptorProto}
use Rattle.pbx_desc_records.specs.declared.field.FieldDescriptorProto.{FieldDescriptorProto}
use Rattle.pbx_desc_records.specs.declared.field.OneofDescriptorProto.{OneofDescriptorProto}
use Rattle.pbx_desc_records.specs.declared.file.FileDescriptorProto.{FileDescriptorProto}
use Rattle.pbx_desc_records.specs.declared.message.DescriptorProto.TheOpen.{DescriptorProto-F}
use Rattle.pbx_desc_records.specs.declared.message.ExtensionRange.{ExtensionRange}
use Rattle.pbx_desc_records.specs.declared.message.ReservedRange.{ReservedRange}
use Rattle.pbx_desc_records.specs.declared.service.MethodDescriptorProto.{MethodDescriptorProto}
use Rattle.pbx_desc_records.specs.declared.service.ServiceDescriptorProto.{ServiceDescriptorProto}
use Rattle.pbx_desc_records.specs.declared.source.Location.{Location}
use Rattle.pbx_desc_records.specs.declared.source.SourceCodeInfo.{SourceCodeInfo}
use Rattle.pbx_desc_shapes.specs.DescriptorShape.{file_fields, message_fields, field_fields, extension_range_fields, reserved_range_fields, oneof_fields}
use Rattle.pbx_desc_shapes.specs.DescriptorShape.{enum_fields, enum_reserved_range_fields, enum_value_fields, service_fields, method_fields, source_code_info_fields}
use Rattle.pbx_desc_shapes.specs.DescriptorShape.{location_fields}
use Rattle.pbx_desc_encoding.specs.Content.{record_content, extension_range_values, extension_range_content, reserved_range_values, reserved_range_content, field_values}
use Rattle.pbx_desc_encoding.specs.Content.{field_content}
use Rattle.pbx_desc_encoding.specs.Content.{oneof_values, oneof_content, enum_reserved_range_values, enum_reserved_range_content, enum_value_values, enum_value_content}
use Rattle.pbx_desc_encoding.specs.Content.{enum_values, enum_content}
use Rattle.pbx_desc_encoding.specs.Content.{method_values, method_content, service_values, service_content, location_values, location_content, source_code_info_values}
use Rattle.pbx_desc_encoding.specs.Content.{source_code_info_content}
use Rattle.pbx_desc_encoding.specs.Content.{listed, message_values, message_content, file_values, file_content}
use Rattle.pbx_link_record.specs.Settled.{settled_extension_range, settled_reserved_range, settled_field, settled_oneof, settled_enum_range, settled_value}
use Rattle.pbx_link_record.specs.Settled.{settled_enum, settled_method, settled_service, settled_location, settled_source, settled_message, settled_file}
use Rattle.pbx_link_record.proofs.Layers.{settled_open, settled_out}
use Rattle.pbx_desc_encoding.proofs.Messages.{layer_with, message_content_at}
use Rattle.pbx_link_laws.proofs.Once.{settled_is_settled}
use Rattle.pbx_link_laws.specs.SameLaws.{AlikeIsSettled}
use Rattle.pbx_link_laws.proofs.Contents.{settled_content}
use Rattle.pbx_link_laws.proofs.Told.{Tells, content_tells, nth, text_told, number_told, truth_told, texts_told, numbers_told, list_told, items_told}
use Rattle.pbx_link_laws.proofs.Told.{same_items}
use Rattle.pbx_link_laws.proofs.Told.{message_told, records_told, record_told, options_told}

-- equal functions give equal values of equal arguments
app : {A B : Type 0} {f g : A → B} {a b : A} → f ≡ g → a ≡ b → f a ≡ g b
app {A} {B} {f} {g} {a} {b} p q = ap (λ (h : A → B). h a) p ∙ ap g q

-- ---- records

abbrev made_extension_range : Option ℤ → Option ℤ → Option Options → List Rec → ExtensionRange
made_extension_range start «end» options unknown = record { start = start; «end» = «end»; options = options; unknown = unknown }

extension_range_alike : (x y : ExtensionRange) → extension_range_content x ≡ extension_range_content y → settled_extension_range x ≡ settled_extension_range y
extension_range_alike x y e =
    let t : Tells extension_range_fields (extension_range_values x) (extension_range_values y) x.unknown y.unknown =
    content_tells extension_range_fields refl (extension_range_values x) (extension_range_values y) refl refl x.unknown y.unknown e in
    let all : made_extension_range ≡ made_extension_range = refl in
    app (app (app (app all
    (number_told x.start y.start (ap (nth 0) t.values)))
    (number_told x.«end» y.«end» (ap (nth 1) t.values)))
    (options_told x.options y.options (ap (nth 2) t.values)))
    t.unknown

abbrev made_reserved_range : Option ℤ → Option ℤ → List Rec → ReservedRange
made_reserved_range start «end» unknown = record { start = start; «end» = «end»; unknown = unknown }

reserved_range_alike : (x y : ReservedRange) → reserved_range_content x ≡ reserved_range_content y → settled_reserved_range x ≡ settled_reserved_range y
reserved_range_alike x y e =
    let t : Tells reserved_range_fields (reserved_range_values x) (reserved_range_values y) x.unknown y.unknown =
    content_tells reserved_range_fields refl (reserved_range_values x) (reserved_range_values y) refl refl x.unknown y.unknown e in
    let all : made_reserved_range ≡ made_reserved_range = refl in
    app (app (app all
    (number_told x.start y.start (ap (nth 0) t.values)))
    (number_told x.«end» y.«end» (ap (nth 1) t.values)))
    t.unknown

abbrev made_field : Option (List ℕ) → Option (List ℕ) → Option ℤ → Option ℤ → Option ℤ → Option (List ℕ) → Option (List ℕ) → Option Options → Option ℤ
    → Option (List ℕ) → Option Bool → List Rec → FieldDescriptorProto
made_field name extendee number label kind type_name default_value options oneof_index json_name proto3_optional unknown = record {
  name = name;
  extendee = extendee;
  number = number;
  label = label;
  kind = kind;
  type_name = type_name;
  default_value = default_value;
  options = options;
  oneof_index = oneof_index;
  json_name = json_name;
  proto3_optional = proto3_optional;
  unknown = unknown;
}

field_alike : (x y : FieldDescriptorProto) → field_content x ≡ field_content y → settled_field x ≡ settled_field y
field_alike x y e =
    let t : Tells field_fields (field_values x) (field_values y) x.unknown y.unknown =
    content_tells field_fields refl (field_values x) (field_values y) refl refl x.unknown y.unknown e in
    let all : made_field ≡ made_field = refl in
    app (app (app (app (app (app (app (app (app (app (app (app all
    (text_told x.name y.name (ap (nth 0) t.values)))
    (text_told x.extendee y.extendee (ap (nth 1) t.values)))
    (number_told x.number y.number (ap (nth 2) t.values)))
    (number_told x.label y.label (ap (nth 3) t.values)))
    (number_told x.kind y.kind (ap (nth 4) t.values)))
    (text_told x.type_name y.type_name (ap (nth 5) t.values)))
    (text_told x.default_value y.default_value (ap (nth 6) t.values)))
    (options_told x.options y.options (ap (nth 7) t.values)))
    (number_told x.oneof_index y.oneof_index (ap (nth 8) t.values)))
    (text_told x.json_name y.json_name (ap (nth 9) t.values)))
    (truth_told x.proto3_optional y.proto3_optional (ap (nth 10) t.values)))
    t.unknown

abbrev made_oneof : Option (List ℕ) → Option Options → List Rec → OneofDescriptorProto
made_oneof name options unknown = record { name = name; options = options; unknown = unknown }

oneof_alike : (x y : OneofDescriptorProto) → oneof_content x ≡ oneof_content y → settled_oneof x ≡ settled_oneof y
oneof_alike x y e =
    let t : Tells oneof_fields (oneof_values x) (oneof_values y) x.unknown y.unknown =
    content_tells oneof_fields refl (oneof_values x) (oneof_values y) refl refl x.unknown y.unknown e in
    let all : made_oneof ≡ made_oneof = refl in
    app (app (app all
    (text_told x.name y.name (ap (nth 0) t.values)))
    (options_told x.options y.options (ap (nth 1) t.values)))
    t.unknown

abbrev made_enum_range : Option ℤ → Option ℤ → List Rec → EnumReservedRange
made_enum_range start «end» unknown = record { start = start; «end» = «end»; unknown = unknown }

enum_range_alike : (x y : EnumReservedRange) → enum_reserved_range_content x ≡ enum_reserved_range_content y → settled_enum_range x ≡ settled_enum_range y
enum_range_alike x y e =
    let t : Tells enum_reserved_range_fields (enum_reserved_range_values x) (enum_reserved_range_values y) x.unknown y.unknown =
    content_tells enum_reserved_range_fields refl (enum_reserved_range_values x) (enum_reserved_range_values y) refl refl x.unknown y.unknown e in
    let all : made_enum_range ≡ made_enum_range = refl in
    app (app (app all
    (number_told x.start y.start (ap (nth 0) t.values)))
    (number_told x.«end» y.«end» (ap (nth 1) t.values)))
    t.unknown

abbrev made_value : Option (List ℕ) → Option ℤ → Option Options → List Rec → EnumValueDescriptorProto
made_value name number options unknown = record { name = name; number = number; options = options; unknown = unknown }

value_alike : (x y : EnumValueDescriptorProto) → enum_value_content x ≡ enum_value_content y → settled_value x ≡ settled_value y
value_alike x y e =
    let t : Tells enum_value_fields (enum_value_values x) (enum_value_values y) x.unknown y.unknown =
    content_tells enum_value_fields refl (enum_value_values x) (enum_value_values y) refl refl x.unknown y.unknown e in
    let all : made_value ≡ made_value = refl in
    app (app (app (app all
    (text_told x.name y.name (ap (nth 0) t.values)))
    (number_told x.number y.number (ap (nth 1) t.values)))
    (options_told x.options y.options (ap (nth 2) t.values)))
    t.unknown

abbrev made_enum : Option (List ℕ) → List EnumValueDescriptorProto → Option Options → List EnumReservedRange → List (List ℕ) → List Rec
    → EnumDescriptorProto
made_enum name value options reserved_range reserved_name unknown = record {
  name = name;
  value = value;
  options = options;
  reserved_range = reserved_range;
  reserved_name = reserved_name;
  unknown = unknown;
}

enum_alike : (x y : EnumDescriptorProto) → enum_content x ≡ enum_content y → settled_enum x ≡ settled_enum y
enum_alike x y e =
    let t : Tells enum_fields (enum_values x) (enum_values y) x.unknown y.unknown =
    content_tells enum_fields refl (enum_values x) (enum_values y) refl refl x.unknown y.unknown e in
    let all : made_enum ≡ made_enum = refl in
    app (app (app (app (app (app all
    (text_told x.name y.name (ap (nth 0) t.values)))
    (records_told enum_value_content settled_value value_alike x.value y.value (ap (nth 1) t.values)))
    (options_told x.options y.options (ap (nth 2) t.values)))
    (records_told enum_reserved_range_content settled_enum_range enum_range_alike x.reserved_range y.reserved_range (ap (nth 3) t.values)))
    (texts_told x.reserved_name y.reserved_name (ap (nth 4) t.values)))
    t.unknown

abbrev made_method : Option (List ℕ) → Option (List ℕ) → Option (List ℕ) → Option Options → Option Bool → Option Bool → List Rec
    → MethodDescriptorProto
made_method name input_type output_type options client_streaming server_streaming unknown = record {
  name = name;
  input_type = input_type;
  output_type = output_type;
  options = options;
  client_streaming = client_streaming;
  server_streaming = server_streaming;
  unknown = unknown;
}

method_alike : (x y : MethodDescriptorProto) → method_content x ≡ method_content y → settled_method x ≡ settled_method y
method_alike x y e =
    let t : Tells method_fields (method_values x) (method_values y) x.unknown y.unknown =
    content_tells method_fields refl (method_values x) (method_values y) refl refl x.unknown y.unknown e in
    let all : made_method ≡ made_method = refl in
    app (app (app (app (app (app (app all
    (text_told x.name y.name (ap (nth 0) t.values)))
    (text_told x.input_type y.input_type (ap (nth 1) t.values)))
    (text_told x.output_type y.output_type (ap (nth 2) t.values)))
    (options_told x.options y.options (ap (nth 3) t.values)))
    (truth_told x.client_streaming y.client_streaming (ap (nth 4) t.values)))
    (truth_told x.server_streaming y.server_streaming (ap (nth 5) t.values)))
    t.unknown

abbrev made_service : Option (List ℕ) → List MethodDescriptorProto → Option Options → List Rec → ServiceDescriptorProto
made_service name method options unknown = record { name = name; method = method; options = options; unknown = unknown }

service_alike : (x y : ServiceDescriptorProto) → service_content x ≡ service_content y → settled_service x ≡ settled_service y
service_alike x y e =
    let t : Tells service_fields (service_values x) (service_values y) x.unknown y.unknown =
    content_tells service_fields refl (service_values x) (service_values y) refl refl x.unknown y.unknown e in
    let all : made_service ≡ made_service = refl in
    app (app (app (app all
    (text_told x.name y.name (ap (nth 0) t.values)))
    (records_told method_content settled_method method_alike x.method y.method (ap (nth 1) t.values)))
    (options_told x.options y.options (ap (nth 2) t.values)))
    t.unknown

abbrev made_location : List ℤ → List ℤ → Option (List ℕ) → Option (List ℕ) → List (List ℕ) → List Rec → Location
made_location path span leading_comments trailing_comments leading_detached_comments unknown = record {
  path = path;
  span = span;
  leading_comments = leading_comments;
  trailing_comments = trailing_comments;
  leading_detached_comments = leading_detached_comments;
  unknown = unknown;
}

location_alike : (x y : Location) → location_content x ≡ location_content y → settled_location x ≡ settled_location y
location_alike x y e =
    let t : Tells location_fields (location_values x) (location_values y) x.unknown y.unknown =
    content_tells location_fields refl (location_values x) (location_values y) refl refl x.unknown y.unknown e in
    let all : made_location ≡ made_location = refl in
    app (app (app (app (app (app all
    (numbers_told x.path y.path (ap (nth 0) t.values)))
    (numbers_told x.span y.span (ap (nth 1) t.values)))
    (text_told x.leading_comments y.leading_comments (ap (nth 2) t.values)))
    (text_told x.trailing_comments y.trailing_comments (ap (nth 3) t.values)))
    (texts_told x.leading_detached_comments y.leading_detached_comments (ap (nth 4) t.values)))
    t.unknown

abbrev made_source : List Location → List Rec → SourceCodeInfo
made_source location unknown = record { location = location; unknown = unknown }

source_alike : (x y : SourceCodeInfo) → source_code_info_content x ≡ source_code_info_content y → settled_source x ≡ settled_source y
source_alike x y e =
    let t : Tells source_code_info_fields (source_code_info_values x) (source_code_info_values y) x.unknown y.unknown =
    content_tells source_code_info_fields refl (source_code_info_values x) (source_code_info_values y) refl refl x.unknown y.unknown e in
    let all : made_source ≡ made_source = refl in
    app (app all
    (records_told location_content settled_location location_alike x.location y.location (ap (nth 0) t.values)))
    t.unknown

-- ---- messages

abbrev made_layer : Option (List ℕ) → List FieldDescriptorProto → List DescriptorProto → List EnumDescriptorProto → List ExtensionRange
    → List FieldDescriptorProto → Option Options → List OneofDescriptorProto → List ReservedRange → List (List ℕ) → List Rec
    → DescriptorProto-F DescriptorProto
made_layer name field nested_type enum_type extension_range extension options oneof_decl reserved_range reserved_name unknown = record {
  name = name;
  field = field;
  nested_type = nested_type;
  enum_type = enum_type;
  extension_range = extension_range;
  extension = extension;
  options = options;
  oneof_decl = oneof_decl;
  reserved_range = reserved_range;
  reserved_name = reserved_name;
  unknown = unknown;
}

-- one layer, with the contents of nested messages in their places
abbrev layer_values : DescriptorProto-F DescriptorProto → List (Option Val)
layer_values o = message_values (layer_with (map message_content o.nested_type) o)

abbrev layer_content : DescriptorProto-F DescriptorProto → Content
layer_content o = record_content message_fields (layer_values o) o.unknown

nested_told : (ms ns : List DescriptorProto) → listed (map message (map message_content ms)) ≡ listed (map message (map message_content ns))
    → map message_content ms ≡ map message_content ns
nested_told ms ns e =
    sym (same_items (map message_content ms))
    ∙ items_told message (λ (c : Content). c) message_told (map message_content ms) (map message_content ns)
    (list_told (map message (map message_content ms)) (map message (map message_content ns)) e)
    ∙ same_items (map message_content ns)

-- messages of the same contents are settled to the same
abbrev AreTold : List DescriptorProto → Type 0
AreTold ms = (ns : List DescriptorProto) → map message_content ms ≡ map message_content ns → map settled_message ms ≡ map settled_message ns

layer_alike : (x y : DescriptorProto-F DescriptorProto) → AreTold x.nested_type → layer_content x ≡ layer_content y → settled_open x ≡ settled_open y
layer_alike x y h e =
    let t : Tells message_fields (layer_values x) (layer_values y) x.unknown y.unknown =
    content_tells message_fields refl (layer_values x) (layer_values y) refl refl x.unknown y.unknown e in
    let all : made_layer ≡ made_layer = refl in
    app (app (app (app (app (app (app (app (app (app (app all
    (text_told x.name y.name (ap (nth 0) t.values)))
    (records_told field_content settled_field field_alike x.field y.field (ap (nth 1) t.values)))
    (h y.nested_type (nested_told x.nested_type y.nested_type (ap (nth 2) t.values))))
    (records_told enum_content settled_enum enum_alike x.enum_type y.enum_type (ap (nth 3) t.values)))
    (records_told extension_range_content settled_extension_range extension_range_alike x.extension_range y.extension_range (ap (nth 4) t.values)))
    (records_told field_content settled_field field_alike x.extension y.extension (ap (nth 5) t.values)))
    (options_told x.options y.options (ap (nth 6) t.values)))
    (records_told oneof_content settled_oneof oneof_alike x.oneof_decl y.oneof_decl (ap (nth 7) t.values)))
    (records_told reserved_range_content settled_reserved_range reserved_range_alike x.reserved_range y.reserved_range (ap (nth 8) t.values)))
    (texts_told x.reserved_name y.reserved_name (ap (nth 9) t.values)))
    t.unknown

abbrev IsTold : DescriptorProto → Type 0
IsTold m = (n : DescriptorProto) → message_content m ≡ message_content n → settled_message m ≡ settled_message n

each_told : {S : Type 0} (v : S → DescriptorProto) → ((s : S) → IsTold (v s)) → (ss : List S) → AreTold (map v ss)
each_told v h [] [] e = refl
each_told v h [] (n ∷ ns) e = absurd (cc)
each_told v h (s ∷ ss) [] e = absurd (cc)
each_told v h (s ∷ ss) (n ∷ ns) e =
    let first : message_content (v s) ≡ message_content n = cc in
    let rest : map message_content (map v ss) ≡ map message_content ns = cc in
    ap (λ (m : DescriptorProto). m ∷ map settled_message (map v ss)) (h s n first)
    ∙ ap (λ (ms : List DescriptorProto). settled_message n ∷ ms) (each_told v h ss ns rest)

rolled_told : (o : DescriptorProto-F DescriptorProto) → AreTold o.nested_type → IsTold (roll-DescriptorProto o)
rolled_told o h n e =
    let m : DescriptorProto = roll-DescriptorProto o in
    let left : message_content m ≡ layer_content o = message_content_at m ∙ ap layer_content (out-roll-DescriptorProto o) in
    let same : layer_content o ≡ layer_content (out-DescriptorProto n) = sym left ∙ e ∙ message_content_at n in
    sym (roll-out-DescriptorProto (settled_message m))
    ∙ ap roll-DescriptorProto
    (settled_out m ∙ ap settled_open (out-roll-DescriptorProto o) ∙ layer_alike o (out-DescriptorProto n) h same ∙ sym (settled_out n))
    ∙ roll-out-DescriptorProto (settled_message n)

message_alike : (x y : DescriptorProto) → message_content x ≡ message_content y → settled_message x ≡ settled_message y
message_alike =
    ind-DescriptorProto IsTold
    (λ o inside e. rolled_told o (subst (λ (p : DescriptorProto-F DescriptorProto). AreTold p.nested_type) e
    (each_told (λ s. s.0) (λ s. s.1) inside.nested_type)))

-- ---- files

abbrev made_file : Option (List ℕ) → Option (List ℕ) → List (List ℕ) → List DescriptorProto → List EnumDescriptorProto → List ServiceDescriptorProto
    → List FieldDescriptorProto → Option Options → Option SourceCodeInfo → List ℤ → List ℤ → Option (List ℕ) → List Rec → FileDescriptorProto
made_file name «package» dependency message_type enum_type service
    extension options source_code_info public_dependency weak_dependency syntax unknown = record {
      name = name;
      «package» = «package»;
      dependency = dependency;
      message_type = message_type;
      enum_type = enum_type;
      service = service;
      extension = extension;
      options = options;
      source_code_info = source_code_info;
      public_dependency = public_dependency;
      weak_dependency = weak_dependency;
      syntax = syntax;
      unknown = unknown;
    }

-- Files of one content are settled to one file.
pub file_alike : (x y : FileDescriptorProto) → file_content x ≡ file_content y → settled_file x ≡ settled_file y
file_alike x y e =
    let t : Tells file_fields (file_values x) (file_values y) x.unknown y.unknown =
    content_tells file_fields refl (file_values x) (file_values y) refl refl x.unknown y.unknown e in
    let all : made_file ≡ made_file = refl in
    app (app (app (app (app (app (app (app (app (app (app (app (app all
    (text_told x.name y.name (ap (nth 0) t.values)))
    (text_told x.«package» y.«package» (ap (nth 1) t.values)))
    (texts_told x.dependency y.dependency (ap (nth 2) t.values)))
    (records_told message_content settled_message message_alike x.message_type y.message_type (ap (nth 3) t.values)))
    (records_told enum_content settled_enum enum_alike x.enum_type y.enum_type (ap (nth 4) t.values)))
    (records_told service_content settled_service service_alike x.service y.service (ap (nth 5) t.values)))
    (records_told field_content settled_field field_alike x.extension y.extension (ap (nth 6) t.values)))
    (options_told x.options y.options (ap (nth 7) t.values)))
    (record_told source_code_info_content settled_source source_alike x.source_code_info y.source_code_info (ap (nth 8) t.values)))
    (numbers_told x.public_dependency y.public_dependency (ap (nth 9) t.values)))
    (numbers_told x.weak_dependency y.weak_dependency (ap (nth 10) t.values)))
    (text_told x.syntax y.syntax (ap (nth 11) t.values)))
    t.unknown

pub alike_is_settled : AlikeIsSettled
alike_is_settled f g = (
  λ e. sym (settled_is_settled f) ∙ file_alike (settled_file f) (settled_file g) (sym (settled_content f) ∙ e ∙ settled_content g) ∙ settled_is_settled g,
  λ e. settled_content f ∙ ap file_content e ∙ sym (settled_content g),
)
