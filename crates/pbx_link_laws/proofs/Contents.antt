-- The content of a settled record is the settled content.
use Rattle.std.proofs.Common.{◌≡◌, ◌∙◌, List, [], ◌∷◌, map, true, false, refl, ap, sym, subst}
use Rattle.pbx_content.specs.Content.{Content, Val, message}
use Rattle.pbx_content.specs.Same.{settled}
use Rattle.pbx_content.specs.Shape.{keeps_order_of}
use Rattle.pbx_desc_records.specs.declared.enumeration.EnumDescriptorProto.{EnumDescriptorProto}
use Rattle.pbx_desc_records.specs.declared.enumeration.EnumReservedRange.{EnumReservedRange}
use Rattle.pbx_desc_records.specs.declared.enumeration.EnumValueDescriptorProto.{EnumValueDescriptorProto}
use Rattle.pbx_desc_records.specs.declared.field.FieldDescriptorProto.{FieldDescriptorProto}
use Rattle.pbx_desc_records.specs.declared.field.OneofDescriptorProto.{OneofDescriptorProto}
use Rattle.pbx_desc_records.specs.declared.message.DescriptorProto.{DescriptorProto, out-DescriptorProto, roll-DescriptorProto, out-roll-DescriptorProto}
use Rattle.pbx_desc_records.specs.declared.message.DescriptorProto.{ind-DescriptorProto}
use Rattle.pbx_desc_records.specs.declared.message.DescriptorProto.TheOpen.{DescriptorProto-F}
use Rattle.pbx_desc_records.specs.declared.message.ExtensionRange.{ExtensionRange}
use Rattle.pbx_desc_records.specs.declared.message.ReservedRange.{ReservedRange}
use Rattle.pbx_desc_records.specs.declared.service.MethodDescriptorProto.{MethodDescriptorProto}
use Rattle.pbx_desc_records.specs.declared.service.ServiceDescriptorProto.{ServiceDescriptorProto}
use Rattle.pbx_desc_records.specs.declared.source.Location.{Location}
use Rattle.pbx_desc_records.specs.declared.source.SourceCodeInfo.{SourceCodeInfo}
use Rattle.pbx_desc_shapes.specs.DescriptorShape.{descriptor_shape, file_fields, message_fields, field_fields, extension_range_fields, reserved_range_fields, oneof_fields}
use Rattle.pbx_desc_shapes.specs.DescriptorShape.{enum_fields, enum_reserved_range_fields, enum_value_fields, service_fields, method_fields, source_code_info_fields}
use Rattle.pbx_desc_shapes.specs.DescriptorShape.{location_fields}
use Rattle.pbx_desc_encoding.specs.Content.{extension_range_values, extension_range_content, reserved_range_values, reserved_range_content, field_values}
use Rattle.pbx_desc_encoding.specs.Content.{field_content}
use Rattle.pbx_desc_encoding.specs.Content.{oneof_values, oneof_content, enum_reserved_range_values, enum_reserved_range_content, enum_value_values, enum_value_content}
use Rattle.pbx_desc_encoding.specs.Content.{enum_values, enum_content}
use Rattle.pbx_desc_encoding.specs.Content.{method_values, method_content, service_values, service_content, location_values, location_content, source_code_info_values}
use Rattle.pbx_desc_encoding.specs.Content.{source_code_info_content}
use Rattle.pbx_desc_encoding.specs.Content.{listed, message_values, message_step, message_content, file_values}
use Rattle.pbx_desc_encoding.proofs.Messages.{layer_with, message_content_at}
use Rattle.pbx_desc_encoding.proofs.Types.{file_type, message_type, field_type, extension_range_type, reserved_range_type, oneof_type, enum_type}
use Rattle.pbx_desc_encoding.proofs.Types.{enum_reserved_range_type, enum_value_type, service_type, method_type, source_code_info_type, location_type}
use Rattle.pbx_link_record.specs.Settled.{settled_extension_range, settled_reserved_range, settled_field, settled_oneof, settled_enum_range, settled_value}
use Rattle.pbx_link_record.specs.Settled.{settled_enum, settled_method, settled_service, settled_location, settled_source, settled_message, settled_file}
use Rattle.pbx_link_record.proofs.Layers.{settled_open, settled_out}
use Rattle.pbx_link_laws.proofs.Lists.{map_twice}
use Rattle.pbx_link_laws.specs.SameLaws.{SettledContent}
use Rattle.pbx_link_laws.proofs.Values.{settled_if, text_same, number_same, truth_same, list_same, texts_same, numbers_same, records_same, record_same}
use Rattle.pbx_link_laws.proofs.Values.{options_same, content_settled}

-- ---- which types keep the order of kept records: options alone

record Orders : Type 0 where
  file : keeps_order_of descriptor_shape 1 ≡ false
  message : keeps_order_of descriptor_shape 2 ≡ false
  field : keeps_order_of descriptor_shape 3 ≡ false
  extension_range : keeps_order_of descriptor_shape 4 ≡ false
  reserved_range : keeps_order_of descriptor_shape 5 ≡ false
  oneof : keeps_order_of descriptor_shape 6 ≡ false
  enum : keeps_order_of descriptor_shape 7 ≡ false
  enum_range : keeps_order_of descriptor_shape 8 ≡ false
  value : keeps_order_of descriptor_shape 9 ≡ false
  service : keeps_order_of descriptor_shape 10 ≡ false
  method : keeps_order_of descriptor_shape 11 ≡ false
  source : keeps_order_of descriptor_shape 12 ≡ false
  location : keeps_order_of descriptor_shape 13 ≡ false
  file_options : keeps_order_of descriptor_shape 14 ≡ true
  message_options : keeps_order_of descriptor_shape 15 ≡ true
  field_options : keeps_order_of descriptor_shape 16 ≡ true
  range_options : keeps_order_of descriptor_shape 17 ≡ true
  oneof_options : keeps_order_of descriptor_shape 18 ≡ true
  enum_options : keeps_order_of descriptor_shape 19 ≡ true
  value_options : keeps_order_of descriptor_shape 20 ≡ true
  service_options : keeps_order_of descriptor_shape 21 ≡ true
  method_options : keeps_order_of descriptor_shape 22 ≡ true

orders : Orders
unfolding descriptor_shape
orders = record {
  file = refl;
  message = refl;
  field = refl;
  extension_range = refl;
  reserved_range = refl;
  oneof = refl;
  enum = refl;
  enum_range = refl;
  value = refl;
  service = refl;
  method = refl;
  source = refl;
  location = refl;
  file_options = refl;
  message_options = refl;
  field_options = refl;
  range_options = refl;
  oneof_options = refl;
  enum_options = refl;
  value_options = refl;
  service_options = refl;
  method_options = refl;
}

-- ---- lists of values

and : {X : Type 0} (a b : X) (xs ys : List X) → a ≡ b → xs ≡ ys → a ∷ xs ≡ b ∷ ys
and a b xs ys e f = cc

-- ---- records

extension_range : (r : ExtensionRange) → settled descriptor_shape 4 (extension_range_content r) ≡ extension_range_content (settled_extension_range r)
extension_range r =
    content_settled 4 extension_range_fields extension_range_type orders.extension_range (extension_range_values r)
    (extension_range_values (settled_extension_range r))
    (and _ _ _ _ (number_same _ r.start)
    (and _ _ _ _ (number_same _ r.«end»)
    (and _ _ _ _ (options_same 17 orders.range_options r.options) refl)))
    r.unknown

reserved_range : (r : ReservedRange) → settled descriptor_shape 5 (reserved_range_content r) ≡ reserved_range_content (settled_reserved_range r)
reserved_range r =
    content_settled 5 reserved_range_fields reserved_range_type orders.reserved_range (reserved_range_values r) (reserved_range_values r)
    (and _ _ _ _ (number_same _ r.start)
    (and _ _ _ _ (number_same _ r.«end») refl))
    r.unknown

field : (x : FieldDescriptorProto) → settled descriptor_shape 3 (field_content x) ≡ field_content (settled_field x)
field x =
    content_settled 3 field_fields field_type orders.field (field_values x) (field_values (settled_field x))
    (and _ _ _ _ (text_same _ x.name)
    (and _ _ _ _ (text_same _ x.extendee)
    (and _ _ _ _ (number_same _ x.number)
    (and _ _ _ _ (number_same _ x.label)
    (and _ _ _ _ (number_same _ x.kind)
    (and _ _ _ _ (text_same _ x.type_name)
    (and _ _ _ _ (text_same _ x.default_value)
    (and _ _ _ _ (options_same 16 orders.field_options x.options)
    (and _ _ _ _ (number_same _ x.oneof_index)
    (and _ _ _ _ (text_same _ x.json_name)
    (and _ _ _ _ (truth_same _ x.proto3_optional) refl)))))))))))
    x.unknown

oneof : (o : OneofDescriptorProto) → settled descriptor_shape 6 (oneof_content o) ≡ oneof_content (settled_oneof o)
oneof o =
    content_settled 6 oneof_fields oneof_type orders.oneof (oneof_values o) (oneof_values (settled_oneof o))
    (and _ _ _ _ (text_same _ o.name)
    (and _ _ _ _ (options_same 18 orders.oneof_options o.options) refl))
    o.unknown

enum_range : (r : EnumReservedRange) → settled descriptor_shape 8 (enum_reserved_range_content r) ≡ enum_reserved_range_content (settled_enum_range r)
enum_range r =
    content_settled 8 enum_reserved_range_fields enum_reserved_range_type orders.enum_range (enum_reserved_range_values r) (enum_reserved_range_values r)
    (and _ _ _ _ (number_same _ r.start)
    (and _ _ _ _ (number_same _ r.«end») refl))
    r.unknown

value : (v : EnumValueDescriptorProto) → settled descriptor_shape 9 (enum_value_content v) ≡ enum_value_content (settled_value v)
value v =
    content_settled 9 enum_value_fields enum_value_type orders.value (enum_value_values v) (enum_value_values (settled_value v))
    (and _ _ _ _ (text_same _ v.name)
    (and _ _ _ _ (number_same _ v.number)
    (and _ _ _ _ (options_same 20 orders.value_options v.options) refl)))
    v.unknown

enum : (e : EnumDescriptorProto) → settled descriptor_shape 7 (enum_content e) ≡ enum_content (settled_enum e)
enum e =
    content_settled 7 enum_fields enum_type orders.enum (enum_values e) (enum_values (settled_enum e))
    (and _ _ _ _ (text_same _ e.name)
    (and _ _ _ _ (records_same 9 enum_value_content settled_value value e.value)
    (and _ _ _ _ (options_same 19 orders.enum_options e.options)
    (and _ _ _ _ (records_same 8 enum_reserved_range_content settled_enum_range enum_range e.reserved_range)
    (and _ _ _ _ (texts_same _ e.reserved_name) refl)))))
    e.unknown

method : (m : MethodDescriptorProto) → settled descriptor_shape 11 (method_content m) ≡ method_content (settled_method m)
method m =
    content_settled 11 method_fields method_type orders.method (method_values m) (method_values (settled_method m))
    (and _ _ _ _ (text_same _ m.name)
    (and _ _ _ _ (text_same _ m.input_type)
    (and _ _ _ _ (text_same _ m.output_type)
    (and _ _ _ _ (options_same 22 orders.method_options m.options)
    (and _ _ _ _ (truth_same _ m.client_streaming)
    (and _ _ _ _ (truth_same _ m.server_streaming) refl))))))
    m.unknown

service : (s : ServiceDescriptorProto) → settled descriptor_shape 10 (service_content s) ≡ service_content (settled_service s)
service s =
    content_settled 10 service_fields service_type orders.service (service_values s) (service_values (settled_service s))
    (and _ _ _ _ (text_same _ s.name)
    (and _ _ _ _ (records_same 11 method_content settled_method method s.method)
    (and _ _ _ _ (options_same 21 orders.service_options s.options) refl)))
    s.unknown

location : (l : Location) → settled descriptor_shape 13 (location_content l) ≡ location_content (settled_location l)
location l =
    content_settled 13 location_fields location_type orders.location (location_values l) (location_values l)
    (and _ _ _ _ (numbers_same _ l.path)
    (and _ _ _ _ (numbers_same _ l.span)
    (and _ _ _ _ (text_same _ l.leading_comments)
    (and _ _ _ _ (text_same _ l.trailing_comments)
    (and _ _ _ _ (texts_same _ l.leading_detached_comments) refl)))))
    l.unknown

source : (s : SourceCodeInfo) → settled descriptor_shape 12 (source_code_info_content s) ≡ source_code_info_content (settled_source s)
source s =
    content_settled 12 source_code_info_fields source_code_info_type orders.source (source_code_info_values s) (source_code_info_values (settled_source s))
    (and _ _ _ _ (records_same 13 location_content settled_location location s.location) refl)
    s.unknown

-- ---- messages

-- one layer, with the contents of nested messages in their places
abbrev layer_content : List DescriptorProto → DescriptorProto-F DescriptorProto → Content
layer_content ns o = message_step (layer_with (map message_content ns) o)

abbrev AreSettled : List DescriptorProto → Type 0
AreSettled ms = map (λ (m : DescriptorProto). settled descriptor_shape 2 (message_content m)) ms ≡ map message_content (map settled_message ms)

nested : (ms : List DescriptorProto) → AreSettled ms
    → settled_if 2 (listed (map message (map message_content ms))) ≡ listed (map message (map message_content (map settled_message ms)))
nested ms e =
    ap (λ (vs : List Val). settled_if 2 (listed vs)) (map_twice message_content message ms)
    ∙ list_same 2 (λ m. message (message_content m)) (λ m. message (settled descriptor_shape 2 (message_content m))) (λ m. refl) ms
    ∙ ap listed (sym (map_twice (λ (m : DescriptorProto). settled descriptor_shape 2 (message_content m)) message ms) ∙ ap (map message) e)

layer : (o : DescriptorProto-F DescriptorProto) → AreSettled o.nested_type
    → settled descriptor_shape 2 (layer_content o.nested_type o) ≡ layer_content (map settled_message o.nested_type) (settled_open o)
layer o e =
    content_settled 2 message_fields message_type orders.message (message_values (layer_with (map message_content o.nested_type) o))
    (message_values (layer_with (map message_content (map settled_message o.nested_type)) (settled_open o)))
    (and _ _ _ _ (text_same _ o.name)
    (and _ _ _ _ (records_same 3 field_content settled_field field o.field)
    (and _ _ _ _ (nested o.nested_type e)
    (and _ _ _ _ (records_same 7 enum_content settled_enum enum o.enum_type)
    (and _ _ _ _ (records_same 4 extension_range_content settled_extension_range extension_range o.extension_range)
    (and _ _ _ _ (records_same 3 field_content settled_field field o.extension)
    (and _ _ _ _ (options_same 15 orders.message_options o.options)
    (and _ _ _ _ (records_same 6 oneof_content settled_oneof oneof o.oneof_decl)
    (and _ _ _ _ (records_same 5 reserved_range_content settled_reserved_range reserved_range o.reserved_range)
    (and _ _ _ _ (texts_same _ o.reserved_name) refl))))))))))
    o.unknown

each : {S : Type 0} (v : S → DescriptorProto) → ((s : S) → settled descriptor_shape 2 (message_content (v s)) ≡ message_content (settled_message (v s)))
    → (ss : List S)
    → AreSettled (map v ss)
each v h [] = refl
each v h (s ∷ ss) = and _ _ _ _ (h s) (each v h ss)

rolled : (o : DescriptorProto-F DescriptorProto) → AreSettled o.nested_type
    → settled descriptor_shape 2 (message_content (roll-DescriptorProto o)) ≡ message_content (settled_message (roll-DescriptorProto o))
rolled o e =
    let m : DescriptorProto = roll-DescriptorProto o in
    let once : out-DescriptorProto (settled_message m) ≡ settled_open o = settled_out m ∙ ap settled_open (out-roll-DescriptorProto o) in
    ap (settled descriptor_shape 2)
    (message_content_at m ∙ ap (λ (l : DescriptorProto-F DescriptorProto). layer_content l.nested_type l) (out-roll-DescriptorProto o))
    ∙ layer o e
    ∙ ap (λ (l : DescriptorProto-F DescriptorProto). layer_content l.nested_type l) (sym once)
    ∙ sym (message_content_at (settled_message m))

pub messages : (m : DescriptorProto) → settled descriptor_shape 2 (message_content m) ≡ message_content (settled_message m)
messages =
    ind-DescriptorProto (λ m. settled descriptor_shape 2 (message_content m) ≡ message_content (settled_message m))
    (λ o inside e. rolled o (subst (λ (p : DescriptorProto-F DescriptorProto). AreSettled p.nested_type) e (each (λ s. s.0) (λ s. s.1) inside.nested_type)))

-- ---- files

pub settled_content : SettledContent
settled_content f =
    content_settled 1 file_fields file_type orders.file (file_values f) (file_values (settled_file f))
    (and _ _ _ _ (text_same _ f.name)
    (and _ _ _ _ (text_same _ f.«package»)
    (and _ _ _ _ (texts_same _ f.dependency)
    (and _ _ _ _ (records_same 2 message_content settled_message messages f.message_type)
    (and _ _ _ _ (records_same 7 enum_content settled_enum enum f.enum_type)
    (and _ _ _ _ (records_same 10 service_content settled_service service f.service)
    (and _ _ _ _ (records_same 3 field_content settled_field field f.extension)
    (and _ _ _ _ (options_same 14 orders.file_options f.options)
    (and _ _ _ _ (record_same 12 source_code_info_content settled_source source f.source_code_info)
    (and _ _ _ _ (numbers_same _ f.public_dependency)
    (and _ _ _ _ (numbers_same _ f.weak_dependency)
    (and _ _ _ _ (text_same _ f.syntax) refl))))))))))))
    f.unknown
