-- What descriptors stand for: parts of the linked records of a pool, beside the pool (Protocol Buffers `descriptor.proto`; the
-- reflection calls of the C++ and Java guides).
use Rattle.std.specs.Prelude.{◌≡◌, ℕ, ◌==◌, if◌then◌else◌, ◌&&◌, ◌||◌, not, ℤ, List, [], ◌∷◌}
use Rattle.std.specs.Prelude.{◌++◌, refl, map, filter, find, Bool, false, Option, Some, None, is_some, option_and_then}
use Rattle.std.specs.List.{flat_map}
use Rattle.std.specs.Str.{bytes_eq}
use Rattle.std.specs.Coded.{Coded, code_by, coded×, coded_list}
use Rattle.pbx_desc_records.specs.contracts.file.FileDescriptorProto as file_proto
use Rattle.pbx_desc_records.specs.declared.enumeration.EnumDescriptorProto.{EnumDescriptorProto}
use Rattle.pbx_desc_records.specs.declared.enumeration.EnumValueDescriptorProto.{EnumValueDescriptorProto}
use Rattle.pbx_desc_records.specs.declared.field.FieldDescriptorProto.{FieldDescriptorProto}
use Rattle.pbx_desc_records.specs.declared.field.OneofDescriptorProto.{OneofDescriptorProto}
use Rattle.pbx_desc_records.specs.declared.file.FileDescriptorProto.{FileDescriptorProto}
use Rattle.pbx_desc_records.specs.declared.message.DescriptorProto.{DescriptorProto}
use Rattle.pbx_desc_records.specs.declared.service.MethodDescriptorProto.{MethodDescriptorProto}
use Rattle.pbx_desc_records.specs.declared.service.ServiceDescriptorProto.{ServiceDescriptorProto}
use Rattle.pbx_link_definitions.specs.Names.{is_named, dotted}
use Rattle.pbx_link_definitions.specs.Definitions.{Part, message_name, enum_name, service_name, field_name, fields_in, oneofs_in}
use Rattle.pbx_link_definitions.specs.Definitions.{values_in, methods_in, messages, fields, oneofs, enums, extensions, services}
use Rattle.pbx_link_definitions.specs.Definitions.{top_messages, top_enums, top_extensions}
use Rattle.pbx_link_definitions.specs.Says.{is_number, are_equal, is_repeated, is_proto3, is_entry, is_set, number_or_zero, option_bool}
use Rattle.pbx_link_definitions.specs.Codes.{part_code}

-- ---- values of descriptors

-- a file of a pool
pub record FileDescribed : Type 0 where
  pub pool : List FileDescriptorProto
  pub file : FileDescriptorProto

-- a part of a file of a pool: a message, field, oneof, enum, value, extension, service or method
pub record Described (X : Type 0) : Type 0 where
  pub pool : List FileDescriptorProto
  pub file : FileDescriptorProto
  pub part : Part X

-- a file beside its pool
abbrev pub described_file : List FileDescriptorProto → FileDescriptorProto → FileDescribed
described_file pool f = record { pool = pool; file = f }

-- a part beside its file and pool
abbrev pub described : {X : Type 0} → List FileDescriptorProto → FileDescriptorProto → Part X → Described X
described pool f p = record { pool = pool; file = f; part = p }

-- other parts of the same file
abbrev pub beside : {X Y : Type 0} → Described X → List (Part Y) → List (Described Y)
beside d ps = map (described d.pool d.file) ps

-- the file that declares it
abbrev pub file_of : {X : Type 0} → Described X → FileDescribed
file_of d = described_file d.pool d.file

-- ---- everything of a pool, file by file

-- the files, in order
abbrev pub all_files : List FileDescriptorProto → List FileDescribed
all_files pool = map (described_file pool) pool

-- what is told of each file
abbrev pub all_parts : {X : Type 0} → (FileDescriptorProto → List (Part X)) → List FileDescriptorProto → List (Described X)
all_parts tell pool = flat_map (λ f. map (described pool f) (tell f)) pool

-- every message, nested ones and map entries included, each directly followed by those nested in it
abbrev pub all_messages : List FileDescriptorProto → List (Described DescriptorProto)
all_messages pool = all_parts messages pool

-- every enum
abbrev pub all_enums : List FileDescriptorProto → List (Described EnumDescriptorProto)
all_enums pool = all_parts enums pool

-- every extension, in the order of places in each file
abbrev pub all_extensions : List FileDescriptorProto → List (Described FieldDescriptorProto)
all_extensions pool = all_parts extensions pool

-- every service
abbrev pub all_services : List FileDescriptorProto → List (Described ServiceDescriptorProto)
all_services pool = all_parts services pool

-- ---- what a file declares outside of messages, in declared order

-- parts of the file
abbrev pub in_file : {X : Type 0} → FileDescribed → List (Part X) → List (Described X)
in_file d ps = map (described d.pool d.file) ps

-- its messages that no other holds
abbrev pub messages_of_file : FileDescribed → List (Described DescriptorProto)
messages_of_file d = in_file d (top_messages d.file)

-- its enums that no message holds
abbrev pub enums_of_file : FileDescribed → List (Described EnumDescriptorProto)
enums_of_file d = in_file d (top_enums d.file)

-- its extensions that stand in no message
abbrev pub extensions_of_file : FileDescribed → List (Described FieldDescriptorProto)
extensions_of_file d = in_file d (top_extensions d.file)

-- its services
abbrev pub services_of_file : FileDescribed → List (Described ServiceDescriptorProto)
services_of_file d = in_file d (services d.file)

-- ---- by exact names

-- the file of exactly this name
abbrev pub file_of_name : List FileDescriptorProto → List ℕ → Option FileDescribed
file_of_name pool name = find (λ d. is_named d.file.name name) (all_files pool)

-- the message of exactly this full name
abbrev pub message_of_name : List FileDescriptorProto → List ℕ → Option (Described DescriptorProto)
message_of_name pool name = find (λ d. bytes_eq (message_name d.part) name) (all_messages pool)

-- the enum of exactly this full name
abbrev pub enum_of_name : List FileDescriptorProto → List ℕ → Option (Described EnumDescriptorProto)
enum_of_name pool name = find (λ d. bytes_eq (enum_name d.part) name) (all_enums pool)

-- the extension of exactly this full name
abbrev pub extension_of_name : List FileDescriptorProto → List ℕ → Option (Described FieldDescriptorProto)
extension_of_name pool name = find (λ d. bytes_eq (field_name d.part) name) (all_extensions pool)

-- the service of exactly this full name
abbrev pub service_of_name : List FileDescriptorProto → List ℕ → Option (Described ServiceDescriptorProto)
service_of_name pool name = find (λ d. bytes_eq (service_name d.part) name) (all_services pool)

-- what stands behind a leading dot
abbrev pub behind_dot : List ℕ → Option (List ℕ)
behind_dot [] = None
behind_dot (b ∷ name) = if b == 46 then Some name else None

-- the full name that a linked reference names: it stands there behind a dot
abbrev pub referred : Option (List ℕ) → Option (List ℕ)
referred name = option_and_then behind_dot name

-- the message that a linked reference names
abbrev pub message_referred : List FileDescriptorProto → Option (List ℕ) → Option (Described DescriptorProto)
message_referred pool name = option_and_then (message_of_name pool) (referred name)

-- the enum that a linked reference names
abbrev pub enum_referred : List FileDescriptorProto → Option (List ℕ) → Option (Described EnumDescriptorProto)
enum_referred pool name = option_and_then (enum_of_name pool) (referred name)

-- ---- messages

-- its fields in declared order
abbrev pub fields_of_message : Described DescriptorProto → List (Described FieldDescriptorProto)
fields_of_message d = beside d (fields_in d.part)

-- its oneofs in declared order
abbrev pub oneofs_of_message : Described DescriptorProto → List (Described OneofDescriptorProto)
oneofs_of_message d = beside d (oneofs_in d.part)

-- the extensions of the pool that extend the message, in the order of the pool
abbrev pub extensions_of_message : Described DescriptorProto → List (Described FieldDescriptorProto)
extensions_of_message d = filter (λ (x : Described FieldDescriptorProto). is_named x.part.item.extendee (dotted (message_name d.part))) (all_extensions d.pool)

-- the key of an extension in canonical JSON (Protocol Buffers "ProtoJSON Format": extensions stand under `[full.name]`)
abbrev pub extension_json_name : Described FieldDescriptorProto → List ℕ
extension_json_name x = 91 ∷ field_name x.part ++ 93 ∷ []

-- the first of the fields with this number
abbrev pub with_number : List (Described FieldDescriptorProto) → ℕ → Option (Described FieldDescriptorProto)
with_number xs n = find (λ (x : Described FieldDescriptorProto). is_number x.part.item.number n) xs

-- the first with this name
abbrev pub with_name : List (Described FieldDescriptorProto) → List ℕ → Option (Described FieldDescriptorProto)
with_name xs name = find (λ (x : Described FieldDescriptorProto). is_named x.part.item.name name) xs

-- the first with this JSON name
abbrev pub with_json_name : List (Described FieldDescriptorProto) → List ℕ → Option (Described FieldDescriptorProto)
with_json_name xs name = find (λ (x : Described FieldDescriptorProto). is_named x.part.item.json_name name) xs

-- the first extension with this JSON name
abbrev pub extension_with_json_name : List (Described FieldDescriptorProto) → List ℕ → Option (Described FieldDescriptorProto)
extension_with_json_name xs name = find (λ x. bytes_eq (extension_json_name x) name) xs

-- Two messages are the same: their full names are equal, and their pools have the same records in the same order.
pub record IsSame (d e : Described DescriptorProto) : Type 0 where
  pub name : message_name d.part ≡ message_name e.part
  pub pool : d.pool ≡ e.pool

-- ---- fields and extensions

-- the number in the keys of its records
abbrev pub number_of_field : Described FieldDescriptorProto → ℕ
number_of_field x = number_or_zero x.part.item.number

-- the message that an extension extends
abbrev pub extended_of : Described FieldDescriptorProto → Option (Described DescriptorProto)
extended_of x = message_referred x.pool x.part.item.extendee

-- the message in whose body the part stands; None where it stands in the file, since no package has the name of a message
abbrev pub parent_of : {X : Type 0} → Described X → Option (Described DescriptorProto)
parent_of d = find (λ m. bytes_eq (message_name m.part) d.part.scope) (beside d (messages d.file))

-- the type of a field is the entry of a map
abbrev pub is_entry_described : Option (Described DescriptorProto) → Bool
is_entry_described None = false
is_entry_described (Some m) = is_entry m.part.item

-- a repeated field of entries (Protocol Buffers "Language Guide": Maps)
abbrev pub is_map : Described FieldDescriptorProto → Bool
is_map x = is_repeated x.part.item && is_entry_described (message_referred x.pool x.part.item.type_name)

-- a repeated field that is no map
abbrev pub is_list : Described FieldDescriptorProto → Bool
is_list x = is_repeated x.part.item && not (is_map x)

-- whether a list of the type may be packed: all scalars but strings and bytes, and enums (Protocol Buffers "Encoding": Packed Repeated Fields)
abbrev pub is_packable : Option ℤ → Bool
is_packable t = not (is_number t 9 || is_number t 11 || is_number t 12)

-- what the option `packed` says, or else what the syntax says: proto3 packs
abbrev pub packed_by : Bool → Option Bool → Bool
packed_by proto3 None = proto3
packed_by proto3 (Some packed) = packed

-- a list that is written as one record
abbrev pub is_packed : Described FieldDescriptorProto → Bool
is_packed x = is_repeated x.part.item && is_packable x.part.item.kind && packed_by (is_proto3 x.file) (option_bool 2 x.part.item.options)

-- a singular field of proto2, of a message type, or in a oneof (Protocol Buffers "Application Note: Field Presence")
abbrev pub has_presence : Described FieldDescriptorProto → Bool
has_presence x = not (is_repeated x.part.item) && (not (is_proto3 x.file) || is_number x.part.item.kind 11 || is_some x.part.item.oneof_index)

-- every singular extension has presence
abbrev pub extension_has_presence : Described FieldDescriptorProto → Bool
extension_has_presence x = not (is_repeated x.part.item)

-- ---- oneofs, enums, services

-- the field is a member of the oneof, which is one of the same message
abbrev pub is_member : Part FieldDescriptorProto → Part OneofDescriptorProto → Bool
is_member x o = bytes_eq x.scope o.scope && is_number x.item.oneof_index o.index

-- its members in declared order
abbrev pub fields_of_oneof : Described OneofDescriptorProto → List (Described FieldDescriptorProto)
fields_of_oneof d = beside d (filter (λ x. is_member x d.part) (fields d.file))

-- the oneof that the field is a member of
abbrev pub oneof_of_field : Described FieldDescriptorProto → Option (Described OneofDescriptorProto)
oneof_of_field x = find (λ o. is_member x.part o.part) (beside x (oneofs x.file))

-- its values in declared order
abbrev pub values_of_enum : Described EnumDescriptorProto → List (Described EnumValueDescriptorProto)
values_of_enum d = beside d (values_in d.part)

-- the first declared value of the number
abbrev pub value_with_number : List (Described EnumValueDescriptorProto) → ℤ → Option (Described EnumValueDescriptorProto)
value_with_number vs z = find (λ (v : Described EnumValueDescriptorProto). are_equal v.part.item.number (Some z)) vs

-- the value of the name
abbrev pub value_with_name : List (Described EnumValueDescriptorProto) → List ℕ → Option (Described EnumValueDescriptorProto)
value_with_name vs name = find (λ (v : Described EnumValueDescriptorProto). is_named v.part.item.name name) vs

-- its methods in declared order
abbrev pub methods_of_service : Described ServiceDescriptorProto → List (Described MethodDescriptorProto)
methods_of_service d = beside d (methods_in d.part)

-- whether the method takes a stream of messages; one where the record says nothing (Protocol Buffers `descriptor.proto`: MethodDescriptorProto)
abbrev pub takes_stream : Described MethodDescriptorProto → Bool
takes_stream d = is_set d.part.item.client_streaming

-- whether it gives a stream of messages
abbrev pub gives_stream : Described MethodDescriptorProto → Bool
gives_stream d = is_set d.part.item.server_streaming

-- ---- codes, as those of tuples of the fields

-- of a file, as that of the pair
abbrev pub file_code : Coded FileDescribed
file_code =
    code_by (List FileDescriptorProto × FileDescriptorProto) (coded× (coded_list file_proto.the_row.coded) file_proto.the_row.coded)
    (λ d. (d.pool, d.file)) (λ p. record { pool = p.0; file = p.1 }) (λ _. refl)

-- of a part, as that of the triple
abbrev pub described_code : {X : Type 0} → Coded X → Coded (Described X)
described_code {X} c =
    code_by (List FileDescriptorProto × (FileDescriptorProto × Part X))
    (coded× (coded_list file_proto.the_row.coded) (coded× file_proto.the_row.coded (part_code c)))
    (λ d. (d.pool, (d.file, d.part))) (λ p. record { pool = p.0; file = p.1.0; part = p.1.1 }) (λ _. refl)
