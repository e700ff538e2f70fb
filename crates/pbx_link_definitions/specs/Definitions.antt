-- What the record of a file defines, part by part, with full names and places (Protocol Buffers `descriptor.proto`: the nesting of
-- FileDescriptorProto, DescriptorProto, EnumDescriptorProto and ServiceDescriptorProto; SourceCodeInfo.Location.path for places).
use Rattle.std.specs.Prelude.{ℕ, ℤ, pos, List, [], ◌∷◌, ◌++◌, map, Bool, true, false, Option}
use Rattle.std.specs.List.{flat_map, enumerate_from}
use Rattle.pbx_desc_records.specs.declared.enumeration.EnumDescriptorProto.{EnumDescriptorProto}
use Rattle.pbx_desc_records.specs.declared.enumeration.EnumValueDescriptorProto.{EnumValueDescriptorProto}
use Rattle.pbx_desc_records.specs.declared.field.FieldDescriptorProto.{FieldDescriptorProto}
use Rattle.pbx_desc_records.specs.declared.field.OneofDescriptorProto.{OneofDescriptorProto}
use Rattle.pbx_desc_records.specs.declared.file.FileDescriptorProto.{FileDescriptorProto}
use Rattle.pbx_desc_records.specs.declared.message.DescriptorProto.{DescriptorProto, out-DescriptorProto, roll-DescriptorProto, fold-DescriptorProto}
use Rattle.pbx_desc_records.specs.declared.message.DescriptorProto.TheOpen.{DescriptorProto-F}
use Rattle.pbx_desc_records.specs.declared.service.MethodDescriptorProto.{MethodDescriptorProto}
use Rattle.pbx_desc_records.specs.declared.service.ServiceDescriptorProto.{ServiceDescriptorProto}
use Rattle.pbx_link_definitions.specs.declared.definitions.Sort.{Sort}
use Rattle.pbx_link_definitions.specs.declared.definitions.Sort.TheVariants.{Message as a_message, Field as a_field, Oneof as a_oneof, Enum as an_enum}
use Rattle.pbx_link_definitions.specs.declared.definitions.Sort.TheVariants.{Value as a_value, Extension as an_extension, Service as a_service, Method as a_method}
use Rattle.pbx_link_definitions.specs.Names.{text_or_empty, qualified}
use Rattle.pbx_link_definitions.specs.Says.{own_name, own_fields}

-- a place in a file's record: a path of field numbers of `descriptor.proto` and of indexes
abbrev pub Place : Type 0
Place = List ℤ

-- a part of a file's record: the full name of what holds it, its place, which of its kind it is there, and the record
pub record Part (X : Type 0) : Type 0 where
  pub scope : List ℕ
  pub place : Place
  pub index : ℕ
  pub item : X

-- the place of a field of the part's record
abbrev pub at : {X : Type 0} → Part X → ℕ → Place
at p n = p.place ++ pos n ∷ []

-- the item of this index as a part; the list that it stands in is the field of number n of what stands at the place
abbrev pub part : {X : Type 0} → List ℕ → Place → ℕ → ℕ → X → Part X
part scope place n i x = record { scope = scope; place = place ++ pos n ∷ pos i ∷ []; index = i; item = x }

-- the items of such a list as parts
abbrev pub parts : {X : Type 0} → List ℕ → Place → ℕ → List X → List (Part X)
parts scope place n xs = map (λ x. part scope place n x.0 x.1) (enumerate_from 0 xs)

-- ---- what is in a message, an enum and a service

-- the full name of a message
abbrev pub message_name : Part DescriptorProto → List ℕ
message_name p = qualified p.scope (own_name p.item)

-- the full name of an enum
abbrev pub enum_name : Part EnumDescriptorProto → List ℕ
enum_name p = qualified p.scope (text_or_empty p.item.name)

-- the full name of a service
abbrev pub service_name : Part ServiceDescriptorProto → List ℕ
service_name p = qualified p.scope (text_or_empty p.item.name)

-- the full name of a field or an extension
abbrev pub field_name : Part FieldDescriptorProto → List ℕ
field_name p = qualified p.scope (text_or_empty p.item.name)

-- the fields of a message (field 2 of DescriptorProto), in its scope
abbrev pub fields_in : Part DescriptorProto → List (Part FieldDescriptorProto)
fields_in p = parts (message_name p) p.place 2 (own_fields p.item)

-- the messages in a message's body (field 3)
abbrev pub nested_in : Part DescriptorProto → List (Part DescriptorProto)
nested_in p = parts (message_name p) p.place 3 (out-DescriptorProto p.item).nested_type

-- the enums in a message's body (field 4)
abbrev pub enums_in : Part DescriptorProto → List (Part EnumDescriptorProto)
enums_in p = parts (message_name p) p.place 4 (out-DescriptorProto p.item).enum_type

-- the extensions that stand in a message's body, which mostly extend others (field 6)
abbrev pub extensions_in : Part DescriptorProto → List (Part FieldDescriptorProto)
extensions_in p = parts (message_name p) p.place 6 (out-DescriptorProto p.item).extension

-- the oneofs of a message (field 8)
abbrev pub oneofs_in : Part DescriptorProto → List (Part OneofDescriptorProto)
oneofs_in p = parts (message_name p) p.place 8 (out-DescriptorProto p.item).oneof_decl

-- the values of an enum, which stand in the scope that holds the enum (`descriptor.proto`: enum values are siblings of their type)
abbrev pub values_in : Part EnumDescriptorProto → List (Part EnumValueDescriptorProto)
values_in p = parts p.scope p.place 2 p.item.value

-- the methods of a service (field 2 of ServiceDescriptorProto)
abbrev pub methods_in : Part ServiceDescriptorProto → List (Part MethodDescriptorProto)
methods_in p = parts (service_name p) p.place 2 p.item.method

-- ---- a message and those nested in it

-- one layer of a message, with these in the places of its nested messages
abbrev pub layer_with : {A B : Type 0} → List B → DescriptorProto-F A → DescriptorProto-F B
layer_with nested o = record {
  name = o.name;
  field = o.field;
  nested_type = nested;
  enum_type = o.enum_type;
  extension_range = o.extension_range;
  extension = o.extension;
  options = o.options;
  oneof_decl = o.oneof_decl;
  reserved_range = o.reserved_range;
  reserved_name = o.reserved_name;
  unknown = o.unknown;
}

-- a message, beside what is told of it once its scope, place and index are known
abbrev pub Told : Type 0 → Type 0
Told X = DescriptorProto × (List ℕ → Place → ℕ → List X)

-- one layer of that: of the message, of the nested ones in its scope (field 3 of DescriptorProto), of the message again
abbrev pub told_step : {X : Type 0} → (Part DescriptorProto → List X) → (Part DescriptorProto → List X) → DescriptorProto-F (Told X) → Told X
told_step first last m =
    let own : DescriptorProto = roll-DescriptorProto (layer_with (map (λ t. t.0) m.nested_type) m) in (
      own,
      λ scope place index.
          let p : Part DescriptorProto = record { scope = scope; place = place; index = index; item = own } in
          first p ++ flat_map (λ t. t.1.1 (message_name p) (place ++ pos 3 ∷ pos t.0 ∷ []) t.0) (enumerate_from 0 m.nested_type) ++ last p,
    )

-- what `first` tells of a message, then the same of those nested in it, each with its own nested ones, then what `last` tells
unfoldable pub around : {X : Type 0} → (Part DescriptorProto → List X) → (Part DescriptorProto → List X) → Part DescriptorProto → List X
around {X} first last p = (fold-DescriptorProto (Told X) (told_step first last) p.item).1 p.scope p.place p.index

-- the message alone
abbrev pub itself : Part DescriptorProto → List (Part DescriptorProto)
itself p = p ∷ []

-- nothing is told of a message
abbrev pub nothing : {X : Type 0} → Part DescriptorProto → List X
nothing p = []

-- ---- what is in a file

-- the package, which is the root where the file has none
abbrev pub package_of : FileDescriptorProto → List ℕ
package_of f = text_or_empty f.«package»

-- the messages that no other holds (field 4 of FileDescriptorProto)
abbrev pub top_messages : FileDescriptorProto → List (Part DescriptorProto)
top_messages f = parts (package_of f) [] 4 f.message_type

-- a message and those nested in it, each directly followed by those nested in it
unfoldable pub messages_from : Part DescriptorProto → List (Part DescriptorProto)
messages_from = around itself nothing

-- every message, nested ones and map entries included, each directly followed by those nested in it
abbrev pub messages : FileDescriptorProto → List (Part DescriptorProto)
messages f = flat_map messages_from (top_messages f)

-- every field of a message
abbrev pub fields : FileDescriptorProto → List (Part FieldDescriptorProto)
fields f = flat_map fields_in (messages f)

-- every oneof
abbrev pub oneofs : FileDescriptorProto → List (Part OneofDescriptorProto)
oneofs f = flat_map oneofs_in (messages f)

-- the enums that no message holds (field 5 of FileDescriptorProto)
abbrev pub top_enums : FileDescriptorProto → List (Part EnumDescriptorProto)
top_enums f = parts (package_of f) [] 5 f.enum_type

-- every enum
abbrev pub enums : FileDescriptorProto → List (Part EnumDescriptorProto)
enums f = flat_map enums_in (messages f) ++ top_enums f

-- every value of an enum
abbrev pub values : FileDescriptorProto → List (Part EnumValueDescriptorProto)
values f = flat_map values_in (enums f)

-- the services (field 6)
abbrev pub services : FileDescriptorProto → List (Part ServiceDescriptorProto)
services f = parts (package_of f) [] 6 f.service

-- every method
abbrev pub methods : FileDescriptorProto → List (Part MethodDescriptorProto)
methods f = flat_map methods_in (services f)

-- the extensions that stand in no message (field 7)
abbrev pub top_extensions : FileDescriptorProto → List (Part FieldDescriptorProto)
top_extensions f = parts (package_of f) [] 7 f.extension

-- the extensions in a message, behind those in the messages nested in it
unfoldable pub extensions_from : Part DescriptorProto → List (Part FieldDescriptorProto)
extensions_from = around nothing extensions_in

-- every extension in the order of places: those in a message's body after those of the messages nested in it, and those of the file last
abbrev pub extensions : FileDescriptorProto → List (Part FieldDescriptorProto)
extensions f = flat_map extensions_from (top_messages f) ++ top_extensions f

-- ---- definitions: all that has a full name

-- a definition: the full name of what holds it, its own name, its sort and its place
pub record Defined : Type 0 where
  pub scope : List ℕ
  pub name : List ℕ
  pub sort : Sort
  pub place : Place

-- its full name
abbrev pub full_name : Defined → List ℕ
full_name d = qualified d.scope d.name

-- the place of its name, which is the field 1 of every record of a definition
abbrev pub name_place : Defined → Place
name_place d = d.place ++ pos 1 ∷ []

-- a part as a definition of this sort, by where its record has its name
abbrev pub defined : {X : Type 0} → Sort → (X → Option (List ℕ)) → Part X → Defined
defined sort name p = record { scope = p.scope; name = text_or_empty (name p.item); sort = sort; place = p.place }

-- the values of an enum
abbrev pub value_definitions : Part EnumDescriptorProto → List Defined
value_definitions p = map (defined a_value (λ (v : EnumValueDescriptorProto). v.name)) (values_in p)

-- an enum and its values
abbrev pub enum_definitions : Part EnumDescriptorProto → List Defined
enum_definitions p = defined an_enum (λ (e : EnumDescriptorProto). e.name) p ∷ value_definitions p

-- a service and its methods
abbrev pub service_definitions : Part ServiceDescriptorProto → List Defined
service_definitions p =
    defined a_service (λ (s : ServiceDescriptorProto). s.name) p ∷ map (defined a_method (λ (m : MethodDescriptorProto). m.name)) (methods_in p)

-- a field or an extension
abbrev pub field_definition : Sort → Part FieldDescriptorProto → Defined
field_definition sort p = defined sort (λ (x : FieldDescriptorProto). x.name) p

-- a message and its fields
abbrev pub before_nested : Part DescriptorProto → List Defined
before_nested p = defined a_message (λ m. (out-DescriptorProto m).name) p ∷ map (field_definition a_field) (fields_in p)

-- the enums, extensions and oneofs in a message
abbrev pub after_nested : Part DescriptorProto → List Defined
after_nested p =
    flat_map enum_definitions (enums_in p) ++ map (field_definition an_extension) (extensions_in p)
    ++ map (defined a_oneof (λ (o : OneofDescriptorProto). o.name)) (oneofs_in p)

-- what a message and those nested in it define
unfoldable pub definitions_from : Part DescriptorProto → List Defined
definitions_from = around before_nested after_nested

-- all definitions of a file in the order of places, so that the later of two has the greater place
abbrev pub definitions : FileDescriptorProto → List Defined
definitions f =
    flat_map definitions_from (top_messages f) ++ flat_map enum_definitions (top_enums f)
    ++ flat_map service_definitions (services f) ++ map (field_definition an_extension) (top_extensions f)

-- whether names may be looked up in it: a message, an enum or a service
abbrev pub is_scope : Sort → Bool
is_scope a_message = true
is_scope a_field = false
is_scope a_oneof = false
is_scope an_enum = true
is_scope a_value = false
is_scope an_extension = false
is_scope a_service = true
is_scope a_method = false
