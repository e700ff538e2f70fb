-- What is kept of the parts of a file beside its record.
use Rattle.std.specs.Prelude.{◌≡◌, ℕ, List, [], ◌∷◌, ◌++◌, map, Option, option_map, option_and_then, slice_get}
use Rattle.pbx_desc_records.specs.declared.enumeration.EnumDescriptorProto.{EnumDescriptorProto}
use Rattle.pbx_desc_records.specs.declared.field.FieldDescriptorProto.{FieldDescriptorProto}
use Rattle.pbx_desc_records.specs.declared.file.FileDescriptorProto.{FileDescriptorProto}
use Rattle.pbx_desc_records.specs.declared.message.DescriptorProto.{DescriptorProto, out-DescriptorProto}
use Rattle.pbx_desc_records.specs.declared.service.ServiceDescriptorProto.{ServiceDescriptorProto}
use Rattle.pbx_link_definitions.specs.Names.{text_or_empty, qualified}
use Rattle.pbx_link_definitions.specs.Definitions.{Part, messages, enums, extensions, services, field_name, fields_in}
use Rattle.pbx_link_tables.specs.declared.entry.Entry.{Entry}
use Rattle.pbx_link_tables.specs.declared.entry.MessageEntry.{MessageEntry}
use Rattle.pbx_link_tables.specs.declared.entry.Entries.{Entries}

-- a part whose record has this name of its own, without the record
abbrev pub entry : {X : Type 0} → (X → Option (List ℕ)) → Part X → Entry
entry name p = record { scope = p.scope; name = qualified p.scope (text_or_empty (name p.item)); place = p.place; index = p.index }

-- a message, and the full names of its fields
abbrev pub message_entry : Part DescriptorProto → MessageEntry
message_entry p = record { entry = entry (λ m. (out-DescriptorProto m).name) p; fields = map field_name (fields_in p) }

-- an enum
abbrev pub enum_entry : Part EnumDescriptorProto → Entry
enum_entry p = entry (λ (e : EnumDescriptorProto). e.name) p

-- an extension
abbrev pub extension_entry : Part FieldDescriptorProto → Entry
extension_entry p = entry (λ (x : FieldDescriptorProto). x.name) p

-- a service
abbrev pub service_entry : Part ServiceDescriptorProto → Entry
service_entry p = entry (λ (s : ServiceDescriptorProto). s.name) p

-- the full name in brackets
abbrev pub in_brackets : Entry → List ℕ
in_brackets e = 91 ∷ e.name ++ 93 ∷ []

-- the key of an extension in canonical JSON (Protocol Buffers "ProtoJSON Format": extensions stand under `[full.name]`)
abbrev pub json_name : Part FieldDescriptorProto → List ℕ
json_name p = 91 ∷ field_name p ++ 93 ∷ []

-- the entries are those of the file
abbrev pub AreEntries : FileDescriptorProto → Entries → Type 0
AreEntries f e =
    (e.messages ≡ map message_entry (messages f)) × (e.enums ≡ map enum_entry (enums f))
    × (e.extensions ≡ map extension_entry (extensions f)) × (e.services ≡ map service_entry (services f))
    × (e.json_names ≡ map in_brackets e.extensions)

-- the full name of the field of this index in the message of that one
abbrev pub name_of_field : ℕ → ℕ → FileDescriptorProto → Option (List ℕ)
name_of_field message field f = option_and_then (λ p. option_map field_name (slice_get (fields_in p) field)) (slice_get (messages f) message)

-- the part of an entry and of the record that was found for it
abbrev pub with_item : {X : Type 0} → Entry → Option X → Option (Part X)
with_item {X} e found = option_map (λ (x : X). record { scope = e.scope; place = e.place; index = e.index; item = x }) found
