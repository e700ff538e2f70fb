-- Rules on the entries of maps that need no look-up of types (Protocol Buffers language guide: "Maps"; `descriptor.proto`:
-- MessageOptions.map_entry).
use Rattle.std.specs.Prelude.{ℕ, pos, negsuc, nat_le, ◌==◌, ◌&&◌, ◌||◌, not, is_none, ℤ, List, [], ◌∷◌, ◌++◌, Bool, true, false, Option, Some, None, codes}
use Rattle.pbx_desc_records.specs.declared.field.FieldDescriptorProto.{FieldDescriptorProto}
use Rattle.pbx_desc_records.specs.declared.file.FileDescriptorProto.{FileDescriptorProto}
use Rattle.pbx_desc_records.specs.declared.message.DescriptorProto.{DescriptorProto, out-DescriptorProto}
use Rattle.pbx_link_definitions.specs.Names.{is_named}
use Rattle.pbx_link_definitions.specs.Says.{is_number, is_optional, is_entry}
use Rattle.pbx_link_definitions.specs.Definitions.{Place, Part, top_messages, messages}
use Rattle.pbx_link_definitions.specs.Places.{places_where}

-- a field of an entry: optional, without default and oneof
abbrev pub is_entry_field : List ℕ → ℕ → FieldDescriptorProto → Bool
is_entry_field name n x = is_named x.name name && is_number x.number n && is_optional x && is_none x.default_value && is_none x.oneof_index

-- an integer, `bool` or `string`
abbrev pub is_key_type : Option ℤ → Bool
is_key_type None = false
is_key_type (Some (negsuc n)) = false
is_key_type (Some (pos n)) = nat_le 3 n && nat_le n 18 && not (nat_le 10 n && nat_le n 12) && not (n == 14)

-- the field `key` of an entry
abbrev pub is_key : FieldDescriptorProto → Bool
is_key x = is_entry_field (codes "key") 1 x && is_key_type x.kind

-- the field `value` of an entry
abbrev pub is_value : FieldDescriptorProto → Bool
is_value x = is_entry_field (codes "value") 2 x

-- a key and a value, in any order
abbrev pub are_entry_fields : List FieldDescriptorProto → Bool
are_entry_fields [] = false
are_entry_fields (x ∷ []) = false
are_entry_fields (x ∷ y ∷ []) = (is_key x && is_value y) || (is_value x && is_key y)
are_entry_fields (x ∷ y ∷ z ∷ xs) = false

-- no item is in the list
abbrev pub is_empty : {X : Type 0} → List X → Bool
is_empty [] = true
is_empty (x ∷ xs) = false

-- a key and a value, and nothing beside them; an entry may declare extensions and reserved names
abbrev pub is_proper_entry : DescriptorProto → Bool
is_proper_entry m =
    let own = out-DescriptorProto m in
    are_entry_fields own.field && is_empty own.oneof_decl && is_empty own.nested_type && is_empty own.enum_type
    && is_empty own.extension_range && is_empty own.reserved_range

-- an entry of another form
abbrev pub is_bad_entry : DescriptorProto → Bool
is_bad_entry m = is_entry m && not (is_proper_entry m)

-- entries at the top of a file, and entries of another form
abbrev pub bad_entries : FileDescriptorProto → List Place
bad_entries f =
    places_where (λ (m : Part DescriptorProto). is_entry m.item) (λ m. m.place) (top_messages f)
    ++ places_where (λ (m : Part DescriptorProto). is_bad_entry m.item) (λ m. m.place) (messages f)
