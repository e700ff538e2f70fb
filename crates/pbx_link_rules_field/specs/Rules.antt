-- The rules on the fields of a file taken alone, each as the places of its record at which it is broken (Protocol Buffers language
-- guides; `descriptor.proto`; the checks of protoc's descriptor pool).
use Rattle.std.specs.Prelude.{ℕ, nat_lt, nat_le, ◌==◌, ◌&&◌, ◌||◌, not, ℤ, pos, negsuc, List, [], ◌++◌, map, filter, length, Bool, true, false}
use Rattle.std.specs.Prelude.{is_some, is_none, Option, Some, None}
use Rattle.std.specs.List.{flat_map}
use Rattle.pbx_desc_records.specs.declared.field.FieldDescriptorProto.{FieldDescriptorProto}
use Rattle.pbx_desc_records.specs.declared.field.OneofDescriptorProto.{OneofDescriptorProto}
use Rattle.pbx_desc_records.specs.declared.file.FileDescriptorProto.{FileDescriptorProto}
use Rattle.pbx_desc_records.specs.declared.message.DescriptorProto.{DescriptorProto, out-DescriptorProto}
use Rattle.pbx_link_definitions.specs.Names.{text_or_empty, among}
use Rattle.pbx_link_definitions.specs.Says.{is_number, is_proto3, is_set, is_optional, are_equal}
use Rattle.pbx_link_definitions.specs.Definitions.{Place, Part, at, fields_in, oneofs_in, messages, fields, extensions}
use Rattle.pbx_link_definitions.specs.Places.{places_where, repeated}
use Rattle.pbx_link_definitions.specs.Ranges.{is_field_number, all_ranges, in_ranges}

-- every field and every extension
abbrev pub all_fields : FileDescriptorProto → List (Part FieldDescriptorProto)
all_fields f = fields f ++ extensions f

-- ---- numbers of fields and reserved names (language guide: "Assigning Field Numbers", "Reserved Fields")

-- no number of a field, or one that the message leaves to extensions or reserves
abbrev pub is_bad_number : DescriptorProto → Option ℤ → Bool
is_bad_number m number = not (is_field_number number) || in_ranges (all_ranges m) number

-- both have one number
abbrev pub like_numbered : Part FieldDescriptorProto → Part FieldDescriptorProto → Bool
like_numbered p q = are_equal p.item.number q.item.number

-- the message reserves the field's name
abbrev pub has_reserved_name : DescriptorProto → FieldDescriptorProto → Bool
has_reserved_name m x = among (out-DescriptorProto m).reserved_name (text_or_empty x.name)

-- the places of bad numbers in a message
abbrev pub unfit_numbers : Part DescriptorProto → List Place
unfit_numbers m = places_where (λ (p : Part FieldDescriptorProto). is_bad_number m.item p.item.number) (λ p. at p 3) (fields_in m)

-- the places of numbers that an earlier field of the message has
abbrev pub repeated_numbers : Part DescriptorProto → List Place
repeated_numbers m = map (λ (p : Part FieldDescriptorProto). at p 3) (repeated like_numbered [] (fields_in m))

-- the places of names that the message reserves
abbrev pub reserved_names : Part DescriptorProto → List Place
reserved_names m = places_where (λ (p : Part FieldDescriptorProto). has_reserved_name m.item p.item) (λ p. at p 1) (fields_in m)

-- all three
abbrev pub bad_numbers_in : Part DescriptorProto → List Place
bad_numbers_in m = unfit_numbers m ++ repeated_numbers m ++ reserved_names m

-- of all messages
abbrev pub bad_field_numbers : FileDescriptorProto → List Place
bad_field_numbers f = flat_map bad_numbers_in (messages f)

-- ---- types (`descriptor.proto`: FieldDescriptorProto.Type)

-- 1 to 18 without 10, which is a group
abbrev pub is_type : ℤ → Bool
is_type (pos n) = nat_lt 0 n && nat_lt n 19 && not (n == 10)
is_type (negsuc n) = false

-- the type of a message or of an enum
abbrev pub is_named_type : ℤ → Bool
is_named_type z = is_number (Some z) 11 || is_number (Some z) 14

-- a message or an enum has a name, a scalar has none, and without a type there is a name
abbrev pub is_bad_type : Option ℤ → Option (List ℕ) → Bool
is_bad_type None name = is_none name
is_bad_type (Some z) None = not (is_type z) || is_named_type z
is_bad_type (Some z) (Some name) = not (is_named_type z)

-- the field or extension has such a type
abbrev pub has_bad_type : FieldDescriptorProto → Bool
has_bad_type x = is_bad_type x.kind x.type_name

-- the places of bad types among these
abbrev pub bad_types_among : List (Part FieldDescriptorProto) → List Place
bad_types_among ps = places_where (λ (p : Part FieldDescriptorProto). has_bad_type p.item) (λ p. at p 5) ps

-- of the fields of a message
abbrev pub bad_types_in : Part DescriptorProto → List Place
bad_types_in m = bad_types_among (fields_in m)

-- of all fields and extensions
abbrev pub bad_types : FileDescriptorProto → List Place
bad_types f = bad_types_among (all_fields f)

-- ---- oneofs (language guide: "Oneof"; `descriptor.proto`: FieldDescriptorProto.proto3_optional)

-- the members of the oneof of this index
abbrev pub members : Part DescriptorProto → ℕ → List (Part FieldDescriptorProto)
members m i = filter (λ p. is_number p.item.oneof_index i) (fields_in m)

-- an index of a list of this length
abbrev pub is_below : ℤ → ℕ → Bool
is_below (pos i) n = nat_lt i n
is_below (negsuc i) n = false

-- the index, if there is one, is that of a oneof of the message
abbrev pub has_oneof : Part DescriptorProto → Option ℤ → Bool
has_oneof m None = true
has_oneof m (Some i) = is_below i (length (out-DescriptorProto m.item).oneof_decl)

-- no other field of the message has this oneof
abbrev pub is_alone : Part DescriptorProto → Option ℤ → Bool
is_alone m i = length (filter (λ (p : Part FieldDescriptorProto). are_equal p.item.oneof_index i) (fields_in m)) == 1

-- a field that is no proper member of a oneof
abbrev pub bad_member : FileDescriptorProto → Part DescriptorProto → Part FieldDescriptorProto → Bool
bad_member f m p =
    not (has_oneof m p.item.oneof_index) || (is_some p.item.oneof_index && not (is_optional p.item))
    || (is_set p.item.proto3_optional && (not (is_proto3 f) || not (is_alone m p.item.oneof_index)))

-- an extension is in a oneof, or `optional` outside proto3
abbrev pub is_bad_extension : Bool → FieldDescriptorProto → Bool
is_bad_extension proto3 x = is_some x.oneof_index || (is_set x.proto3_optional && not proto3)

-- the fields that are no proper members
abbrev pub bad_members_in : FileDescriptorProto → Part DescriptorProto → List Place
bad_members_in f m = places_where (bad_member f m) (λ p. p.place) (fields_in m)

-- the oneofs without a member
abbrev pub empty_oneofs_in : Part DescriptorProto → List Place
empty_oneofs_in m = places_where (λ (o : Part OneofDescriptorProto). length (members m o.index) == 0) (λ o. o.place) (oneofs_in m)

-- both of a message
abbrev pub bad_oneofs_in : FileDescriptorProto → Part DescriptorProto → List Place
bad_oneofs_in f m = bad_members_in f m ++ empty_oneofs_in m

-- the extensions that oneofs forbid
abbrev pub bad_extension_members : FileDescriptorProto → List Place
bad_extension_members f = places_where (λ (p : Part FieldDescriptorProto). is_bad_extension (is_proto3 f) p.item) (λ p. p.place) (extensions f)

-- those of all messages, and the extensions
abbrev pub bad_oneofs : FileDescriptorProto → List Place
bad_oneofs f = flat_map (bad_oneofs_in f) (messages f) ++ bad_extension_members f

-- ---- labels (`descriptor.proto`: FieldDescriptorProto.Label)

-- optional 1, required 2, repeated 3
abbrev pub is_label : Option ℤ → Bool
is_label label = is_number label 1 || is_number label 2 || is_number label 3

-- none of the labels, or `required` where it is not allowed
abbrev pub is_bad_label : Bool → Option ℤ → Bool
is_bad_label no_required label = not (is_label label) || (no_required && is_number label 2)

-- the places of bad labels among these
abbrev pub bad_labels_among : Bool → List (Part FieldDescriptorProto) → List Place
bad_labels_among no_required ps = places_where (λ (p : Part FieldDescriptorProto). is_bad_label no_required p.item.label) (λ p. at p 4) ps

-- of the fields of a message
abbrev pub bad_labels_in : Bool → Part DescriptorProto → List Place
bad_labels_in no_required m = bad_labels_among no_required (fields_in m)

-- of all fields, where proto3 allows no `required`, and of extensions, where nothing does
abbrev pub bad_labels : FileDescriptorProto → List Place
bad_labels f = bad_labels_among (is_proto3 f) (fields f) ++ bad_labels_among true (extensions f)
