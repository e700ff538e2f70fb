-- The rules on fields find the same in a settled record.
use Rattle.std.proofs.Common.{◌≡◌, ◌∙◌, ℕ, ◌==◌, ◌&&◌, ◌||◌, not, ℤ, List, map, length, Bool, true, Option, None, Some, is_some, refl, ap, sym}
use Rattle.std.specs.Prelude.{filter}
use Rattle.std.proofs.lemmas.List.{map-append}
use Rattle.pbx_desc_records.specs.declared.field.FieldDescriptorProto.{FieldDescriptorProto}
use Rattle.pbx_desc_records.specs.declared.field.OneofDescriptorProto.{OneofDescriptorProto}
use Rattle.pbx_desc_records.specs.declared.file.FileDescriptorProto.{FileDescriptorProto}
use Rattle.pbx_desc_records.specs.declared.message.DescriptorProto.{DescriptorProto, out-DescriptorProto}
use Rattle.pbx_desc_records.specs.declared.message.DescriptorProto.TheOpen.{DescriptorProto-F}
use Rattle.pbx_desc_records.specs.declared.message.ExtensionRange.{ExtensionRange}
use Rattle.pbx_desc_records.specs.declared.message.ReservedRange.{ReservedRange}
use Rattle.pbx_link_definitions.specs.Names.{text_or_empty, among}
use Rattle.pbx_link_definitions.specs.Says.{signed_or_zero, is_number, is_proto3, is_set, is_optional, are_equal}
use Rattle.pbx_link_definitions.specs.Definitions.{Place, Part, at, fields_in, oneofs_in, messages, fields, extensions}
use Rattle.pbx_link_definitions.specs.Ranges.{Range, extension_ranges, reserved_ranges, all_ranges, in_ranges, is_field_number}
use Rattle.pbx_link_rules_field.specs.Rules.{all_fields, is_bad_number, like_numbered, has_reserved_name, bad_numbers_in, bad_field_numbers}
use Rattle.pbx_link_rules_field.specs.Rules.{has_bad_type, bad_types, members, is_below, has_oneof, is_alone, bad_member, is_bad_extension, bad_oneofs_in}
use Rattle.pbx_link_rules_field.specs.Rules.{bad_oneofs, is_bad_label, bad_labels}
use Rattle.pbx_link_record.specs.Settled.{settled_field, settled_oneof, settled_extension_range, settled_reserved_range, settled_message, settled_file}
use Rattle.pbx_link_record.proofs.Layers.{settled_out}
use Rattle.pbx_link_laws.proofs.Lists.{map_twice, length_mapped, part_of, halves, told_alike, passing, placed_alike, repeated_alike}
use Rattle.pbx_link_laws.proofs.Parts.{settled_fields_in, settled_oneofs_in, settled_messages, settled_fields, settled_extensions}

abbrev File : Type 0
File = FileDescriptorProto

abbrev Message : Type 0
Message = Part DescriptorProto

abbrev Field : Type 0
Field = Part FieldDescriptorProto

-- ---- ranges

pub settled_extension_ranges : (m : DescriptorProto) → extension_ranges (settled_message m) ≡ extension_ranges m
settled_extension_ranges m =
    let range : ExtensionRange → Range = λ r. record { start = signed_or_zero r.start; «end» = r.«end» } in
    ap (λ (l : DescriptorProto-F DescriptorProto). map range l.extension_range) (settled_out m)
    ∙ map_twice settled_extension_range range (out-DescriptorProto m).extension_range

pub settled_reserved_ranges : (m : DescriptorProto) → reserved_ranges (settled_message m) ≡ reserved_ranges m
settled_reserved_ranges m =
    let range : ReservedRange → Range = λ r. record { start = signed_or_zero r.start; «end» = r.«end» } in
    ap (λ (l : DescriptorProto-F DescriptorProto). map range l.reserved_range) (settled_out m)
    ∙ map_twice settled_reserved_range range (out-DescriptorProto m).reserved_range

settled_ranges : (m : DescriptorProto) → all_ranges (settled_message m) ≡ all_ranges m
settled_ranges m = halves _ _ _ _ (settled_extension_ranges m) (settled_reserved_ranges m)

-- ---- numbers

-- the places of a message's fields that pass a test
fields_placed : (test test' : Field → Bool) → ((p : Field) → test (part_of settled_field p) ≡ test' p) → (place : Field → Place)
    → ((p : Field) → place (part_of settled_field p) ≡ place p) → (m : Message)
    → map place (filter test (fields_in (part_of settled_message m))) ≡ map place (filter test' (fields_in m))
fields_placed test test' same place there m =
    placed_alike (part_of settled_field) test test' same place place there (fields_in (part_of settled_message m)) (fields_in m) (settled_fields_in m)

numbers_in : (m : Message) → bad_numbers_in (part_of settled_message m) ≡ bad_numbers_in m
numbers_in m =
    halves _ _ _ _
    (halves _ _ _ _
    (fields_placed (λ p. is_bad_number (settled_message m.item) p.item.number) (λ p. is_bad_number m.item p.item.number)
    (λ p. ap (λ (rs : List Range). not (is_field_number p.item.number) || in_ranges rs p.item.number) (settled_ranges m.item)) (λ p. at p 3) (λ p. refl) m)
    (repeated_alike (part_of settled_field) like_numbered like_numbered (λ p q. refl) (λ p. at p 3) (λ p. at p 3) (λ p. refl)
    (fields_in (part_of settled_message m)) (fields_in m) (settled_fields_in m)))
    (fields_placed (λ p. has_reserved_name (settled_message m.item) p.item) (λ p. has_reserved_name m.item p.item)
    (λ p. ap (λ (l : DescriptorProto-F DescriptorProto). among l.reserved_name (text_or_empty p.item.name)) (settled_out m.item)) (λ p. at p 1) (λ p. refl) m)

pub field_numbers : (f : File) → bad_field_numbers (settled_file f) ≡ bad_field_numbers f
field_numbers f = told_alike (part_of settled_message) bad_numbers_in bad_numbers_in numbers_in (messages (settled_file f)) (messages f) (settled_messages f)

-- ---- types

-- the places of fields or extensions that pass a test of their records
among_placed : (test : FieldDescriptorProto → Bool) → ((x : FieldDescriptorProto) → test (settled_field x) ≡ test x) → (place : Field → Place)
    → ((p : Field) → place (part_of settled_field p) ≡ place p) → (ps qs : List Field) → ps ≡ map (part_of settled_field) qs
    → map place (filter (λ (p : Field). test p.item) ps) ≡ map place (filter (λ (p : Field). test p.item) qs)
among_placed test same place there ps qs e =
    placed_alike (part_of settled_field) (λ (p : Field). test p.item) (λ (p : Field). test p.item) (λ p. same p.item) place place there ps qs e

pub types : (f : File) → bad_types (settled_file f) ≡ bad_types f
types f =
    among_placed has_bad_type (λ x. refl) (λ p. at p 5) (λ p. refl) (all_fields (settled_file f)) (all_fields f)
    (halves _ _ _ _ (settled_fields f) (settled_extensions f) ∙ sym (map-append (part_of settled_field) (fields f) (extensions f)))

-- ---- oneofs

-- how many of a message's fields pass a test of their records
fields_counted : (test : FieldDescriptorProto → Bool) → ((x : FieldDescriptorProto) → test (settled_field x) ≡ test x) → (m : Message)
    → length (filter (λ (p : Field). test p.item) (fields_in (part_of settled_message m))) ≡ length (filter (λ (p : Field). test p.item) (fields_in m))
fields_counted test same m =
    passing (part_of settled_field) (λ (p : Field). test p.item) (λ (p : Field). test p.item) (λ p. same p.item)
    (fields_in (part_of settled_message m)) (fields_in m) (settled_fields_in m)

settled_alone : (m : Message) (i : Option ℤ) → is_alone (part_of settled_message m) i ≡ is_alone m i
settled_alone m i = ap (λ (n : ℕ). n == 1) (fields_counted (λ x. are_equal x.oneof_index i) (λ x. refl) m)

settled_count : (m : Message) → length (out-DescriptorProto (settled_message m.item)).oneof_decl ≡ length (out-DescriptorProto m.item).oneof_decl
settled_count m =
    ap (λ (l : DescriptorProto-F DescriptorProto). length l.oneof_decl) (settled_out m.item)
    ∙ length_mapped settled_oneof (out-DescriptorProto m.item).oneof_decl

settled_oneof_of : (m : Message) (i : Option ℤ) → has_oneof (part_of settled_message m) i ≡ has_oneof m i
settled_oneof_of m None = refl
settled_oneof_of m (Some i) = ap (is_below i) (settled_count m)

settled_member : (f : File) (m : Message) (p : Field) → bad_member (settled_file f) (part_of settled_message m) (part_of settled_field p) ≡ bad_member f m p
settled_member f m p =
    let i : Option ℤ = p.item.oneof_index in
    ap (λ (b : Bool). not b || (is_some i && not (is_optional p.item))
    || (is_set p.item.proto3_optional && (not (is_proto3 f) || not (is_alone (part_of settled_message m) i)))) (settled_oneof_of m i)
    ∙ ap (λ (b : Bool). not (has_oneof m i) || (is_some i && not (is_optional p.item)) || (is_set p.item.proto3_optional && (not (is_proto3 f) || not b)))
    (settled_alone m i)

oneofs_of : (f : File) (m : Message) → bad_oneofs_in (settled_file f) (part_of settled_message m) ≡ bad_oneofs_in f m
oneofs_of f m =
    halves _ _ _ _
    (fields_placed (bad_member (settled_file f) (part_of settled_message m)) (bad_member f m) (settled_member f m) (λ p. p.place) (λ p. refl) m)
    (placed_alike (part_of settled_oneof) (λ (o : Part OneofDescriptorProto). length (members (part_of settled_message m) o.index) == 0)
    (λ (o : Part OneofDescriptorProto). length (members m o.index) == 0)
    (λ o. ap (λ (n : ℕ). n == 0) (fields_counted (λ x. is_number x.oneof_index o.index) (λ x. refl) m)) (λ o. o.place) (λ o. o.place) (λ o. refl)
    (oneofs_in (part_of settled_message m)) (oneofs_in m) (settled_oneofs_in m))

pub oneofs : (f : File) → bad_oneofs (settled_file f) ≡ bad_oneofs f
oneofs f =
    halves _ _ _ _
    (told_alike (part_of settled_message) (bad_oneofs_in (settled_file f)) (bad_oneofs_in f) (oneofs_of f) (messages (settled_file f)) (messages f)
    (settled_messages f))
    (among_placed (is_bad_extension (is_proto3 f)) (λ x. refl) (λ p. p.place) (λ p. refl) (extensions (settled_file f)) (extensions f) (settled_extensions f))

-- ---- labels

pub labels : (f : File) → bad_labels (settled_file f) ≡ bad_labels f
labels f =
    halves _ _ _ _
    (among_placed (λ x. is_bad_label (is_proto3 f) x.label) (λ x. refl) (λ p. at p 4) (λ p. refl) (fields (settled_file f)) (fields f) (settled_fields f))
    (among_placed (λ x. is_bad_label true x.label) (λ x. refl) (λ p. at p 4) (λ p. refl) (extensions (settled_file f)) (extensions f) (settled_extensions f))
