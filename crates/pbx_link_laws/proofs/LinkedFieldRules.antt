-- The rules on fields find the same in a linked record, and no bad type where there was none.
use Rattle.std.proofs.Common.{◌≡◌, ◌∙◌, ℕ, ◌==◌, ◌&&◌, ◌||◌, not, ℤ, List, [], ◌++◌, map, length, Bool, true, false, Option, None, Some, is_some, refl, ap}
use Rattle.std.proofs.Common.{sym}
use Rattle.std.specs.Prelude.{filter}
use Rattle.pbx_desc_records.specs.declared.field.FieldDescriptorProto.{FieldDescriptorProto}
use Rattle.pbx_desc_records.specs.declared.field.OneofDescriptorProto.{OneofDescriptorProto}
use Rattle.pbx_desc_records.specs.declared.file.FileDescriptorProto.{FileDescriptorProto}
use Rattle.pbx_desc_records.specs.declared.message.DescriptorProto.{DescriptorProto}
use Rattle.pbx_desc_records.specs.declared.message.DescriptorProto.TheOpen.{DescriptorProto-F}
use Rattle.pbx_desc_records.specs.declared.message.ExtensionRange.{ExtensionRange}
use Rattle.pbx_desc_records.specs.declared.message.ReservedRange.{ReservedRange}
use Rattle.pbx_link_definitions.specs.Names.{text_or_empty, among}
use Rattle.pbx_link_definitions.specs.Says.{signed_or_zero, is_number, is_proto3, is_set, is_optional, are_equal}
use Rattle.pbx_link_definitions.specs.Definitions.{Place, Part, at, fields_in, oneofs_in, messages, fields, extensions}
use Rattle.pbx_link_definitions.specs.Places.{places_where}
use Rattle.pbx_link_definitions.specs.Ranges.{Range, extension_ranges, reserved_ranges, in_ranges, is_field_number}
use Rattle.pbx_link_rules_field.specs.Rules.{is_bad_number, like_numbered, has_reserved_name, bad_numbers_in, bad_field_numbers}
use Rattle.pbx_link_rules_field.specs.Rules.{is_bad_type, has_bad_type, bad_types_among, bad_types, members, is_below, has_oneof, is_alone, bad_member}
use Rattle.pbx_link_rules_field.specs.Rules.{is_bad_extension, bad_oneofs_in, bad_oneofs}
use Rattle.pbx_link_rules_field.specs.Rules.{is_bad_label, bad_labels}
use Rattle.pbx_link_scope.specs.declared.types.Bound.{Bound}
use Rattle.pbx_link_scope.specs.declared.types.Bound.TheVariants.{Message as to_message, Enum as to_enum}
use Rattle.pbx_link_scope.specs.Scope.{bound_if}
use Rattle.pbx_link_record.specs.Linked.{exact_by, type_by, linked_extension, linked_field, linked_message, linked_with}
use Rattle.pbx_link_record.proofs.Layers.{linked_out}
use Rattle.pbx_link_record.proofs.Changed.{map_id}
use Rattle.pbx_link_rules.proofs.Lists.{left_nil, right_nil}
use Rattle.pbx_link_laws.proofs.Lists.{changed_in, halves, told_alike, passing, placed_alike, placed_none, places_joined, repeated_alike}
use Rattle.pbx_link_laws.proofs.LinkedParts.{in_linked, linked_fields_in, linked_oneofs_in, linked_messages, linked_fields, linked_extensions}

abbrev File : Type 0
File = FileDescriptorProto

abbrev Message : Type 0
Message = Part DescriptorProto

abbrev Field : Type 0
Field = Part FieldDescriptorProto

module _ (seen : List File) where
  -- a field and an extension of a linked record
  abbrev field_of : Field → Field
  field_of = changed_in (linked_field seen)

  abbrev extension_of : Field → Field
  extension_of = changed_in (linked_extension seen)

  -- ---- ranges

  pub linked_extension_ranges : (scope : List ℕ) (m : DescriptorProto) → extension_ranges (linked_message seen scope m) ≡ extension_ranges m
  linked_extension_ranges scope m =
      let range : ExtensionRange → Range = λ r. record { start = signed_or_zero r.start; «end» = r.«end» } in
      ap (λ (l : DescriptorProto-F DescriptorProto). map range l.extension_range) (linked_out seen scope m)

  pub linked_reserved_ranges : (scope : List ℕ) (m : DescriptorProto) → reserved_ranges (linked_message seen scope m) ≡ reserved_ranges m
  linked_reserved_ranges scope m =
      let range : ReservedRange → Range = λ r. record { start = signed_or_zero r.start; «end» = r.«end» } in
      ap (λ (l : DescriptorProto-F DescriptorProto). map range l.reserved_range) (linked_out seen scope m)

  -- ---- numbers

  -- the places of a message's fields that pass a test
  fields_placed : (test test' : Field → Bool) → ((p : Field) → test (field_of p) ≡ test' p) → (place : Field → Place)
      → ((p : Field) → place (field_of p) ≡ place p) → (m : Message)
      → places_where test place (fields_in (in_linked seen m)) ≡ places_where test' place (fields_in m)
  fields_placed test test' same place there m =
      placed_alike field_of test test' same place place there (fields_in (in_linked seen m)) (fields_in m) (linked_fields_in seen m)

  numbers_in : (m : Message) → bad_numbers_in (in_linked seen m) ≡ bad_numbers_in m
  numbers_in m =
      halves _ _ _ _
      (halves _ _ _ _
      (fields_placed (λ p. is_bad_number (in_linked seen m).item p.item.number) (λ p. is_bad_number m.item p.item.number)
      (λ p. ap (λ (rs : List Range). not (is_field_number p.item.number) || in_ranges rs p.item.number)
      (halves _ _ _ _ (linked_extension_ranges m.scope m.item) (linked_reserved_ranges m.scope m.item))) (λ p. at p 3) (λ p. refl) m)
      (repeated_alike field_of like_numbered like_numbered (λ p q. refl) (λ p. at p 3) (λ p. at p 3) (λ p. refl)
      (fields_in (in_linked seen m)) (fields_in m) (linked_fields_in seen m)))
      (fields_placed (λ p. has_reserved_name (in_linked seen m).item p.item) (λ p. has_reserved_name m.item p.item)
      (λ p. ap (λ (l : DescriptorProto-F DescriptorProto). among l.reserved_name (text_or_empty p.item.name)) (linked_out seen m.scope m.item))
      (λ p. at p 1) (λ p. refl) m)

  pub field_numbers : (f : File) → bad_field_numbers (linked_with seen f) ≡ bad_field_numbers f
  field_numbers f = told_alike (in_linked seen) bad_numbers_in bad_numbers_in numbers_in (messages (linked_with seen f)) (messages f) (linked_messages seen f)

  -- ---- types

  good_type : (kind : Option ℤ) (name : Option (List ℕ)) (b : Option Bound) → is_bad_type kind name ≡ false
      → is_bad_type (type_by kind b) (exact_by name b) ≡ false
  good_type kind name None e = e
  good_type kind name (Some (to_message p)) e = refl
  good_type kind name (Some (to_enum p)) e = refl

  types_none : (w : Field → Field) → ((p : Field) → has_bad_type p.item ≡ false → has_bad_type (w p).item ≡ false) → (ps qs : List Field) → ps ≡ map w qs
      → bad_types_among qs ≡ [] → bad_types_among ps ≡ []
  types_none w good ps qs e none =
      placed_none w (λ (p : Field). has_bad_type p.item) (λ (p : Field). has_bad_type p.item) good (λ p. at p 5) (λ p. at p 5) ps qs e none

  -- both lists of which one is joined
  among_both : (ps qs : List Field) → bad_types_among (ps ++ qs) ≡ bad_types_among ps ++ bad_types_among qs
  among_both ps qs = places_joined (λ (p : Field). has_bad_type p.item) (λ p. at p 5) ps qs

  pub types : (f : File) → bad_types f ≡ [] → bad_types (linked_with seen f) ≡ []
  types f none =
      let both : bad_types_among (fields f) ++ bad_types_among (extensions f) ≡ [] = sym (among_both (fields f) (extensions f)) ∙ none in
      among_both (fields (linked_with seen f)) (extensions (linked_with seen f))
      ∙ halves _ _ _ _
      (types_none field_of (λ p. good_type p.item.kind p.item.type_name (bound_if seen p.scope p.item.type_name))
      (fields (linked_with seen f)) (fields f) (linked_fields seen f) (left_nil _ _ both))
      (types_none extension_of (λ p. good_type p.item.kind p.item.type_name (bound_if seen p.scope p.item.type_name))
      (extensions (linked_with seen f)) (extensions f) (linked_extensions seen f) (right_nil (bad_types_among (fields f)) _ both))

  -- ---- oneofs

  -- how many of a message's fields pass a test of their records
  fields_counted : (test : FieldDescriptorProto → Bool) → ((scope : List ℕ) (x : FieldDescriptorProto) → test (linked_field seen scope x) ≡ test x)
      → (m : Message)
      → length (filter (λ (p : Field). test p.item) (fields_in (in_linked seen m))) ≡ length (filter (λ (p : Field). test p.item) (fields_in m))
  fields_counted test same m =
      passing field_of (λ (p : Field). test p.item) (λ (p : Field). test p.item) (λ p. same p.scope p.item)
      (fields_in (in_linked seen m)) (fields_in m) (linked_fields_in seen m)

  linked_alone : (m : Message) (i : Option ℤ) → is_alone (in_linked seen m) i ≡ is_alone m i
  linked_alone m i = ap (λ (n : ℕ). n == 1) (fields_counted (λ x. are_equal x.oneof_index i) (λ scope x. refl) m)

  linked_oneof : (m : Message) (i : Option ℤ) → has_oneof (in_linked seen m) i ≡ has_oneof m i
  linked_oneof m None = refl
  linked_oneof m (Some i) = ap (λ (l : DescriptorProto-F DescriptorProto). is_below i (length l.oneof_decl)) (linked_out seen m.scope m.item)

  linked_member : (f : File) (m : Message) (p : Field) → bad_member (linked_with seen f) (in_linked seen m) (field_of p) ≡ bad_member f m p
  linked_member f m p =
      let i : Option ℤ = p.item.oneof_index in
      ap (λ (b : Bool). not b || (is_some i && not (is_optional p.item))
      || (is_set p.item.proto3_optional && (not (is_proto3 f) || not (is_alone (in_linked seen m) i)))) (linked_oneof m i)
      ∙ ap (λ (b : Bool). not (has_oneof m i) || (is_some i && not (is_optional p.item)) || (is_set p.item.proto3_optional && (not (is_proto3 f) || not b)))
      (linked_alone m i)

  oneofs_of : (f : File) (m : Message) → bad_oneofs_in (linked_with seen f) (in_linked seen m) ≡ bad_oneofs_in f m
  oneofs_of f m =
      halves _ _ _ _
      (fields_placed (bad_member (linked_with seen f) (in_linked seen m)) (bad_member f m) (linked_member f m) (λ p. p.place) (λ p. refl) m)
      (placed_alike (λ (o : Part OneofDescriptorProto). o) (λ (o : Part OneofDescriptorProto). length (members (in_linked seen m) o.index) == 0)
      (λ (o : Part OneofDescriptorProto). length (members m o.index) == 0)
      (λ o. ap (λ (n : ℕ). n == 0) (fields_counted (λ x. is_number x.oneof_index o.index) (λ scope x. refl) m)) (λ o. o.place) (λ o. o.place) (λ o. refl)
      (oneofs_in (in_linked seen m)) (oneofs_in m) (linked_oneofs_in seen m ∙ sym (map_id (oneofs_in m))))

  pub oneofs : (f : File) → bad_oneofs (linked_with seen f) ≡ bad_oneofs f
  oneofs f =
      halves _ _ _ _
      (told_alike (in_linked seen) (bad_oneofs_in (linked_with seen f)) (bad_oneofs_in f) (oneofs_of f)
      (messages (linked_with seen f)) (messages f) (linked_messages seen f))
      (placed_alike extension_of (λ (p : Field). is_bad_extension (is_proto3 f) p.item) (λ (p : Field). is_bad_extension (is_proto3 f) p.item) (λ p. refl)
      (λ p. p.place) (λ p. p.place) (λ p. refl) (extensions (linked_with seen f)) (extensions f) (linked_extensions seen f))

  -- ---- labels

  pub labels : (f : File) → bad_labels (linked_with seen f) ≡ bad_labels f
  labels f =
      halves _ _ _ _
      (placed_alike field_of (λ (p : Field). is_bad_label (is_proto3 f) p.item.label) (λ (p : Field). is_bad_label (is_proto3 f) p.item.label) (λ p. refl)
      (λ p. at p 4) (λ p. at p 4) (λ p. refl) (fields (linked_with seen f)) (fields f) (linked_fields seen f))
      (placed_alike extension_of (λ (p : Field). is_bad_label true p.item.label) (λ (p : Field). is_bad_label true p.item.label) (λ p. refl)
      (λ p. at p 4) (λ p. at p 4) (λ p. refl) (extensions (linked_with seen f)) (extensions f) (linked_extensions seen f))
