-- The rules that look names up find the same in a settled record.
use Rattle.std.proofs.Common.{◌≡◌, ◌∙◌, ℕ, ◌&&◌, ◌||◌, not, nat_lt, List, [], map, Bool, Option, is_some, refl, ap}
use Rattle.std.specs.Prelude.{option_map}
use Rattle.pbx_desc_records.specs.declared.field.FieldDescriptorProto.{FieldDescriptorProto}
use Rattle.pbx_desc_records.specs.declared.file.FileDescriptorProto.{FileDescriptorProto}
use Rattle.pbx_desc_records.specs.declared.message.DescriptorProto.{DescriptorProto}
use Rattle.pbx_desc_records.specs.declared.message.DescriptorProto.TheOpen.{DescriptorProto-F}
use Rattle.pbx_link_definitions.specs.Names.{text_or_empty}
use Rattle.pbx_link_definitions.specs.Says.{is_proto3, is_repeated, own_fields}
use Rattle.pbx_link_definitions.specs.Definitions.{Part, at, fields_in, messages, fields, extensions, methods}
use Rattle.pbx_link_definitions.specs.Places.{repeated}
use Rattle.pbx_link_definitions.specs.Ranges.{is_field_number}
use Rattle.pbx_link_scope.specs.declared.types.Bound.{Bound}
use Rattle.pbx_link_scope.specs.Scope.{bound_if, is_message}
use Rattle.pbx_link_rules_scope.specs.Rules.{places_by, is_bad_type_name, is_bad_message_name, has_bad_type_name, has_bad_extendee, has_no_extendee, has_no_input}
use Rattle.pbx_link_rules_scope.specs.Rules.{has_no_output, unbound_names}
use Rattle.pbx_link_rules_scope.specs.Defaults.{is_default_of, has_bad_default, bad_defaults}
use Rattle.pbx_link_rules_scope.specs.MapFields.{is_entry_type, is_held_in, full_name_of, same_text, same_type, type_in, fields_of_type, is_bad_map_field}
use Rattle.pbx_link_rules_scope.specs.MapFields.{bad_map_fields_in, bad_map_fields}
use Rattle.pbx_link_rules_scope.specs.ExtensionNumbers.{message_name_of, is_outside, is_unfit, is_taken, has_taken_number, Extending, like_extending, extending}
use Rattle.pbx_link_rules_scope.specs.ExtensionNumbers.{extended_again, bad_extension_numbers}
use Rattle.pbx_link_record.specs.Settled.{settled_enum, settled_field, settled_method, settled_message, settled_file}
use Rattle.pbx_link_record.proofs.Layers.{settled_out}
use Rattle.pbx_link_laws.proofs.Lists.{map_through, part_of, halves, told_alike, passing, placed_alike}
use Rattle.pbx_link_laws.proofs.Parts.{settled_fields_in, settled_messages, settled_fields, settled_methods, settled_extensions}
use Rattle.pbx_link_laws.proofs.Scope.{bound_by, told_by, SeeAlike, bound_if_alike, asks_message, asks_type_name, asks_message_name, asks_name, asks_outside}
use Rattle.pbx_link_laws.proofs.Scope.{asks_default, asks_entry, asks_held, asks_full_name}

abbrev File : Type 0
File = FileDescriptorProto

abbrev Field : Type 0
Field = Part FieldDescriptorProto

-- the places of parts of changed items
by_placed : {X : Type 0} (g : X → X) (P Q : List ℕ → X → Bool) → ((scope : List ℕ) (x : X) → P scope (g x) ≡ Q scope x) → (n : ℕ) (ps qs : List (Part X))
    → ps ≡ map (part_of g) qs
    → places_by P n ps ≡ places_by Q n qs
by_placed {X} g P Q same n ps qs e =
    placed_alike (part_of g) (λ (p : Part X). P p.scope p.item) (λ (p : Part X). Q p.scope p.item) (λ p. same p.scope p.item) (λ p. at p n) (λ p. at p n)
    (λ p. refl) ps qs e

module _ (seen other : List File) (see : SeeAlike settled_message settled_enum seen other) where
  -- what is told of what a name is bound to
  told_of : {X : Type 0} (u : Option Bound → X) → ((b : Option Bound) → u (option_map (bound_by settled_message settled_enum) b) ≡ u b)
      → (scope : List ℕ) (name : Option (List ℕ))
      → u (bound_if seen scope name) ≡ u (bound_if other scope name)
  told_of u same scope name = told_by settled_message settled_enum u same (bound_if seen scope name) (bound_if other scope name)
      (bound_if_alike settled_message settled_enum seen other see scope name)

  -- ---- names

  pub unbound_of : (f : File) → unbound_names seen (settled_file f) ≡ unbound_names other f
  unbound_of f =
      halves _ _ _ _
      (halves _ _ _ _
      (halves _ _ _ _
      (by_placed settled_field (has_bad_type_name seen) (has_bad_type_name other) type_name 6 (fields (settled_file f)) (fields f) (settled_fields f))
      (by_placed settled_field (has_bad_extendee seen) (has_bad_extendee other) extendee 2 (fields (settled_file f)) (fields f) (settled_fields f)))
      (halves _ _ _ _
      (by_placed settled_field (has_bad_type_name seen) (has_bad_type_name other) type_name 6 (extensions (settled_file f)) (extensions f)
      (settled_extensions f))
      (by_placed settled_field (has_no_extendee seen) (has_no_extendee other) no_extendee 2 (extensions (settled_file f)) (extensions f)
      (settled_extensions f))))
      (halves _ _ _ _
      (by_placed settled_method (has_no_input seen) (has_no_input other)
      (λ scope m. ap not (told_of is_message (asks_message settled_message settled_enum see.blind) scope m.input_type)) 2
      (methods (settled_file f)) (methods f) (settled_methods f))
      (by_placed settled_method (has_no_output seen) (has_no_output other)
      (λ scope m. ap not (told_of is_message (asks_message settled_message settled_enum see.blind) scope m.output_type)) 3
      (methods (settled_file f)) (methods f) (settled_methods f)))
    where
      type_name : (scope : List ℕ) (x : FieldDescriptorProto) → has_bad_type_name seen scope (settled_field x) ≡ has_bad_type_name other scope x
      type_name scope x =
          told_of (λ b. is_bad_type_name x.type_name b x.kind) (asks_type_name settled_message settled_enum see.blind x.type_name x.kind) scope x.type_name

      extendee : (scope : List ℕ) (x : FieldDescriptorProto) → has_bad_extendee seen scope (settled_field x) ≡ has_bad_extendee other scope x
      extendee scope x = told_of (is_bad_message_name x.extendee) (asks_message_name settled_message settled_enum see.blind x.extendee) scope x.extendee

      no_extendee : (scope : List ℕ) (x : FieldDescriptorProto) → has_no_extendee seen scope (settled_field x) ≡ has_no_extendee other scope x
      no_extendee scope x = ap not (told_of is_message (asks_message settled_message settled_enum see.blind) scope x.extendee)

  -- ---- defaults

  pub defaults_of : (f : File) → bad_defaults seen (settled_file f) ≡ bad_defaults other f
  defaults_of f =
      halves _ _ _ _
      (by_placed settled_field (has_bad_default (is_proto3 f) seen) (has_bad_default (is_proto3 f) other) bad 7 (fields (settled_file f)) (fields f)
      (settled_fields f))
      (by_placed settled_field (has_bad_default (is_proto3 f) seen) (has_bad_default (is_proto3 f) other) bad 7
      (extensions (settled_file f)) (extensions f) (settled_extensions f))
    where
      bad : (scope : List ℕ) (x : FieldDescriptorProto)
          → has_bad_default (is_proto3 f) seen scope (settled_field x) ≡ has_bad_default (is_proto3 f) other scope x
      bad scope x =
          ap (λ (b : Bool). is_some x.default_value && (is_proto3 f || is_repeated x || not b))
          (told_of (λ b. is_default_of b x.kind (text_or_empty x.default_value))
          (asks_default settled_message settled_enum see.blind x.kind (text_or_empty x.default_value)) scope x.type_name)

  -- ---- fields of maps

  entry_type : (scope : List ℕ) (x : FieldDescriptorProto) → is_entry_type (type_in seen scope (settled_field x)) ≡ is_entry_type (type_in other scope x)
  entry_type scope x = told_of is_entry_type (asks_entry settled_message settled_enum see.blind) scope x.type_name

  one_type : (scope : List ℕ) (x y : FieldDescriptorProto)
      → same_type (type_in seen scope (settled_field x)) (type_in seen scope (settled_field y)) ≡ same_type (type_in other scope x) (type_in other scope y)
  one_type scope x y =
      ap (λ (t : Option (List ℕ)). same_text t (full_name_of (type_in seen scope y)))
      (told_of full_name_of (asks_full_name settled_message settled_enum see.blind) scope x.type_name)
      ∙ ap (same_text (full_name_of (type_in other scope x))) (told_of full_name_of (asks_full_name settled_message settled_enum see.blind) scope y.type_name)

  type_count : (scope : List ℕ) (xs ys : List FieldDescriptorProto) → xs ≡ map settled_field ys → (x : FieldDescriptorProto)
      → fields_of_type seen scope xs (settled_field x) ≡ fields_of_type other scope ys x
  type_count scope xs ys e x =
      passing settled_field (λ y. same_type (type_in seen scope (settled_field x)) (type_in seen scope y))
      (λ y. same_type (type_in other scope x) (type_in other scope y))
      (one_type scope x) xs ys e

  map_field : (xs ys : List FieldDescriptorProto) → xs ≡ map settled_field ys → (scope : List ℕ) (x : FieldDescriptorProto)
      → is_bad_map_field seen xs scope (settled_field x) ≡ is_bad_map_field other ys scope x
  map_field xs ys e scope x =
      ap (λ (b : Bool). b && (not (is_repeated x) || not (is_held_in scope (type_in seen scope x)) || nat_lt 1
      (fields_of_type seen scope xs (settled_field x)))) (entry_type scope x)
      ∙ ap (λ (b : Bool). is_entry_type (type_in other scope x) && (not (is_repeated x) || not b || nat_lt 1 (fields_of_type seen scope xs (settled_field x))))
      (told_of (is_held_in scope) (asks_held settled_message settled_enum see.blind scope) scope x.type_name)
      ∙ ap (λ (n : ℕ). is_entry_type (type_in other scope x) && (not (is_repeated x) || not (is_held_in scope (type_in other scope x)) || nat_lt 1 n))
      (type_count scope xs ys e x)

  map_fields_in : (m : Part DescriptorProto) → bad_map_fields_in seen (part_of settled_message m) ≡ bad_map_fields_in other m
  map_fields_in m =
      placed_alike (part_of settled_field) (λ (p : Field). is_bad_map_field seen (own_fields (settled_message m.item)) p.scope p.item)
      (λ (p : Field). is_bad_map_field other (own_fields m.item) p.scope p.item)
      (λ p. map_field (own_fields (settled_message m.item)) (own_fields m.item)
      (ap (λ (l : DescriptorProto-F DescriptorProto). l.field) (settled_out m.item)) p.scope p.item)
      (λ p. p.place) (λ p. p.place) (λ p. refl) (fields_in (part_of settled_message m)) (fields_in m) (settled_fields_in m)

  pub map_fields_of : (f : File) → bad_map_fields seen (settled_file f) ≡ bad_map_fields other f
  map_fields_of f =
      halves _ _ _ _
      (told_alike (part_of settled_message) (bad_map_fields_in seen) (bad_map_fields_in other) map_fields_in (messages (settled_file f)) (messages f)
      (settled_messages f))
      (placed_alike (part_of settled_field) (λ (p : Field). is_entry_type (type_in seen p.scope p.item))
      (λ (p : Field). is_entry_type (type_in other p.scope p.item))
      (λ p. entry_type p.scope p.item) (λ p. p.place) (λ p. p.place) (λ p. refl) (extensions (settled_file f)) (extensions f) (settled_extensions f))

  -- ---- numbers of extensions

  extended_name : (scope : List ℕ) (x : FieldDescriptorProto)
      → message_name_of (bound_if seen scope x.extendee) ≡ message_name_of (bound_if other scope x.extendee)
  extended_name scope x = told_of message_name_of (asks_name settled_message settled_enum see.blind) scope x.extendee

  again : (ps qs : List Field) → ps ≡ map (part_of settled_field) qs → extended_again seen ps ≡ extended_again other qs
  again ps qs e =
      ap (λ (xs : List Extending). map (λ (x : Extending). x.place) (repeated like_extending [] xs))
      (ap (map (extending seen)) e
      ∙ map_through (part_of settled_field) (extending seen) (extending other)
      (λ p. ap (λ (n : Option (List ℕ)). record { extendee = n; number = p.item.number; place = at p 3 }) (extended_name p.scope p.item)) qs)

  pub extension_numbers_of : (files : List File) (f : File) → bad_extension_numbers files seen (settled_file f) ≡ bad_extension_numbers files other f
  extension_numbers_of files f =
      halves _ _ _ _
      (halves _ _ _ _
      (by_placed settled_field (is_unfit seen) (is_unfit other)
      (λ scope x. ap (λ (b : Bool). not (is_field_number x.number) || b)
      (told_of (λ b. is_outside b x.number) (asks_outside settled_message settled_enum see.blind x.number) scope x.extendee)) 3
      (extensions (settled_file f)) (extensions f) (settled_extensions f))
      (by_placed settled_field (has_taken_number files seen) (has_taken_number files other)
      (λ scope x. ap (λ (n : Option (List ℕ)). is_taken files n x.number) (extended_name scope x)) 3
      (extensions (settled_file f)) (extensions f) (settled_extensions f)))
      (again (extensions (settled_file f)) (extensions f) (settled_extensions f))
