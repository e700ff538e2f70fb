-- The rules on a record taken alone find the same in a linked record: of entries of maps where no type is bad.
use Rattle.std.proofs.Common.{◌≡◌, ◌∙◌, ℕ, ◌+◌, ◌&&◌, ◌||◌, not, ℤ, pos, negsuc, List, [], ◌∷◌, ◌++◌, map, cond, Bool, true, false, if◌then◌else◌}
use Rattle.std.proofs.Common.{Option, None, Some, is_none, codes, refl, ap, sym, arith}
use Rattle.std.specs.Prelude.{filter}
use Rattle.std.specs.List.{list_any, flat_map}
use Rattle.std.proofs.lemmas.Bool.{false≢true}
use Rattle.std.proofs.lemmas.Bool.Decides.{nat_tests}
use Rattle.std.proofs.lemmas.List.Folds.{list_any-append}
use Rattle.pbx_desc_records.specs.declared.field.FieldDescriptorProto.{FieldDescriptorProto}
use Rattle.pbx_desc_records.specs.declared.field.OneofDescriptorProto.{OneofDescriptorProto}
use Rattle.pbx_desc_records.specs.declared.file.FileDescriptorProto.{FileDescriptorProto}
use Rattle.pbx_desc_records.specs.declared.message.DescriptorProto.{DescriptorProto, out-DescriptorProto}
use Rattle.pbx_desc_records.specs.declared.message.DescriptorProto.TheOpen.{DescriptorProto-F}
use Rattle.pbx_desc_records.specs.declared.message.ExtensionRange.{ExtensionRange}
use Rattle.pbx_desc_records.specs.declared.service.ServiceDescriptorProto.{ServiceDescriptorProto}
use Rattle.pbx_link_definitions.specs.Names.{text_or_empty, qualified}
use Rattle.pbx_link_definitions.specs.Says.{own_fields, is_proto3, is_entry, has_option, is_uninterpreted}
use Rattle.pbx_link_definitions.specs.Definitions.{Place, Part, message_name, at, parts, Defined, name_place, fields_in, methods_in, top_messages}
use Rattle.pbx_link_definitions.specs.Definitions.{messages, fields, services, extensions}
use Rattle.pbx_link_definitions.specs.Places.{places_where, place_if}
use Rattle.pbx_link_definitions.specs.Ranges.{Range}
use Rattle.pbx_link_rules_field.specs.Rules.{is_named_type, is_bad_type, has_bad_type}
use Rattle.pbx_link_rules_record.specs.FileRules.{is_bad_package, is_bad_name, bad_names}
use Rattle.pbx_link_rules_record.specs.EnumRules.{bad_enum, bad_enums}
use Rattle.pbx_link_rules_record.specs.EntryRules.{is_key_type, is_entry_field, is_key, is_value, are_entry_fields, is_empty, is_proper_entry, is_bad_entry}
use Rattle.pbx_link_rules_record.specs.EntryRules.{bad_entries}
use Rattle.pbx_link_rules_record.specs.OptionRules.{uninterpreted, uninterpreted_in_message, uninterpreted_in_enum, uninterpreted_in_service}
use Rattle.pbx_link_rules_record.specs.OptionRules.{uninterpreted_options, is_message_set, message_sets}
use Rattle.pbx_link_rules_record.specs.RangeRules.{is_bad_range, bad_ranges_of, bad_message_ranges, bad_enum_ranges, bad_ranges}
use Rattle.pbx_link_scope.specs.declared.types.Bound.{Bound}
use Rattle.pbx_link_scope.specs.declared.types.Bound.TheVariants.{Message as to_message, Enum as to_enum}
use Rattle.pbx_link_scope.specs.Scope.{bound_if}
use Rattle.pbx_link_record.specs.Linked.{type_by, linked_extension, linked_field, linked_message, linked_method, linked_service, linked_with}
use Rattle.pbx_link_record.proofs.Layers.{linked_open, linked_out}
use Rattle.pbx_link_rules.proofs.Lists.{neither}
use Rattle.pbx_link_laws.proofs.Lists.{changed_in, parts_from, halves, told_alike, placed_alike}
use Rattle.pbx_link_laws.proofs.LinkedParts.{in_linked, linked_fields_in, linked_oneofs_in, linked_ranges_in, linked_methods_in}
use Rattle.pbx_link_laws.proofs.LinkedParts.{linked_top_messages, linked_messages, linked_enums, linked_services, linked_extensions, linked_definitions}
use Rattle.pbx_link_laws.proofs.LinkedFieldRules.{linked_extension_ranges, linked_reserved_ranges}
use Rattle.pbx_link_laws.proofs.RecordRules.{proper}

abbrev File : Type 0
File = FileDescriptorProto

abbrev Message : Type 0
Message = Part DescriptorProto

-- a type that has a name is no type of a key
named_no_key : (z : ℤ) → is_named_type z ≡ true → is_key_type (Some z) ≡ false
named_no_key (negsuc n) h = refl
named_no_key (pos n) h = grind (arith, nat_tests, h)

module _ (seen : List File) where
  -- ---- names

  pub names_of : (f : File) → bad_names (linked_with seen f) ≡ bad_names f
  names_of f =
      ap (λ (ds : List Defined). place_if (is_none f.name) (pos 1 ∷ []) ++ place_if (is_bad_package f.«package») (pos 2 ∷ [])
      ++ places_where is_bad_name name_place ds)
      (linked_definitions seen f)

  -- ---- enums

  pub enums_of : (f : File) → bad_enums (linked_with seen f) ≡ bad_enums f
  enums_of f = ap (flat_map (bad_enum (is_proto3 f))) (linked_enums seen f)

  -- ---- entries of maps

  pub linked_entry : (scope : List ℕ) (m : DescriptorProto) → is_entry (linked_message seen scope m) ≡ is_entry m
  linked_entry scope m = ap (λ (l : DescriptorProto-F DescriptorProto). has_option 7 l.options) (linked_out seen scope m)

  key_type : (scope : List ℕ) (kind : Option ℤ) (name : Option (List ℕ)) → is_bad_type kind name ≡ false
      → is_key_type (type_by kind (bound_if seen scope name)) ≡ is_key_type kind
  key_type scope kind None h = refl
  key_type scope None (Some name) h = at (bound_if seen scope (Some name))
    where
      at : (b : Option Bound) → is_key_type (type_by None b) ≡ false
      at None = refl
      at (Some (to_message p)) = refl
      at (Some (to_enum p)) = refl
  key_type scope (Some z) (Some name) h = at (bound_if seen scope (Some name)) (named_no_key z (named (is_named_type z) h))
    where
      named : (b : Bool) → not b ≡ false → b ≡ true
      named true e = refl
      named false e = absurd (false≢true (sym e))

      at : (b : Option Bound) → is_key_type (Some z) ≡ false → is_key_type (type_by (Some z) b) ≡ is_key_type (Some z)
      at None e = refl
      at (Some (to_message p)) e = sym e
      at (Some (to_enum p)) e = sym e

  key_of : (scope : List ℕ) (x : FieldDescriptorProto) → has_bad_type x ≡ false → is_key (linked_field seen scope x) ≡ is_key x
  key_of scope x h = ap (λ (b : Bool). is_entry_field (codes "key") 1 x && b) (key_type scope x.kind x.type_name h)

  entry_fields : (scope : List ℕ) (xs : List FieldDescriptorProto) → list_any has_bad_type xs ≡ false
      → are_entry_fields (map (linked_field seen scope) xs) ≡ are_entry_fields xs
  entry_fields scope [] h = refl
  entry_fields scope (x ∷ []) h = refl
  entry_fields scope (x ∷ y ∷ []) h =
      let first = neither (has_bad_type x) _ h in
      let second = neither (has_bad_type y) _ first.1 in
      ap (λ (b : Bool). (b && is_value y) || (is_value x && is_key (linked_field seen scope y))) (key_of scope x first.0)
      ∙ ap (λ (b : Bool). (is_key x && is_value y) || (is_value x && b)) (key_of scope y second.0)
  entry_fields scope (x ∷ y ∷ z ∷ xs) h = refl

  empty : {X Y : Type 0} (g : X → Y) (xs : List X) → is_empty (map g xs) ≡ is_empty xs
  empty g [] = refl
  empty g (x ∷ xs) = refl

  proper_layer : (scope : List ℕ) (o : DescriptorProto-F DescriptorProto) → list_any has_bad_type o.field ≡ false → proper (linked_open seen scope o) ≡ proper o
  proper_layer scope o h =
      let name : List ℕ = qualified scope (text_or_empty o.name) in
      ap (λ (b : Bool). b && is_empty o.oneof_decl && is_empty (map (linked_message seen name) o.nested_type) && is_empty o.enum_type
      && is_empty o.extension_range && is_empty o.reserved_range) (entry_fields name o.field h)
      ∙ ap (λ (b : Bool). are_entry_fields o.field && is_empty o.oneof_decl && b && is_empty o.enum_type && is_empty o.extension_range
      && is_empty o.reserved_range)
      (empty (linked_message seen name) o.nested_type)

  bad_entry : (scope : List ℕ) (m : DescriptorProto) → list_any has_bad_type (own_fields m) ≡ false
      → is_bad_entry (linked_message seen scope m) ≡ is_bad_entry m
  bad_entry scope m h =
      ap (λ (b : Bool). b && not (is_proper_entry (linked_message seen scope m))) (linked_entry scope m)
      ∙ ap (λ (b : Bool). is_entry m && not b) (ap proper (linked_out seen scope m) ∙ proper_layer scope (out-DescriptorProto m) h)

  -- the fields of a list of messages
  abbrev bad_typed : Part FieldDescriptorProto → Bool
  bad_typed p = has_bad_type p.item

  items_of : {X : Type 0} (test : X → Bool) (scope : List ℕ) (place : Place) (n k : ℕ) (xs : List X)
      → list_any (λ (p : Part X). test p.item) (parts_from scope place n k xs) ≡ list_any test xs
  items_of test scope place n k [] = refl
  items_of test scope place n k (x ∷ xs) = ap (λ (b : Bool). test x || b) (items_of test scope place n (k + 1) xs)

  entries_placed : (ms : List Message) → list_any bad_typed (flat_map fields_in ms) ≡ false
      → places_where (λ (m : Message). is_bad_entry m.item) (λ m. m.place) (map (in_linked seen) ms)
      ≡ places_where (λ (m : Message). is_bad_entry m.item) (λ m. m.place) ms
  entries_placed [] h = refl
  entries_placed (m ∷ ms) h =
      let both = neither (list_any bad_typed (fields_in m)) (list_any bad_typed (flat_map fields_in ms))
      (sym (list_any-append bad_typed (fields_in m) (flat_map fields_in ms)) ∙ h) in
      let none : list_any has_bad_type (own_fields m.item) ≡ false = sym (items_of has_bad_type (message_name m) m.place 2 0 (own_fields m.item)) ∙ both.0 in
      one m ms (map (in_linked seen) ms) (is_bad_entry (linked_message seen m.scope m.item)) (bad_entry m.scope m.item none) (entries_placed ms both.1)
    where
      one : (m : Message) (ms ns : List Message) (b : Bool) → b ≡ is_bad_entry m.item
          → places_where (λ (n : Message). is_bad_entry n.item) (λ n. n.place) ns ≡ places_where (λ (n : Message). is_bad_entry n.item) (λ n. n.place) ms
          → map (λ (n : Message). n.place) (cond b (in_linked seen m ∷ filter (λ (n : Message). is_bad_entry n.item) ns)
          (filter (λ (n : Message). is_bad_entry n.item) ns))
          ≡ places_where (λ (n : Message). is_bad_entry n.item) (λ n. n.place) (m ∷ ms)
      one m ms ns b e ih = at b (is_bad_entry m.item) e
        where
          at : (c d : Bool) → c ≡ d
              → map (λ (n : Message). n.place) (cond c (in_linked seen m ∷ filter (λ (n : Message). is_bad_entry n.item) ns)
              (filter (λ (n : Message). is_bad_entry n.item) ns))
              ≡ map (λ (n : Message). n.place) (cond d (m ∷ filter (λ (n : Message). is_bad_entry n.item) ms)
              (filter (λ (n : Message). is_bad_entry n.item) ms))
          at true true w = ap (λ (ps : List Place). m.place ∷ ps) ih
          at false false w = ih
          at true false w = absurd (false≢true (sym w))
          at false true w = absurd (false≢true w)

  pub entries_of : (f : File) → list_any bad_typed (fields f) ≡ false → bad_entries (linked_with seen f) ≡ bad_entries f
  entries_of f h =
      halves _ _ _ _
      (placed_alike (in_linked seen) (λ (m : Message). is_entry m.item) (λ (m : Message). is_entry m.item) (λ m. linked_entry m.scope m.item)
      (λ m. m.place) (λ m. m.place) (λ m. refl) (top_messages (linked_with seen f)) (top_messages f) (linked_top_messages seen f))
      (ap (places_where (λ (m : Message). is_bad_entry m.item) (λ m. m.place)) (linked_messages seen f) ∙ entries_placed (messages f) h)

  -- ---- options

  in_message : (m : Message) → uninterpreted_in_message (in_linked seen m) ≡ uninterpreted_in_message m
  in_message m =
      halves _ _ _ _
      (halves _ _ _ _
      (halves _ _ _ _
      (ap (λ (l : DescriptorProto-F DescriptorProto). place_if (is_uninterpreted l.options) (at m 7)) (linked_out seen m.scope m.item))
      (placed_alike (changed_in (linked_field seen)) (λ p. is_uninterpreted p.item.options) (λ p. is_uninterpreted p.item.options) (λ p. refl)
      (λ p. at p 8) (λ p. at p 8) (λ p. refl) (fields_in (in_linked seen m)) (fields_in m) (linked_fields_in seen m)))
      (ap (uninterpreted (λ (r : ExtensionRange). r.options) 3) (linked_ranges_in seen m)))
      (ap (uninterpreted (λ (o : OneofDescriptorProto). o.options) 2) (linked_oneofs_in seen m))

  in_service : (s : Part ServiceDescriptorProto) → uninterpreted_in_service (changed_in (linked_service seen) s) ≡ uninterpreted_in_service s
  in_service s =
      ap (λ (ps : List Place). place_if (is_uninterpreted s.item.options) (at s 3) ++ ps)
      (placed_alike (changed_in (linked_method seen)) (λ p. is_uninterpreted p.item.options) (λ p. is_uninterpreted p.item.options) (λ p. refl)
      (λ p. at p 4) (λ p. at p 4) (λ p. refl) (methods_in (changed_in (linked_service seen) s)) (methods_in s) (linked_methods_in seen s))

  pub options_of : (f : File) → uninterpreted_options (linked_with seen f) ≡ uninterpreted_options f
  options_of f =
      halves _ _ _ _
      (halves _ _ _ _
      (halves _ _ _ _
      (ap (λ (ps : List Place). place_if (is_uninterpreted f.options) (pos 8 ∷ []) ++ ps)
      (told_alike (in_linked seen) uninterpreted_in_message uninterpreted_in_message in_message (messages (linked_with seen f)) (messages f)
      (linked_messages seen f)))
      (placed_alike (changed_in (linked_extension seen)) (λ p. is_uninterpreted p.item.options) (λ p. is_uninterpreted p.item.options) (λ p. refl)
      (λ p. at p 8) (λ p. at p 8) (λ p. refl) (extensions (linked_with seen f)) (extensions f) (linked_extensions seen f)))
      (ap (flat_map uninterpreted_in_enum) (linked_enums seen f)))
      (told_alike (changed_in (linked_service seen)) uninterpreted_in_service uninterpreted_in_service in_service
      (services (linked_with seen f)) (services f) (linked_services seen f))

  pub message_sets_of : (f : File) → message_sets (linked_with seen f) ≡ message_sets f
  message_sets_of f =
      placed_alike (in_linked seen) is_message_set is_message_set
      (λ m. ap (λ (l : DescriptorProto-F DescriptorProto). has_option 1 l.options) (linked_out seen m.scope m.item))
      (λ m. at m 7) (λ m. at m 7) (λ m. refl) (messages (linked_with seen f)) (messages f) (linked_messages seen f)

  -- ---- ranges

  message_of : (proto3 : Bool) (m : Message) → bad_message_ranges proto3 (in_linked seen m) ≡ bad_message_ranges proto3 m
  message_of proto3 m =
      halves _ _ _ _
      (ap (bad_ranges_of is_bad_range)
      (halves _ _ _ _ (ap (parts [] m.place 5) (linked_extension_ranges seen m.scope m.item))
      (ap (parts [] m.place 9) (linked_reserved_ranges seen m.scope m.item))))
      (ap (λ (rs : List Range). if proto3 then map (λ (r : Part Range). r.place) (parts [] m.place 5 rs) else []) (linked_extension_ranges seen m.scope m.item))

  pub ranges_of : (f : File) → bad_ranges (linked_with seen f) ≡ bad_ranges f
  ranges_of f =
      halves _ _ _ _
      (told_alike (in_linked seen) (bad_message_ranges (is_proto3 f)) (bad_message_ranges (is_proto3 f)) (message_of (is_proto3 f))
      (messages (linked_with seen f)) (messages f) (linked_messages seen f))
      (ap (flat_map bad_enum_ranges) (linked_enums seen f))
