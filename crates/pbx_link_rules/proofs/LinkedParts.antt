-- Fields, extensions, enums and methods of a linked record, from those of the record.
use Rattle.std.proofs.Common.{◌≡◌, ◌∙◌, ℕ, ◌+◌, List, [], ◌∷◌, ◌++◌, map, refl, ap, sym}
use Rattle.std.specs.Prelude.{pos}
use Rattle.std.specs.List.{flat_map}
use Rattle.std.proofs.lemmas.List.{map-append}
use Rattle.pbx_desc_records.specs.declared.enumeration.EnumDescriptorProto.{EnumDescriptorProto}
use Rattle.pbx_desc_records.specs.declared.field.FieldDescriptorProto.{FieldDescriptorProto}
use Rattle.pbx_desc_records.specs.declared.file.FileDescriptorProto.{FileDescriptorProto}
use Rattle.pbx_desc_records.specs.declared.message.DescriptorProto.{DescriptorProto, out-DescriptorProto}
use Rattle.pbx_desc_records.specs.declared.message.DescriptorProto.TheOpen.{DescriptorProto-F}
use Rattle.pbx_desc_records.specs.declared.service.MethodDescriptorProto.{MethodDescriptorProto}
use Rattle.pbx_desc_records.specs.declared.service.ServiceDescriptorProto.{ServiceDescriptorProto}
use Rattle.pbx_link_definitions.specs.Names.{text_or_empty, qualified}
use Rattle.pbx_link_definitions.specs.Definitions.{Place, Part, parts, message_name, package_of, fields_in, enums_in, extensions_in, nothing}
use Rattle.pbx_link_definitions.specs.Definitions.{extensions_from, messages, fields, enums, extensions, services, methods, service_name, methods_in}
use Rattle.pbx_link_record.specs.Settled.{settled_field, settled_enum, settled_message, settled_file, settled_method, settled_service}
use Rattle.pbx_link_record.specs.Linked.{linked_field, linked_extension, linked_message, linked_with, linked_method, linked_service}
use Rattle.pbx_link_record.specs.Laws.{linked_part}
use Rattle.pbx_link_record.proofs.Layers.{linked_open, linked_out, settled_open, settled_out}
use Rattle.pbx_link_record.proofs.Changed.{changed_by, IsChange, parts_all_changed, around_changed}
use Rattle.pbx_link_record.proofs.Defines.{linking_is_change, settled_in, settling_is_change}
use Rattle.pbx_link_record.proofs.FileDefines.{linked_record_messages}
use Rattle.pbx_link_rules.proofs.Lists.{parts_from}

-- ---- lists

-- a part whose item is changed in its scope
abbrev pub changed_in : {X : Type 0} → (List ℕ → X → X) → Part X → Part X
changed_in g p = record p { item = g p.scope p.item }

parts_mapped : {X : Type 0} (g : List ℕ → X → X) (scope : List ℕ) (place : Place) (n k : ℕ) (xs : List X)
    → parts_from scope place n k (map (g scope) xs) ≡ map (changed_in g) (parts_from scope place n k xs)
parts_mapped g scope place n k [] = refl
parts_mapped {X} g scope place n k (x ∷ xs) =
    ap (λ (ps : List (Part X)). record { scope = scope; place = place ++ pos n ∷ pos k ∷ []; index = k; item = g scope x } ∷ ps)
    (parts_mapped g scope place n (k + 1) xs)

map_twice : {A B C : Type 0} (f : A → B) (g : B → C) (xs : List A) → map g (map f xs) ≡ map (λ x. g (f x)) xs
map_twice f g [] = refl
map_twice {A} {B} {C} f g (x ∷ xs) = ap (λ (ys : List C). g (f x) ∷ ys) (map_twice f g xs)

module _ {A B C D : Type 0} (f : B → List D) (v : A → B) (f' : A → List C) (h : C → D) (same : (x : A) → f (v x) ≡ map h (f' x)) where
  flat_map_mapped : (xs : List A) → flat_map f (map v xs) ≡ map h (flat_map f' xs)
  flat_map_mapped [] = refl
  flat_map_mapped (x ∷ xs) =
      ap (λ (ys : List D). ys ++ flat_map f (map v xs)) (same x) ∙ ap (λ (ys : List D). map h (f' x) ++ ys) (flat_map_mapped xs)
      ∙ sym (map-append h (f' x) (flat_map f' xs))

-- both halves of a list
halves : {X : Type 0} (a b c d : List X) → a ≡ c → b ≡ d → a ++ b ≡ c ++ d
halves a b c d p q = cc

module _ (seen : List FileDescriptorProto) where
  -- ---- in a message

  linked_layer_is : (scope : List ℕ) (m : DescriptorProto)
      → out-DescriptorProto (settled_message (linked_message seen scope m)) ≡ settled_open (linked_open seen scope (out-DescriptorProto m))
  linked_layer_is scope m = settled_out (linked_message seen scope m) ∙ ap settled_open (linked_out seen scope m)

  abbrev pub field_linked : List ℕ → FieldDescriptorProto → FieldDescriptorProto
  field_linked scope x = settled_field (linked_field seen scope x)

  fields_in_linked : (p : Part DescriptorProto) → fields_in (linked_part seen p) ≡ map (changed_in field_linked) (fields_in p)
  fields_in_linked p =
      let o : DescriptorProto-F DescriptorProto = out-DescriptorProto p.item in
      let name : List ℕ = message_name p in
      ap (λ (l : DescriptorProto-F DescriptorProto). parts (qualified p.scope (text_or_empty l.name)) p.place 2 l.field) (linked_layer_is p.scope p.item)
      ∙ ap (parts name p.place 2) (map_twice (linked_field seen name) settled_field o.field) ∙ parts_mapped field_linked name p.place 2 0 o.field

  abbrev enum_settled : List ℕ → EnumDescriptorProto → EnumDescriptorProto
  enum_settled scope e = settled_enum e

  enums_in_linked : (p : Part DescriptorProto) → enums_in (linked_part seen p) ≡ map (changed_in enum_settled) (enums_in p)
  enums_in_linked p =
      let o : DescriptorProto-F DescriptorProto = out-DescriptorProto p.item in
      ap (λ (l : DescriptorProto-F DescriptorProto). parts (qualified p.scope (text_or_empty l.name)) p.place 4 l.enum_type) (linked_layer_is p.scope p.item)
      ∙ parts_mapped enum_settled (message_name p) p.place 4 0 o.enum_type

  -- ---- in a file

  pub fields_of_linked : (f : FileDescriptorProto) → fields (settled_file (linked_with seen f)) ≡ map (changed_in field_linked) (fields f)
  fields_of_linked f =
      ap (flat_map fields_in) (linked_record_messages seen f)
      ∙ flat_map_mapped fields_in (linked_part seen) fields_in (changed_in field_linked) fields_in_linked (messages f)

  pub enums_of_linked : (f : FileDescriptorProto) → enums (settled_file (linked_with seen f)) ≡ map (changed_in enum_settled) (enums f)
  enums_of_linked f =
      halves _ _ _ _
      (ap (flat_map enums_in) (linked_record_messages seen f)
      ∙ flat_map_mapped enums_in (linked_part seen) enums_in (changed_in enum_settled) enums_in_linked (messages f))
      (parts_mapped enum_settled (package_of f) [] 5 0 f.enum_type)
      ∙ sym (map-append (changed_in enum_settled) (flat_map enums_in (messages f)) (parts (package_of f) [] 5 f.enum_type))

-- ---- methods

module _ (seen : List FileDescriptorProto) where
  abbrev service_linked : List ℕ → ServiceDescriptorProto → ServiceDescriptorProto
  service_linked scope s = settled_service (linked_service seen scope s)

  abbrev pub method_linked : List ℕ → MethodDescriptorProto → MethodDescriptorProto
  method_linked scope m = settled_method (linked_method seen scope m)

  services_of_linked : (f : FileDescriptorProto) → services (settled_file (linked_with seen f)) ≡ map (changed_in service_linked) (services f)
  services_of_linked f =
      ap (parts (package_of f) [] 6) (map_twice (linked_service seen (package_of f)) settled_service f.service)
      ∙ parts_mapped service_linked (package_of f) [] 6 0 f.service

  methods_in_linked : (p : Part ServiceDescriptorProto) → methods_in (changed_in service_linked p) ≡ map (changed_in method_linked) (methods_in p)
  methods_in_linked p =
      ap (parts (service_name p) p.place 2) (map_twice (linked_method seen (service_name p)) settled_method p.item.method)
      ∙ parts_mapped method_linked (service_name p) p.place 2 0 p.item.method

  pub methods_of_linked : (f : FileDescriptorProto) → methods (settled_file (linked_with seen f)) ≡ map (changed_in method_linked) (methods f)
  methods_of_linked f =
      ap (flat_map methods_in) (services_of_linked f)
      ∙ flat_map_mapped methods_in (changed_in service_linked) methods_in (changed_in method_linked) methods_in_linked (services f)

-- ---- extensions

module _ (g : List ℕ → DescriptorProto → DescriptorProto) (is : IsChange g) (h : List ℕ → FieldDescriptorProto → FieldDescriptorProto)
    (inside : (p : Part DescriptorProto) → extensions_in (changed_by g p) ≡ map (changed_in h) (extensions_in p)) where
  in_message : (p : Part DescriptorProto) → extensions_from (changed_by g p) ≡ map (changed_in h) (extensions_from p)
  unfolding extensions_from
  in_message = around_changed nothing extensions_in nothing extensions_in (changed_in h) g is (λ p. refl) inside

  extensions_changed : (scope : List ℕ) (ms : List DescriptorProto) (xs : List FieldDescriptorProto)
      → flat_map extensions_from (parts scope [] 4 (map (g scope) ms)) ++ parts scope [] 7 (map (h scope) xs)
      ≡ map (changed_in h) (flat_map extensions_from (parts scope [] 4 ms) ++ parts scope [] 7 xs)
  extensions_changed scope ms xs =
      halves _ _ _ _
      (ap (flat_map extensions_from) (parts_all_changed g scope [] 4 ms)
      ∙ flat_map_mapped extensions_from (changed_by g) extensions_from (changed_in h) in_message (parts scope [] 4 ms))
      (parts_mapped h scope [] 7 0 xs) ∙ sym (map-append (changed_in h) (flat_map extensions_from (parts scope [] 4 ms)) (parts scope [] 7 xs))

abbrev field_settled : List ℕ → FieldDescriptorProto → FieldDescriptorProto
field_settled scope x = settled_field x

module _ (seen : List FileDescriptorProto) where
  linked_inside : (p : Part DescriptorProto) → extensions_in (changed_by (linked_message seen) p) ≡ map (changed_in (linked_extension seen)) (extensions_in p)
  linked_inside p =
      ap (λ (l : DescriptorProto-F DescriptorProto). parts (qualified p.scope (text_or_empty l.name)) p.place 6 l.extension) (linked_out seen p.scope p.item)
      ∙ parts_mapped (linked_extension seen) (message_name p) p.place 6 0 (out-DescriptorProto p.item).extension

  settled_inside : (p : Part DescriptorProto) → extensions_in (changed_by settled_in p) ≡ map (changed_in field_settled) (extensions_in p)
  settled_inside p =
      ap (λ (l : DescriptorProto-F DescriptorProto). parts (qualified p.scope (text_or_empty l.name)) p.place 6 l.extension) (settled_out p.item)
      ∙ parts_mapped field_settled (message_name p) p.place 6 0 (out-DescriptorProto p.item).extension

  abbrev pub extension_linked : List ℕ → FieldDescriptorProto → FieldDescriptorProto
  extension_linked scope x = settled_field (linked_extension seen scope x)

  pub extensions_of_linked : (f : FileDescriptorProto) → extensions (settled_file (linked_with seen f)) ≡ map (changed_in extension_linked) (extensions f)
  extensions_of_linked f =
      let made : FileDescriptorProto = linked_with seen f in
      extensions_changed settled_in settling_is_change field_settled settled_inside (package_of f) made.message_type made.extension
      ∙ ap (map (changed_in field_settled))
      (extensions_changed (linked_message seen) (linking_is_change seen) (linked_extension seen) linked_inside (package_of f) f.message_type f.extension)
      ∙ map_twice (changed_in (linked_extension seen)) (changed_in field_settled) (extensions f)
