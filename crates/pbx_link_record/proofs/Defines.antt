-- Linked and settled records define what the records define from which they are made.
use Rattle.std.proofs.Common.{◌≡◌, ◌∙◌, ℕ, ◌+◌, List, [], ◌∷◌, ◌++◌, map, Option, refl, ap}
use Rattle.std.specs.Prelude.{pos}
use Rattle.std.specs.List.{flat_map, enumerate_from}
use Rattle.pbx_desc_records.specs.declared.enumeration.EnumDescriptorProto.{EnumDescriptorProto}
use Rattle.pbx_desc_records.specs.declared.enumeration.EnumValueDescriptorProto.{EnumValueDescriptorProto}
use Rattle.pbx_desc_records.specs.declared.field.FieldDescriptorProto.{FieldDescriptorProto}
use Rattle.pbx_desc_records.specs.declared.field.OneofDescriptorProto.{OneofDescriptorProto}
use Rattle.pbx_desc_records.specs.declared.file.FileDescriptorProto.{FileDescriptorProto}
use Rattle.pbx_desc_records.specs.declared.message.DescriptorProto.{DescriptorProto, out-DescriptorProto}
use Rattle.pbx_desc_records.specs.declared.message.DescriptorProto.TheOpen.{DescriptorProto-F}
use Rattle.pbx_link_record.specs.Settled.{settled_field, settled_oneof, settled_value, settled_enum, settled_message}
use Rattle.pbx_link_definitions.specs.Names.{text_or_empty, qualified}
use Rattle.pbx_link_record.specs.Linked.{linked_extension, linked_field, linked_message}
use Rattle.pbx_link_definitions.specs.Definitions.{Place, Part, parts, Defined, defined, field_definition, enum_definitions, before_nested, after_nested, message_name, definitions_from}
use Rattle.pbx_link_definitions.specs.declared.definitions.Sort.{Sort}
use Rattle.pbx_link_definitions.specs.declared.definitions.Sort.TheVariants.{Message as a_message, Field as a_field, Enum as an_enum, Value as a_value, Extension as an_extension, Oneof as a_oneof}
use Rattle.pbx_link_record.proofs.Layers.{linked_out, settled_out}
use Rattle.pbx_link_record.proofs.Changed.{changed_by, IsChange, around_unchanged}

-- ---- lists of parts

-- parts from an index on
abbrev from : {X : Type 0} → List ℕ → Place → ℕ → ℕ → List X → List (Part X)
from scope place n k xs = map (λ x. record { scope = scope; place = place ++ pos n ∷ pos x.0 ∷ []; index = x.0; item = x.1 }) (enumerate_from k xs)

named_from : {X : Type 0} (sort : Sort) (name : X → Option (List ℕ)) (g : X → X) → ((x : X) → name (g x) ≡ name x) → (scope : List ℕ) (place : Place) (n k : ℕ) (xs : List X)
    → map (defined sort name) (from scope place n k (map g xs)) ≡ map (defined sort name) (from scope place n k xs)
named_from sort name g same scope place n k [] = refl
named_from sort name g same scope place n k (x ∷ xs) =
    ap (λ (t : Option (List ℕ)). record { scope = scope; name = text_or_empty t; sort = sort; place = place ++ pos n ∷ pos k ∷ [] } ∷ map (defined sort name) (from scope place n (k + 1) (map g xs))) (same x)
    ∙ ap (λ (ds : List Defined). record { scope = scope; name = text_or_empty (name x); sort = sort; place = place ++ pos n ∷ pos k ∷ [] } ∷ ds) (named_from sort name g same scope place n (k + 1) xs)

-- parts that are changed with no change of their names define the same
pub named_alike : {X : Type 0} (sort : Sort) (name : X → Option (List ℕ)) (g : X → X) → ((x : X) → name (g x) ≡ name x) → (scope : List ℕ) (place : Place) (n : ℕ) (xs : List X)
    → map (defined sort name) (parts scope place n (map g xs)) ≡ map (defined sort name) (parts scope place n xs)
named_alike sort name g same scope place n xs = named_from sort name g same scope place n 0 xs

pub told_from : {X D : Type 0} (f : Part X → List D) (g : X → X) → ((scope : List ℕ) (place : Place) (k : ℕ) (x : X) → f (record { scope = scope; place = place; index = k; item = g x }) ≡ f (record { scope = scope; place = place; index = k; item = x }))
    → (scope : List ℕ) (place : Place) (n k : ℕ) (xs : List X) → flat_map f (from scope place n k (map g xs)) ≡ flat_map f (from scope place n k xs)
told_from f g same scope place n k [] = refl
told_from {X} {D} f g same scope place n k (x ∷ xs) =
    ap (λ (ds : List D). ds ++ flat_map f (from scope place n (k + 1) (map g xs))) (same scope (place ++ pos n ∷ pos k ∷ []) k x)
    ∙ ap (λ (ds : List D). f (record { scope = scope; place = place ++ pos n ∷ pos k ∷ []; index = k; item = x }) ++ ds) (told_from f g same scope place n (k + 1) xs)

pub fields_alike : (sort : Sort) (g : FieldDescriptorProto → FieldDescriptorProto) → ((x : FieldDescriptorProto) → (g x).name ≡ x.name) → (scope : List ℕ) (place : Place) (n : ℕ) (xs : List FieldDescriptorProto)
    → map (field_definition sort) (parts scope place n (map g xs)) ≡ map (field_definition sort) (parts scope place n xs)
fields_alike sort g same scope place n xs = named_alike sort (λ (x : FieldDescriptorProto). x.name) g same scope place n xs

pub enums_alike : (scope : List ℕ) (place : Place) (n : ℕ) (es : List EnumDescriptorProto) → flat_map enum_definitions (parts scope place n (map settled_enum es)) ≡ flat_map enum_definitions (parts scope place n es)
enums_alike scope place n es =
    told_from enum_definitions settled_enum
    (λ s pl k e. ap (λ (ds : List Defined). record { scope = s; name = text_or_empty e.name; sort = an_enum; place = pl } ∷ ds) (named_alike a_value (λ (v : EnumValueDescriptorProto). v.name) settled_value (λ v. refl) s pl 2 e.value))
    scope place n 0 es

-- ---- one layer

-- what is told before and after the nested messages, from the layer
abbrev before_at : List ℕ → Place → DescriptorProto-F DescriptorProto → List Defined
before_at scope place o =
    record { scope = scope; name = text_or_empty o.name; sort = a_message; place = place } ∷ map (field_definition a_field) (parts (qualified scope (text_or_empty o.name)) place 2 o.field)

abbrev after_at : List ℕ → Place → DescriptorProto-F DescriptorProto → List Defined
after_at scope place o =
    flat_map enum_definitions (parts (qualified scope (text_or_empty o.name)) place 4 o.enum_type) ++ map (field_definition an_extension) (parts (qualified scope (text_or_empty o.name)) place 6 o.extension)
    ++ map (defined a_oneof (λ (x : OneofDescriptorProto). x.name)) (parts (qualified scope (text_or_empty o.name)) place 8 o.oneof_decl)

-- ---- linked messages

pub linking_is_change : (seen : List FileDescriptorProto) → IsChange (linked_message seen)
linking_is_change seen = record {
  name = λ scope m. ap (λ (o : DescriptorProto-F DescriptorProto). text_or_empty o.name) (linked_out seen scope m);
  nested = λ scope m. ap (λ (o : DescriptorProto-F DescriptorProto). o.nested_type) (linked_out seen scope m);
}

linked_before : (seen : List FileDescriptorProto) (p : Part DescriptorProto) → before_nested (changed_by (linked_message seen) p) ≡ before_nested p
linked_before seen p =
    let o : DescriptorProto-F DescriptorProto = out-DescriptorProto p.item in
    ap (before_at p.scope p.place) (linked_out seen p.scope p.item)
    ∙ ap (λ (ds : List Defined). record { scope = p.scope; name = text_or_empty o.name; sort = a_message; place = p.place } ∷ ds)
    (fields_alike a_field (linked_field seen (message_name p)) (λ x. refl) (message_name p) p.place 2 o.field)

linked_after : (seen : List FileDescriptorProto) (p : Part DescriptorProto) → after_nested (changed_by (linked_message seen) p) ≡ after_nested p
linked_after seen p =
    let o : DescriptorProto-F DescriptorProto = out-DescriptorProto p.item in
    ap (after_at p.scope p.place) (linked_out seen p.scope p.item)
    ∙ ap (λ (ds : List Defined). flat_map enum_definitions (parts (message_name p) p.place 4 o.enum_type) ++ ds ++ map (defined a_oneof (λ (x : OneofDescriptorProto). x.name)) (parts (message_name p) p.place 8 o.oneof_decl))
    (fields_alike an_extension (linked_extension seen (message_name p)) (λ x. refl) (message_name p) p.place 6 o.extension)

-- A linked message defines what the message defines, at every depth.
pub linked_defines : (seen : List FileDescriptorProto) (p : Part DescriptorProto) → definitions_from (changed_by (linked_message seen) p) ≡ definitions_from p
unfolding definitions_from
linked_defines seen = around_unchanged before_nested after_nested (linked_message seen) (linking_is_change seen) (linked_before seen) (linked_after seen)

-- ---- settled messages

abbrev pub settled_in : List ℕ → DescriptorProto → DescriptorProto
settled_in scope m = settled_message m

pub settling_is_change : IsChange settled_in
settling_is_change = record {
  name = λ scope m. ap (λ (o : DescriptorProto-F DescriptorProto). text_or_empty o.name) (settled_out m);
  nested = λ scope m. ap (λ (o : DescriptorProto-F DescriptorProto). o.nested_type) (settled_out m);
}

settled_before : (p : Part DescriptorProto) → before_nested (changed_by settled_in p) ≡ before_nested p
settled_before p =
    let o : DescriptorProto-F DescriptorProto = out-DescriptorProto p.item in
    ap (before_at p.scope p.place) (settled_out p.item)
    ∙ ap (λ (ds : List Defined). record { scope = p.scope; name = text_or_empty o.name; sort = a_message; place = p.place } ∷ ds) (fields_alike a_field settled_field (λ x. refl) (message_name p) p.place 2 o.field)

settled_after : (p : Part DescriptorProto) → after_nested (changed_by settled_in p) ≡ after_nested p
settled_after p =
    let o : DescriptorProto-F DescriptorProto = out-DescriptorProto p.item in
    let n = message_name p in
    let oneof : OneofDescriptorProto → Option (List ℕ) = λ x. x.name in
    let a : List (Part EnumDescriptorProto) → List Defined = flat_map enum_definitions in
    ap (after_at p.scope p.place) (settled_out p.item)
    ∙ ap (λ (ds : List Defined). ds ++ map (field_definition an_extension) (parts n p.place 6 (map settled_field o.extension)) ++ map (defined a_oneof oneof) (parts n p.place 8 (map settled_oneof o.oneof_decl)))
    (enums_alike n p.place 4 o.enum_type)
    ∙ ap (λ (ds : List Defined). a (parts n p.place 4 o.enum_type) ++ ds ++ map (defined a_oneof oneof) (parts n p.place 8 (map settled_oneof o.oneof_decl)))
    (fields_alike an_extension settled_field (λ x. refl) n p.place 6 o.extension)
    ∙ ap (λ (ds : List Defined). a (parts n p.place 4 o.enum_type) ++ map (field_definition an_extension) (parts n p.place 6 o.extension) ++ ds) (named_alike a_oneof oneof settled_oneof (λ x. refl) n p.place 8 o.oneof_decl)

pub settled_defines : (p : Part DescriptorProto) → definitions_from (changed_by settled_in p) ≡ definitions_from p
unfolding definitions_from
settled_defines = around_unchanged before_nested after_nested settled_in settling_is_change settled_before settled_after
