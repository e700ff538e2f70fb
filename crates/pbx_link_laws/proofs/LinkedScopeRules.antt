-- The rules that look names up find the same in a linked record, and of type names nothing where there was nothing.
use Rattle.std.proofs.Common.{◌≡◌, ◌∙◌, ℕ, ◌+◌, cond, pos, ◌&&◌, ◌||◌, not, nat_lt, ℤ, List, [], ◌∷◌, ◌++◌, map, Bool, false, Option, None, Some}
use Rattle.std.proofs.Common.{is_some, refl, ap, sym}
use Rattle.std.specs.Prelude.{filter, option_map}
use Rattle.pbx_desc_records.specs.declared.field.FieldDescriptorProto.{FieldDescriptorProto}
use Rattle.pbx_desc_records.specs.declared.file.FileDescriptorProto.{FileDescriptorProto}
use Rattle.pbx_desc_records.specs.declared.message.DescriptorProto.{DescriptorProto}
use Rattle.pbx_desc_records.specs.declared.message.DescriptorProto.TheOpen.{DescriptorProto-F}
use Rattle.pbx_link_definitions.specs.Names.{text_or_empty}
use Rattle.pbx_link_definitions.specs.Says.{is_proto3, is_repeated, own_fields}
use Rattle.pbx_link_definitions.specs.Definitions.{Place, Part, at, message_name, fields_in, messages, fields, extensions, methods}
use Rattle.pbx_link_definitions.specs.Places.{repeated}
use Rattle.pbx_link_definitions.specs.Ranges.{is_field_number}
use Rattle.pbx_link_scope.specs.declared.types.Bound.{Bound}
use Rattle.pbx_link_scope.specs.declared.types.Bound.TheVariants.{Message as to_message, Enum as to_enum}
use Rattle.pbx_link_scope.specs.Scope.{bound_if, is_message}
use Rattle.pbx_link_rules_scope.specs.Rules.{places_by, is_bad_type_name, is_bad_message_name, has_bad_type_name, has_bad_extendee, has_no_extendee, has_no_input}
use Rattle.pbx_link_rules_scope.specs.Rules.{has_no_output}
use Rattle.pbx_link_rules_scope.specs.Rules.{unbound_in_fields, unbound_in_extensions, unbound_in_methods, unbound_names}
use Rattle.pbx_link_rules_scope.specs.Defaults.{is_default_of, has_bad_default, bad_defaults}
use Rattle.pbx_link_rules_scope.specs.MapFields.{is_entry_type, is_held_in, full_name_of, same_text, same_type, type_in, fields_of_type, is_bad_map_field}
use Rattle.pbx_link_rules_scope.specs.MapFields.{bad_map_fields_in, bad_map_fields}
use Rattle.pbx_link_rules_scope.specs.ExtensionNumbers.{message_name_of, is_outside, is_unfit, is_taken, has_taken_number, Extending, like_extending, extending}
use Rattle.pbx_link_rules_scope.specs.ExtensionNumbers.{bad_extension_numbers}
use Rattle.pbx_link_record.specs.Linked.{exact_by, exact, type_by, linked_extension, linked_field, linked_method, linked_with}
use Rattle.pbx_link_record.proofs.Layers.{linked_out}
use Rattle.pbx_link_record.proofs.Ordered.{filter_same}
use Rattle.pbx_link_rules.proofs.Lists.{left_nil, right_nil}
use Rattle.pbx_link_laws.proofs.Lists.{changed_in, parts_from, map_through, halves, told_alike, passing, placed_alike, placed_none}
use Rattle.pbx_link_laws.proofs.LinkedParts.{in_linked, linked_fields_in, linked_messages, linked_fields, linked_methods}
use Rattle.pbx_link_laws.proofs.LinkedParts.{linked_extensions}
use Rattle.pbx_link_laws.proofs.Scope.{bound_by, told_by, asks_message, asks_type_name, asks_message_name, asks_name, asks_outside, asks_default, asks_entry}
use Rattle.pbx_link_laws.proofs.Scope.{asks_held, asks_full_name}
use Rattle.pbx_link_laws.proofs.Rebound.{bare, same_enum, bare_is_blind, seen_by, seen_again, rebound}

abbrev File : Type 0
File = FileDescriptorProto

abbrev Field : Type 0
Field = Part FieldDescriptorProto

-- ---- parts that are changed in their scopes

by_placed : {X : Type 0} (w : List ℕ → X → X) (P Q : List ℕ → X → Bool) → ((scope : List ℕ) (x : X) → P scope (w scope x) ≡ Q scope x)
    → (n : ℕ) (ps qs : List (Part X))
    → ps ≡ map (changed_in w) qs → places_by P n ps ≡ places_by Q n qs
by_placed {X} w P Q same n ps qs e =
    placed_alike (changed_in w) (λ (p : Part X). P p.scope p.item) (λ (p : Part X). Q p.scope p.item) (λ p. same p.scope p.item) (λ p. at p n) (λ p. at p n)
    (λ p. refl) ps qs e

none_by : {X : Type 0} (w : List ℕ → X → X) (P Q : List ℕ → X → Bool) → ((scope : List ℕ) (x : X) → Q scope x ≡ false → P scope (w scope x) ≡ false) → (n : ℕ)
    → (ps qs : List (Part X)) → ps ≡ map (changed_in w) qs → places_by Q n qs ≡ [] → places_by P n ps ≡ []
none_by {X} w P Q weaker n ps qs e none =
    placed_none (changed_in w) (λ (p : Part X). P p.scope p.item) (λ (p : Part X). Q p.scope p.item) (λ p. weaker p.scope p.item) (λ p. at p n)
    (λ p. at p n) ps qs e none

-- all parts of a list stand in one scope
in_scope : {X : Type 0} (test : List ℕ → X → Bool) (scope : List ℕ) (place : Place) (n k : ℕ) (xs : List X)
    → filter (λ (p : Part X). test p.scope p.item) (parts_from scope place n k xs) ≡ filter (λ (p : Part X). test scope p.item) (parts_from scope place n k xs)
in_scope test scope place n k [] = refl
in_scope {X} test scope place n k (x ∷ xs) =
    ap (λ (ps : List (Part X)). cond (test scope x) (record { scope = scope; place = place ++ pos n ∷ pos k ∷ []; index = k; item = x } ∷ ps) ps)
    (in_scope test scope place n (k + 1) xs)

-- ---- what is told of a reference that is made exact

good_type_name : (name : Option (List ℕ)) (b : Option Bound) (kind : Option ℤ) → is_bad_type_name name b kind ≡ false
    → is_bad_type_name (exact_by name b) b (type_by kind b) ≡ false
good_type_name name None kind e = e
good_type_name name (Some (to_message p)) kind e = refl
good_type_name name (Some (to_enum p)) kind e = refl

default_kept : (b : Option Bound) (kind : Option ℤ) (text : List ℕ) → is_default_of b (type_by kind b) text ≡ is_default_of b kind text
default_kept None kind text = refl
default_kept (Some (to_message p)) kind text = refl
default_kept (Some (to_enum p)) kind text = refl

module _ (files : List File) (f : File) where
  abbrev seen : List File
  seen = seen_by files f

  abbrev again : List File
  again = seen_again files f

  abbrev linked_file : File
  linked_file = linked_with seen f

  -- what is told of what an exact name is bound to
  told_of : {X : Type 0} (u : Option Bound → X) → ((b : Option Bound) → u (option_map (bound_by bare same_enum) b) ≡ u b)
      → (scope : List ℕ) (name : Option (List ℕ))
      → u (bound_if again scope (exact seen scope name)) ≡ u (bound_if seen scope name)
  told_of u same scope name =
      told_by bare same_enum u same (bound_if again scope (exact seen scope name)) (bound_if seen scope name) (rebound files f scope name)

  -- ---- names

  type_name : (scope : List ℕ) (x : FieldDescriptorProto) → has_bad_type_name seen scope x ≡ false
      → has_bad_type_name again scope (linked_extension seen scope x) ≡ false
  type_name scope x h =
      let b : Option Bound = bound_if seen scope x.type_name in
      told_of (λ c. is_bad_type_name (exact seen scope x.type_name) c (type_by x.kind b))
      (asks_type_name bare same_enum bare_is_blind (exact seen scope x.type_name) (type_by x.kind b)) scope x.type_name
      ∙ good_type_name x.type_name b x.kind h

  extendee : (scope : List ℕ) (x : FieldDescriptorProto) → has_bad_extendee again scope (linked_extension seen scope x) ≡ has_bad_extendee seen scope x
  extendee scope x = named x.extendee
    where
      made_exact : (name : List ℕ) (b : Option Bound) → is_bad_message_name (exact_by (Some name) b) b ≡ is_bad_message_name (Some name) b
      made_exact name None = refl
      made_exact name (Some b) = refl

      named : (name : Option (List ℕ))
          → is_bad_message_name (exact seen scope name) (bound_if again scope (exact seen scope name)) ≡ is_bad_message_name name (bound_if seen scope name)
      named None = refl
      named (Some name) =
          told_of (is_bad_message_name (exact seen scope (Some name))) (asks_message_name bare same_enum bare_is_blind (exact seen scope (Some name))) scope
          (Some name)
          ∙ made_exact name (bound_if seen scope (Some name))

  no_extendee : (scope : List ℕ) (x : FieldDescriptorProto) → has_no_extendee again scope (linked_extension seen scope x) ≡ has_no_extendee seen scope x
  no_extendee scope x = ap not (told_of is_message (asks_message bare same_enum bare_is_blind) scope x.extendee)

  pub unbound_of : unbound_names seen f ≡ [] → unbound_names again linked_file ≡ []
  unbound_of none =
      let in_both : unbound_in_fields seen f ++ unbound_in_extensions seen f ≡ [] = left_nil _ (unbound_in_methods seen f) none in
      let in_fields : unbound_in_fields seen f ≡ [] = left_nil _ (unbound_in_extensions seen f) in_both in
      let in_extensions : unbound_in_extensions seen f ≡ [] = right_nil (unbound_in_fields seen f) _ in_both in
      let in_methods : unbound_in_methods seen f ≡ [] = right_nil (unbound_in_fields seen f ++ unbound_in_extensions seen f) _ none in
      halves _ _ _ _
      (halves _ _ _ _
      (halves _ _ _ _
      (none_by (linked_field seen) (has_bad_type_name again) (has_bad_type_name seen) type_name 6 (fields linked_file) (fields f) (linked_fields seen f)
      (left_nil _ (places_by (has_bad_extendee seen) 2 (fields f)) in_fields))
      (by_placed (linked_field seen) (has_bad_extendee again) (has_bad_extendee seen) extendee 2 (fields linked_file) (fields f) (linked_fields seen f)
      ∙ right_nil (places_by (has_bad_type_name seen) 6 (fields f)) _ in_fields))
      (halves _ _ _ _
      (none_by (linked_extension seen) (has_bad_type_name again) (has_bad_type_name seen) type_name 6 (extensions linked_file) (extensions f)
      (linked_extensions seen f)
      (left_nil _ (places_by (has_no_extendee seen) 2 (extensions f)) in_extensions))
      (by_placed (linked_extension seen) (has_no_extendee again) (has_no_extendee seen) no_extendee 2 (extensions linked_file) (extensions f)
      (linked_extensions seen f)
      ∙ right_nil (places_by (has_bad_type_name seen) 6 (extensions f)) _ in_extensions)))
      (halves _ _ _ _
      (by_placed (linked_method seen) (has_no_input again) (has_no_input seen)
      (λ scope m. ap not (told_of is_message (asks_message bare same_enum bare_is_blind) scope m.input_type)) 2 (methods linked_file) (methods f)
      (linked_methods seen f))
      (by_placed (linked_method seen) (has_no_output again) (has_no_output seen)
      (λ scope m. ap not (told_of is_message (asks_message bare same_enum bare_is_blind) scope m.output_type)) 3 (methods linked_file) (methods f)
      (linked_methods seen f))
      ∙ in_methods)

  -- ---- defaults

  default_of : (scope : List ℕ) (x : FieldDescriptorProto)
      → has_bad_default (is_proto3 f) again scope (linked_extension seen scope x) ≡ has_bad_default (is_proto3 f) seen scope x
  default_of scope x =
      let b : Option Bound = bound_if seen scope x.type_name in
      let text : List ℕ = text_or_empty x.default_value in
      ap (λ (c : Bool). is_some x.default_value && (is_proto3 f || is_repeated x || not c))
      (told_of (λ c. is_default_of c (type_by x.kind b) text) (asks_default bare same_enum bare_is_blind (type_by x.kind b) text) scope x.type_name
      ∙ default_kept b x.kind text)

  pub defaults_of : bad_defaults again linked_file ≡ bad_defaults seen f
  defaults_of =
      halves _ _ _ _
      (by_placed (linked_field seen) (has_bad_default (is_proto3 f) again) (has_bad_default (is_proto3 f) seen) default_of 7 (fields linked_file) (fields f)
      (linked_fields seen f))
      (by_placed (linked_extension seen) (has_bad_default (is_proto3 f) again) (has_bad_default (is_proto3 f) seen) default_of 7
      (extensions linked_file) (extensions f) (linked_extensions seen f))

  -- ---- fields of maps

  entry_type : (scope : List ℕ) (x : FieldDescriptorProto)
      → is_entry_type (type_in again scope (linked_extension seen scope x)) ≡ is_entry_type (type_in seen scope x)
  entry_type scope x = told_of is_entry_type (asks_entry bare same_enum bare_is_blind) scope x.type_name

  one_type : (scope : List ℕ) (x y : FieldDescriptorProto)
      → same_type (type_in again scope (linked_field seen scope x)) (type_in again scope (linked_field seen scope y))
      ≡ same_type (type_in seen scope x) (type_in seen scope y)
  one_type scope x y =
      ap (λ (t : Option (List ℕ)). same_text t (full_name_of (type_in again scope (linked_field seen scope y))))
      (told_of full_name_of (asks_full_name bare same_enum bare_is_blind) scope x.type_name)
      ∙ ap (same_text (full_name_of (type_in seen scope x))) (told_of full_name_of (asks_full_name bare same_enum bare_is_blind) scope y.type_name)

  map_field : (scope : List ℕ) (xs ys : List FieldDescriptorProto) → xs ≡ map (linked_field seen scope) ys → (x : FieldDescriptorProto)
      → is_bad_map_field again xs scope (linked_field seen scope x) ≡ is_bad_map_field seen ys scope x
  map_field scope xs ys e x =
      let made : FieldDescriptorProto = linked_field seen scope x in
      ap (λ (b : Bool). b && (not (is_repeated x) || not (is_held_in scope (type_in again scope made)) || nat_lt 1 (fields_of_type again scope xs made)))
      (entry_type scope x)
      ∙ ap (λ (b : Bool). is_entry_type (type_in seen scope x) && (not (is_repeated x) || not b || nat_lt 1 (fields_of_type again scope xs made)))
      (told_of (is_held_in scope) (asks_held bare same_enum bare_is_blind scope) scope x.type_name)
      ∙ ap (λ (n : ℕ). is_entry_type (type_in seen scope x) && (not (is_repeated x) || not (is_held_in scope (type_in seen scope x)) || nat_lt 1 n))
      (passing (linked_field seen scope) (λ y. same_type (type_in again scope made) (type_in again scope y))
      (λ y. same_type (type_in seen scope x) (type_in seen scope y))
      (one_type scope x) xs ys e)

  map_fields_in : (m : Part DescriptorProto) → bad_map_fields_in again (in_linked seen m) ≡ bad_map_fields_in seen m
  map_fields_in m =
      let name : List ℕ = message_name m in
      let xs : List FieldDescriptorProto = own_fields (in_linked seen m).item in
      let ys : List FieldDescriptorProto = own_fields m.item in
      let made : List ℕ → FieldDescriptorProto → Bool = λ scope x. is_bad_map_field again xs scope (linked_field seen scope x) in
      let fields_are : xs ≡ map (linked_field seen name) ys = ap (λ (l : DescriptorProto-F DescriptorProto). l.field) (linked_out seen m.scope m.item) in
      placed_alike (changed_in (linked_field seen)) (λ (p : Field). is_bad_map_field again xs p.scope p.item) (λ (p : Field). made p.scope p.item) (λ p. refl)
      (λ p. p.place) (λ p. p.place) (λ p. refl) (fields_in (in_linked seen m)) (fields_in m) (linked_fields_in seen m)
      ∙ ap (map (λ (p : Field). p.place))
      (in_scope made name m.place 2 0 ys
      ∙ filter_same (λ (p : Field). made name p.item) (λ (p : Field). is_bad_map_field seen ys name p.item) (λ p. map_field name xs ys fields_are p.item)
      (fields_in m)
      ∙ sym (in_scope (is_bad_map_field seen ys) name m.place 2 0 ys))

  pub map_fields_of : bad_map_fields again linked_file ≡ bad_map_fields seen f
  map_fields_of =
      halves _ _ _ _
      (told_alike (in_linked seen) (bad_map_fields_in again) (bad_map_fields_in seen) map_fields_in (messages linked_file) (messages f)
      (linked_messages seen f))
      (placed_alike (changed_in (linked_extension seen)) (λ (p : Field). is_entry_type (type_in again p.scope p.item))
      (λ (p : Field). is_entry_type (type_in seen p.scope p.item))
      (λ p. entry_type p.scope p.item) (λ p. p.place) (λ p. p.place) (λ p. refl) (extensions linked_file) (extensions f) (linked_extensions seen f))

  -- ---- numbers of extensions

  extended_name : (scope : List ℕ) (x : FieldDescriptorProto)
      → message_name_of (bound_if again scope (exact seen scope x.extendee)) ≡ message_name_of (bound_if seen scope x.extendee)
  extended_name scope x = told_of message_name_of (asks_name bare same_enum bare_is_blind) scope x.extendee

  pub extension_numbers_of : bad_extension_numbers files again linked_file ≡ bad_extension_numbers files seen f
  extension_numbers_of =
      halves _ _ _ _
      (halves _ _ _ _
      (by_placed (linked_extension seen) (is_unfit again) (is_unfit seen)
      (λ scope x. ap (λ (b : Bool). not (is_field_number x.number) || b)
      (told_of (λ b. is_outside b x.number) (asks_outside bare same_enum bare_is_blind x.number) scope x.extendee)) 3
      (extensions linked_file) (extensions f) (linked_extensions seen f))
      (by_placed (linked_extension seen) (has_taken_number files again) (has_taken_number files seen)
      (λ scope x. ap (λ (n : Option (List ℕ)). is_taken files n x.number) (extended_name scope x)) 3
      (extensions linked_file) (extensions f) (linked_extensions seen f)))
      (ap (λ (xs : List Extending). map (λ (x : Extending). x.place) (repeated like_extending [] xs))
      (ap (map (extending again)) (linked_extensions seen f)
      ∙ map_through (changed_in (linked_extension seen)) (extending again) (extending seen)
      (λ p. ap (λ (n : Option (List ℕ)). record { extendee = n; number = p.item.number; place = at p 3 }) (extended_name p.scope p.item)) (extensions f)))
