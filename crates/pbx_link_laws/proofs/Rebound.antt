-- The exact names of a linked file are bound, in it, to what the names of the file are bound to, up to linking.
use Rattle.std.proofs.Common.{◌≡◌, ◌∙◌, ℕ, ◌==◌, cond, List, [], ◌∷◌, ◌++◌, map, Bool, true, false, if◌then◌else◌, Option, None, Some, refl, ap, sym}
use Rattle.std.specs.Prelude.{find, option_map, reverse}
use Rattle.std.specs.Option.{option_or}
use Rattle.std.specs.Str.{bytes_eq}
use Rattle.std.proofs.lemmas.List.{map-append}
use Rattle.std.proofs.lemmas.Slice.Eq.{bytes_eq-Decides}
use Rattle.pbx_desc_records.specs.declared.enumeration.EnumDescriptorProto.{EnumDescriptorProto}
use Rattle.pbx_desc_records.specs.declared.file.FileDescriptorProto.{FileDescriptorProto}
use Rattle.pbx_desc_records.specs.declared.message.DescriptorProto.{DescriptorProto, out-DescriptorProto, roll-DescriptorProto, out-roll-DescriptorProto}
use Rattle.pbx_desc_records.specs.declared.message.DescriptorProto.TheOpen.{DescriptorProto-F}
use Rattle.pbx_desc_records.specs.declared.message.ExtensionRange.{ExtensionRange}
use Rattle.pbx_link_definitions.specs.Names.{text_or_empty, dotted, qualified, first_part, has_dot, outward}
use Rattle.pbx_link_definitions.specs.Says.{has_option, signed_or_zero}
use Rattle.pbx_link_definitions.specs.Definitions.{Part, messages, enums}
use Rattle.pbx_link_definitions.specs.Ranges.{Range}
use Rattle.pbx_link_scope.specs.declared.types.Bound.{Bound}
use Rattle.pbx_link_scope.specs.declared.types.Bound.TheVariants.{Message as to_message, Enum as to_enum}
use Rattle.pbx_link_scope.specs.Scope.{reached, visible, bound_name, types, type_named, is_scope_name, first_type, type_in_first, type_from, bound, bound_if}
use Rattle.pbx_link_record.specs.Linked.{exact_by, exact, linked_with}
use Rattle.pbx_link_record.proofs.Layers.{linked_out}
use Rattle.pbx_link_laws.proofs.Lists.{map_through}
use Rattle.pbx_link_laws.proofs.LinkedParts.{in_linked, linked_messages, linked_enums, linked_definitions}
use Rattle.pbx_link_laws.proofs.Scope.{IsBlind, bound_by, Alike, SeeAlike, named_alike, bound_if_alike, types_of, sees_with}

abbrev File : Type 0
File = FileDescriptorProto

-- ---- what linking changes of messages is left out

abbrev bare_layer : DescriptorProto-F DescriptorProto → DescriptorProto-F DescriptorProto
bare_layer o = record o { field = []; nested_type = []; extension = [] }

-- a message without fields, nested messages and extensions
abbrev pub bare : DescriptorProto → DescriptorProto
bare m = roll-DescriptorProto (bare_layer (out-DescriptorProto m))

abbrev pub same_enum : EnumDescriptorProto → EnumDescriptorProto
same_enum e = e

bare_out : (m : DescriptorProto) → out-DescriptorProto (bare m) ≡ bare_layer (out-DescriptorProto m)
bare_out m = out-roll-DescriptorProto (bare_layer (out-DescriptorProto m))

pub bare_is_blind : IsBlind bare same_enum
bare_is_blind = record {
  name = λ m. ap (λ (l : DescriptorProto-F DescriptorProto). text_or_empty l.name) (bare_out m);
  entry = λ m. ap (λ (l : DescriptorProto-F DescriptorProto). has_option 7 l.options) (bare_out m);
  ranges = λ m.
      let range : ExtensionRange → Range = λ r. record { start = signed_or_zero r.start; «end» = r.«end» } in
      ap (λ (l : DescriptorProto-F DescriptorProto). map range l.extension_range) (bare_out m);
  enum_name = λ e. refl;
  values = λ e text. refl;
}

abbrev bare_bound : Bound → Bound
bare_bound = bound_by bare same_enum

-- ---- a type that is found is the one of its full name

found_passes : {X : Type 0} (test : X → Bool) (xs : List X) (x : X) → find test xs ≡ Some x → test x ≡ true
found_passes test [] x e = absurd (cc)
found_passes {X} test (y ∷ ys) x e = at (test y) refl e (found_passes test ys x)
  where
    at : (b : Bool) → test y ≡ b → cond b (Some y) (find test ys) ≡ Some x → (find test ys ≡ Some x → test x ≡ true) → test x ≡ true
    at true w g ih = let same : y ≡ x = cc in ap test (sym same) ∙ w
    at false w g ih = ih g

module _ (seen : List File) (b : Bound) where
  abbrev IsNamed : Type 0
  IsNamed = type_named seen (bound_name b) ≡ Some b

  by_name : (name : List ℕ) → type_named seen name ≡ Some b → IsNamed
  unfolding type_named
  by_name name e =
      let same : bound_name b ≡ name =
      (bytes_eq-Decides (bound_name b) name).0 (found_passes (λ c. bytes_eq (bound_name c) name) (types seen) b e) in
      ap (λ (n : List ℕ). find (λ c. bytes_eq (bound_name c) n) (types seen)) same ∙ e

  by_first : (name : List ℕ) (ss : List (List ℕ)) → first_type seen name ss ≡ Some b → IsNamed
  unfolding first_type
  by_first name [] e = absurd (cc)
  by_first name (s ∷ ss) e = at (type_named seen (qualified s name)) refl e (by_first name ss)
    where
      at : (o : Option Bound) → type_named seen (qualified s name) ≡ o → option_or o (first_type seen name ss) ≡ Some b
          → (first_type seen name ss ≡ Some b → IsNamed) → IsNamed
      at None w g ih = ih g
      at (Some c) w g ih = by_name (qualified s name) (w ∙ g)

  by_scope : (name : List ℕ) (ss : List (List ℕ)) → type_in_first seen name ss ≡ Some b → IsNamed
  unfolding type_in_first
  by_scope name [] e = absurd (cc)
  by_scope name (s ∷ ss) e = at (is_scope_name seen (qualified s (first_part name))) e (by_scope name ss)
    where
      at : (c : Bool) → (if c then type_named seen (qualified s name) else type_in_first seen name ss) ≡ Some b
          → (type_in_first seen name ss ≡ Some b → IsNamed) → IsNamed
      at true g ih = by_name (qualified s name) g
      at false g ih = ih g

  by_either : (scope name : List ℕ) → type_from seen scope name ≡ Some b → IsNamed
  by_either scope name e = at (has_dot name) e
    where
      at : (c : Bool) → (if c then type_in_first seen name (outward scope) else first_type seen name (outward scope)) ≡ Some b → IsNamed
      at true g = by_scope name (outward scope) g
      at false g = by_first name (outward scope) g

  bound_is_named : (scope name : List ℕ) → bound seen scope name ≡ Some b → IsNamed
  unfolding bound
  bound_is_named scope [] e = absurd (cc)
  bound_is_named scope (c ∷ cs) e = at (c == 46) e
    where
      at : (d : Bool) → (if d then type_named seen cs else type_from seen scope (c ∷ cs)) ≡ Some b → IsNamed
      at true g = by_name cs g
      at false g = by_either scope (c ∷ cs) g

-- ---- a linked file

exact_bound : (seen : List File) (scope name : List ℕ) → bound seen scope (dotted name) ≡ type_named seen name
unfolding bound
exact_bound seen scope name = refl

module _ (files : List File) (f : File) where
  abbrev pub seen_by : List File
  seen_by = visible files f

  -- what the linked file sees
  abbrev pub seen_again : List File
  seen_again = visible files (linked_with seen_by f)

  bare_linked : (p : Part DescriptorProto) → bare_bound (to_message (in_linked seen_by p)) ≡ bare_bound (to_message p)
  bare_linked p =
      ap (λ (o : DescriptorProto-F DescriptorProto). to_message (record p { item = roll-DescriptorProto (bare_layer o) })) (linked_out seen_by p.scope p.item)

  bare_types : map bare_bound (types_of (linked_with seen_by f)) ≡ map bare_bound (types_of f)
  bare_types =
      ap (λ (es : List (Part EnumDescriptorProto)). map bare_bound (map to_message (messages (linked_with seen_by f)) ++ map to_enum es))
      (linked_enums seen_by f)
      ∙ map-append bare_bound (map to_message (messages (linked_with seen_by f))) (map to_enum (enums f))
      ∙ ap (λ (bs : List Bound). bs ++ map bare_bound (map to_enum (enums f))) messages_bare
      ∙ sym (map-append bare_bound (map to_message (messages f)) (map to_enum (enums f)))
    where
      messages_bare : map bare_bound (map to_message (messages (linked_with seen_by f))) ≡ map bare_bound (map to_message (messages f))
      messages_bare =
          ap (λ (ms : List (Part DescriptorProto)). map bare_bound (map to_message ms)) (linked_messages seen_by f)
          ∙ map_through to_message bare_bound (λ p. bare_bound (to_message p)) (λ p. refl) (map (in_linked seen_by) (messages f))
          ∙ map_through (in_linked seen_by) (λ p. bare_bound (to_message p)) (λ p. bare_bound (to_message p)) bare_linked (messages f)
          ∙ sym (map_through to_message bare_bound (λ p. bare_bound (to_message p)) (λ p. refl) (messages f))

  pub linked_sees : SeeAlike bare same_enum seen_again seen_by
  linked_sees =
      sees_with bare same_enum bare_is_blind (linked_with seen_by f) f (reached f.dependency (reverse files)) bare_types (linked_definitions seen_by f) refl

  -- an exact name is bound to what the name is bound to
  pub rebound : (scope : List ℕ) (name : Option (List ℕ))
      → Alike bare same_enum (bound_if seen_again scope (exact seen_by scope name)) (bound_if seen_by scope name)
  rebound scope None = refl
  rebound scope (Some name) = at (bound seen_by scope name) refl
    where
      at : (o : Option Bound) → bound seen_by scope name ≡ o → Alike bare same_enum (bound_if seen_again scope (exact_by (Some name) o)) o
      at None e = bound_if_alike bare same_enum seen_again seen_by linked_sees scope (Some name) ∙ ap (option_map bare_bound) e
      at (Some b) e =
          ap (option_map bare_bound) (exact_bound seen_again scope (bound_name b))
          ∙ named_alike bare same_enum seen_again seen_by linked_sees (bound_name b)
          ∙ ap (option_map bare_bound) (bound_is_named seen_by b scope name e)
