-- What the rules of linking say of the types and the defaults of the fields of a pool.
use Rattle.std.proofs.Common.{◌≡◌, ◌∙◌, ◌⊎◌, inl, inr, ℕ, ◌==◌, ◌&&◌, ◌||◌, not, List, [], ◌++◌, Bool, true, false, Option, Some, None, refl, sym, subst}
use Rattle.std.specs.Prelude.{ℤ, pos, negsuc, Contains, is_some}
use Rattle.std.specs.List.{list_any, flat_map}
use Rattle.std.proofs.lemmas.List.Folds.{list_any-append}
use Rattle.std.proofs.lemmas.List.Elements.{Contains-append_cases}
use Rattle.pbx_desc_records.specs.declared.field.FieldDescriptorProto.{FieldDescriptorProto}
use Rattle.pbx_desc_records.specs.declared.file.FileDescriptorProto.{FileDescriptorProto}
use Rattle.pbx_link_definitions.specs.Definitions.{Place, Part, at, fields, extensions}
use Rattle.pbx_link_definitions.specs.Names.{text_or_empty, dotted}
use Rattle.pbx_link_definitions.specs.Says.{is_number, is_proto3, is_repeated, number_or_zero}
use Rattle.pbx_link_scope.specs.declared.types.Bound.{Bound}
use Rattle.pbx_link_scope.specs.declared.types.Bound.TheVariants.{Message as to_message, Enum as to_enum}
use Rattle.pbx_link_scope.specs.Scope.{visible, bound_if, bound_name}
use Rattle.pbx_link_rules_field.specs.Rules.{all_fields, is_type, is_named_type, is_bad_type, has_bad_type}
use Rattle.pbx_link_rules_scope.specs.Rules.{places_by, is_bad_type_name, has_bad_type_name, has_bad_extendee, has_no_extendee, unbound_names}
use Rattle.pbx_link_rules_scope.specs.Rules.{unbound_in_fields, unbound_in_extensions, unbound_in_methods}
use Rattle.pbx_link_rules_scope.specs.Defaults.{is_default_of, has_bad_default, bad_defaults}
use Rattle.pbx_link_record.specs.Linked.{linked_record, type_by, exact_by, exact}
use Rattle.pbx_link_rules.specs.Breaches.{keeps_rules}
use Rattle.pbx_link_rules.proofs.First.{rule_7, rule_8, rule_11}
use Rattle.pbx_link_rules.proofs.RulesKept.{keeps_each}
use Rattle.pbx_link_rules.specs.Pool.{ArePooled}
use Rattle.pbx_link_rules.proofs.Lists.{neither, left_nil, right_nil, none_where}
use Rattle.pbx_link_rules.proofs.LinkedParts.{changed_in, field_linked, extension_linked, fields_of_linked, extensions_of_linked}
use Rattle.pbx_link_rules.proofs.Types.{Source, source, not_at}
use Rattle.pbx_link_meaning.proofs.PoolParts.{in_pool}
use Rattle.pbx_message_laws.proofs.DefaultTexts.{IsTyped}

-- ---- one field

-- the text of a default of a linked field of this type is one of the type
abbrev pub TypedBy : Option ℤ → Option (List ℕ) → Type 0
TypedBy kind text = (t : List ℕ) → text ≡ Some t → IsTyped (number_or_zero kind) t

-- a linked field of a message type has an exact name
abbrev pub NamedBy : Option ℤ → Option (List ℕ) → Type 0
NamedBy kind name = is_number kind 11 ≡ true → (q : List ℕ) × (name ≡ Some (dotted q))

named : (b : Option Bound) (name : Option (List ℕ)) (kind : Option ℤ) → is_bad_type kind name ≡ false → is_bad_type_name name b kind ≡ false
    → NamedBy (type_by kind b) (exact_by name b)
named (Some b) name kind g h e = (bound_name b, refl)
named None (Some name) kind g h e = absurd cc
named None None None g h e = absurd cc
named None None (Some (negsuc n)) g h e = absurd cc
named None None (Some (pos n)) g h e = absurd (at (is_type (pos n)) (n == 11) (n == 14) e g)
  where
    at : (a b c : Bool) → b ≡ true → (not a || (b || c)) ≡ false → ⊥
    at true true c e g = cc
    at false true c e g = cc
    at a false c e g = cc

module _ (proto3 repeated : Bool) where
  -- without a default there is nothing to say, and one that is no bad one is of the type
  good : (text : Option (List ℕ)) (b : Option Bound) (kind : Option ℤ) (t : List ℕ) → text ≡ Some t
      → (is_some text && (proto3 || repeated || not (is_default_of b kind (text_or_empty text)))) ≡ false → is_default_of b kind t ≡ true
  good None b kind t e h = absurd cc
  good (Some s) b kind t e h =
      let same : s ≡ t = cc in
      subst (λ (x : List ℕ). is_default_of b kind x ≡ true) same (at proto3 repeated (is_default_of b kind s) h)
    where
      at : (x y z : Bool) → (x || y || not z) ≡ false → z ≡ true
      at true y z h = absurd cc
      at false true z h = absurd cc
      at false false true h = refl
      at false false false h = absurd cc

  unbound_typed : (name : Option (List ℕ)) (kind : Option ℤ) (t : List ℕ) → is_bad_type kind name ≡ false → is_bad_type_name name None kind ≡ false
      → is_default_of None kind t ≡ true → IsTyped (number_or_zero kind) t
  unbound_typed (Some name) kind t g h e = absurd cc
  unbound_typed None None t g h e = absurd cc
  unbound_typed None (Some (negsuc n)) t g h e = absurd cc
  unbound_typed None (Some (pos n)) t g h e = at (is_type (pos n)) (is_named_type (pos n)) refl g
    where
      last : (a b : Bool) → (not a && b) ≡ true → b ≡ true
      last true b h = absurd cc
      last false b h = h

      at : (a b : Bool) → is_type (pos n) ≡ a → (not a || b) ≡ false → IsTyped n t
      at false b d k = absurd cc
      at true b d k = (d, λ a c. last (n == 11) _ e)

  typed : (b : Option Bound) (name : Option (List ℕ)) (kind : Option ℤ) (text : Option (List ℕ)) → is_bad_type kind name ≡ false
      → is_bad_type_name name b kind ≡ false
      → (is_some text && (proto3 || repeated || not (is_default_of b kind (text_or_empty text)))) ≡ false
      → TypedBy (type_by kind b) text
  typed None name kind text g h k t e = unbound_typed name kind t g h (good text None kind t e k)
  typed (Some (to_message p)) name kind text g h k t e = absurd (let bad = good text (Some (to_message p)) kind t e k in cc)
  typed (Some (to_enum p)) name kind text g h k t e = (refl, λ a c. absurd cc)

-- ---- a record that keeps the rules

abbrev Field : Type 0
Field = Part FieldDescriptorProto

module _ (before : List FileDescriptorProto) (f : FileDescriptorProto) (kept : keeps_rules before f ≡ true) where
  abbrev seen : List FileDescriptorProto
  seen = visible before f

  abbrev bad_type : Field → Bool
  bad_type p = has_bad_type p.item

  abbrev bad_name : Field → Bool
  bad_name p = has_bad_type_name seen p.scope p.item

  abbrev bad_default : Field → Bool
  bad_default p = has_bad_default (is_proto3 f) seen p.scope p.item

  types_good : (list_any bad_type (fields f) ≡ false) × (list_any bad_type (extensions f) ≡ false)
  types_good =
      neither _ _
      (sym (list_any-append bad_type (fields f) (extensions f))
      ∙ none_where bad_type (λ p. at p 5) (all_fields f) (sym (rule_8 before seen f) ∙ keeps_each before f kept 8))

  unbound : unbound_names seen f ≡ []
  unbound = sym (rule_7 before seen f) ∙ keeps_each before f kept 7

  in_fields : unbound_in_fields seen f ++ unbound_in_extensions seen f ≡ []
  in_fields = left_nil (unbound_in_fields seen f ++ unbound_in_extensions seen f) (unbound_in_methods seen f) unbound

  names_good : (list_any bad_name (fields f) ≡ false) × (list_any bad_name (extensions f) ≡ false)
  names_good = (
    none_where bad_name (λ p. at p 6) (fields f)
        (left_nil (places_by (has_bad_type_name seen) 6 (fields f)) (places_by (has_bad_extendee seen) 2 (fields f))
        (left_nil (unbound_in_fields seen f) (unbound_in_extensions seen f) in_fields)),
    none_where bad_name (λ p. at p 6) (extensions f)
        (left_nil (places_by (has_bad_type_name seen) 6 (extensions f)) (places_by (has_no_extendee seen) 2 (extensions f))
        (right_nil (unbound_in_fields seen f) (unbound_in_extensions seen f) in_fields)),
  )

  none_bad : bad_defaults seen f ≡ []
  none_bad = sym (rule_11 before seen f) ∙ keeps_each before f kept 11

  defaults_good : (list_any bad_default (fields f) ≡ false) × (list_any bad_default (extensions f) ≡ false)
  defaults_good =
      let first : List Place = places_by (has_bad_default (is_proto3 f) seen) 7 (fields f) in
      let second : List Place = places_by (has_bad_default (is_proto3 f) seen) 7 (extensions f) in (
        none_where bad_default (λ p. at p 7) (fields f) (left_nil first second none_bad),
        none_where bad_default (λ p. at p 7) (extensions f) (right_nil first second none_bad),
      )

  abbrev IsGood : Field → Type 0
  IsGood p = TypedBy p.item.kind p.item.default_value × NamedBy p.item.kind p.item.type_name

  good_item : (p : Field) → bad_type p ≡ false → bad_name p ≡ false → bad_default p ≡ false
      → TypedBy (type_by p.item.kind (bound_if seen p.scope p.item.type_name)) p.item.default_value
      × NamedBy (type_by p.item.kind (bound_if seen p.scope p.item.type_name)) (exact seen p.scope p.item.type_name)
  good_item p a b c = (
    typed (is_proto3 f) (is_repeated p.item) (bound_if seen p.scope p.item.type_name) p.item.type_name p.item.kind p.item.default_value a b c,
    named (bound_if seen p.scope p.item.type_name) p.item.type_name p.item.kind a b,
  )

  linked_good : (after : List FileDescriptorProto) (x : Field) → Contains (all_fields (linked_record before f)) x → IsGood x
  linked_good after x c = by (Contains-append_cases (fields (linked_record before f)) (extensions (linked_record before f)) x c)
    where
      of_field : Source (changed_in (field_linked seen)) (fields f) x → IsGood x
      of_field s =
          subst IsGood s.made
          (good_item s.item (not_at bad_type (fields f) s.item types_good.0 s.within) (not_at bad_name (fields f) s.item names_good.0 s.within)
          (not_at bad_default (fields f) s.item defaults_good.0 s.within))

      of_extension : Source (changed_in (extension_linked seen)) (extensions f) x → IsGood x
      of_extension s =
          subst IsGood s.made
          (good_item s.item (not_at bad_type (extensions f) s.item types_good.1 s.within) (not_at bad_name (extensions f) s.item names_good.1 s.within)
          (not_at bad_default (extensions f) s.item defaults_good.1 s.within))

      by : Contains (fields (linked_record before f)) x ⊎ Contains (extensions (linked_record before f)) x → IsGood x
      by (inl d) =
          of_field
          (source (changed_in (field_linked seen)) (fields f) x (subst (λ (ps : List Field). Contains ps x) (fields_of_linked seen f) d))
      by (inr d) =
          of_extension
          (source (changed_in (extension_linked seen)) (extensions f) x (subst (λ (ps : List Field). Contains ps x) (extensions_of_linked seen f) d))

-- what the rules say of each field and extension of a pool
pool_good : (pool : List FileDescriptorProto) → ArePooled [] pool → (x : Field) → Contains (flat_map all_fields pool) x
    → TypedBy x.item.kind x.item.default_value × NamedBy x.item.kind x.item.type_name
pool_good pool pooled x c =
    in_pool all_fields (λ fs p. TypedBy p.item.kind p.item.default_value × NamedBy p.item.kind p.item.type_name) linked_good [] pool pooled x c

-- the default is one of its type
pub pool_defaults : (pool : List FileDescriptorProto) → ArePooled [] pool → (x : Field) → Contains (flat_map all_fields pool) x
    → TypedBy x.item.kind x.item.default_value
pool_defaults pool pooled x c = (pool_good pool pooled x c).0

-- the name of a message type is exact
pub pool_names : (pool : List FileDescriptorProto) → ArePooled [] pool → (x : Field) → Contains (flat_map all_fields pool) x
    → NamedBy x.item.kind x.item.type_name
pool_names pool pooled x c = (pool_good pool pooled x c).1
