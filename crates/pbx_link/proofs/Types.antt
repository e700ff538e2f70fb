-- What one value of a field is.
use Rattle.std.proofs.Common.{◌≡◌, ◌∙◌, ◌⊎◌, ℕ, ℤ, ◌==◌, ◌<◌, not, List, [], length}
use Rattle.std.proofs.Common.{Bool, true, false, Option, Some, None, if◌then◌else◌, refl, ap, sym, subst, inl, inr}
use Rattle.std.specs.Prelude.{pos, negsuc, Contains, IsSome, option_map}
use Rattle.std.specs.List.{list_any, flat_map}
use Rattle.std.proofs.lemmas.Bool.{false≢true}
use Rattle.std.proofs.lemmas.List.Elements.{Contains-append_left, Contains-append_right, Contains-append_cases}
use Rattle.std.proofs.lemmas.List.Folds.{list_any-append}
use Rattle.pbx_desc_records.specs.declared.enumeration.EnumDescriptorProto.{EnumDescriptorProto}
use Rattle.pbx_desc_records.specs.declared.field.FieldDescriptorProto.{FieldDescriptorProto}
use Rattle.pbx_desc_records.specs.declared.file.FileDescriptorProto.{FileDescriptorProto}
use Rattle.pbx_desc_records.specs.declared.message.DescriptorProto.{DescriptorProto}
use Rattle.pbx_link_definitions.specs.Definitions.{Part, at, messages, fields, fields_in, extensions}
use Rattle.pbx_link_definitions.specs.Says.{is_number, number_or_zero}
use Rattle.pbx_link_scope.specs.declared.types.Bound.{Bound}
use Rattle.pbx_link_scope.specs.Scope.{bound_if, visible}
use Rattle.pbx_link_rules_field.specs.Rules.{all_fields, is_type, is_bad_type, has_bad_type}
use Rattle.pbx_link_rules_scope.specs.Rules.{is_bad_type_name, has_bad_type_name, unbound_in_methods}
use Rattle.pbx_link_record.specs.Linked.{exact_by, type_by, linked_record}
use Rattle.pbx_link_rules.specs.Breaches.{keeps_rules}
use Rattle.pbx_link_rules.proofs.First.{rule_7, rule_8}
use Rattle.pbx_link_rules.proofs.RulesKept.{keeps_each}
use Rattle.pbx_link_rules.specs.Pool.{ArePooled}
use Rattle.pbx_link_rules.specs.PoolLaws.{HasType}
use Rattle.pbx_link_rules.proofs.Lists.{neither, no_other, left_nil, right_nil, none_where}
use Rattle.pbx_link_rules.proofs.LinkedParts.{changed_in, field_linked, extension_linked, fields_of_linked, extensions_of_linked}
use Rattle.pbx_link_rules.proofs.Types.{Source, source, not_at}
use Rattle.pbx_link_rules.proofs.References.{types_are_there}
use Rattle.pbx_link_meaning.specs.Descriptors.{Described, message_referred, enum_referred}
use Rattle.pbx_link.specs.declared.kind.Kind.{Kind}
use Rattle.pbx_link.specs.declared.kind.Kind.TheVariants as kinds
use Rattle.pbx_link.specs.Kinds.{scalar_of, kind_in}
use Rattle.pbx_link.specs.Tables.{part_at, no_field}
use Rattle.pbx_link.proofs.Parts.{contains_piece}
use Rattle.pbx_link.proofs.References.{IsDotted, in_pool, part_within, referred_there, enum_referred_there}

-- ---- exact names of types have a leading dot

abbrev pub IsNamedType : Option ℤ → Option (List ℕ) → Type 0
IsNamedType kind name = (is_number kind 11 ≡ true → IsDotted name) × (is_number kind 14 ≡ true → IsDotted name)

typed : (kind : Option ℤ) (name : Option (List ℕ)) (b : Option Bound) → is_bad_type_name name b kind ≡ false → is_bad_type kind name ≡ false
    → IsNamedType (type_by kind b) (exact_by name b)
typed kind name (Some t) u v = (λ e. refl, λ e. refl)
typed kind (Some name) None u v = absurd (false≢true (sym u))
typed None None None u v = (λ e. absurd (false≢true e), λ e. absurd (false≢true e))
typed (Some z) None None u v =
    let named = neither (is_number (Some z) 11) (is_number (Some z) 14) (neither (not (is_type z)) _ v).1 in
    (λ e. absurd (false≢true (sym named.0 ∙ e)), λ e. absurd (false≢true (sym named.1 ∙ e)))

module _ (before : List FileDescriptorProto) (f : FileDescriptorProto) (kept : keeps_rules before f ≡ true) where
  abbrev seen : List FileDescriptorProto
  seen = visible before f

  abbrev bad_name : Part FieldDescriptorProto → Bool
  bad_name p = has_bad_type_name seen p.scope p.item

  no_bad_name : list_any bad_name (all_fields f) ≡ false
  no_bad_name =
      let all = left_nil _ (unbound_in_methods seen f) (sym (rule_7 before seen f) ∙ keeps_each before f kept 7) in
      list_any-append bad_name (fields f) (extensions f)
      ∙ no_other (list_any bad_name (fields f)) (list_any bad_name (extensions f))
      (none_where bad_name (λ p. at p 6) (fields f) (left_nil _ _ (left_nil _ _ all)))
      (none_where bad_name (λ p. at p 6) (extensions f) (left_nil _ _ (right_nil _ _ all)))

  abbrev bad_type : Part FieldDescriptorProto → Bool
  bad_type p = has_bad_type p.item

  no_bad_type : list_any bad_type (all_fields f) ≡ false
  no_bad_type = none_where bad_type (λ p. at p 5) (all_fields f) (sym (rule_8 before seen f) ∙ keeps_each before f kept 8)

  abbrev IsTyped : Part FieldDescriptorProto → Type 0
  IsTyped p = IsNamedType p.item.kind p.item.type_name

  typed_at : (y : Part FieldDescriptorProto) → Contains (all_fields f) y
      → IsNamedType (type_by y.item.kind (bound_if seen y.scope y.item.type_name)) (exact_by y.item.type_name (bound_if seen y.scope y.item.type_name))
  typed_at y c =
      typed y.item.kind y.item.type_name (bound_if seen y.scope y.item.type_name) (not_at bad_name (all_fields f) y no_bad_name c)
      (not_at bad_type (all_fields f) y no_bad_type c)

  pub linked_are_typed : (x : Part FieldDescriptorProto) → Contains (all_fields (linked_record before f)) x → IsTyped x
  linked_are_typed x c = by_list (Contains-append_cases (fields (linked_record before f)) (extensions (linked_record before f)) x c)
    where
      of_field : Source (changed_in (field_linked seen)) (fields f) x → IsTyped x
      of_field s = subst IsTyped s.made (typed_at s.item (Contains-append_left (fields f) (extensions f) s.item s.within))

      of_extension : Source (changed_in (extension_linked seen)) (extensions f) x → IsTyped x
      of_extension s = subst IsTyped s.made (typed_at s.item (Contains-append_right (fields f) (extensions f) s.item s.within))

      by_list : Contains (fields (linked_record before f)) x ⊎ Contains (extensions (linked_record before f)) x → IsTyped x
      by_list (inl k) =
          of_field (source (changed_in (field_linked seen)) (fields f) x
          (subst (λ (ps : List (Part FieldDescriptorProto)). Contains ps x) (fields_of_linked seen f) k))
      by_list (inr k) =
          of_extension
          (source (changed_in (extension_linked seen)) (extensions f) x
          (subst (λ (ps : List (Part FieldDescriptorProto)). Contains ps x) (extensions_of_linked seen f) k))

-- ---- kinds

some_mapped : {X Y : Type 0} (g : X → Y) (o : Option X) → IsSome o → IsSome (option_map g o)
some_mapped g (Some x) e = refl
some_mapped g None e = absurd (cc)

module _ (pool : List FileDescriptorProto) (x : FieldDescriptorProto) where
  abbrev message : Option (Described DescriptorProto)
  message = message_referred pool x.type_name

  abbrev enum : Option (Described EnumDescriptorProto)
  enum = enum_referred pool x.type_name

  by_tests : (n : ℕ) (b c : Bool) → (b ≡ true → IsSome message) → (c ≡ true → IsSome enum)
      → IsSome (if b then option_map kinds.Message message else (if c then option_map kinds.Enum enum else Some (scalar_of n)))
  by_tests n true c m e = some_mapped kinds.Message message (m refl)
  by_tests n false true m e = some_mapped kinds.Enum enum (e refl)
  by_tests n false false m e = refl

  by_kind : (k : Option ℤ) → (is_number k 11 ≡ true → IsSome message) → (is_number k 14 ≡ true → IsSome enum)
      → IsSome (if number_or_zero k == 11 then option_map kinds.Message message else
      (if number_or_zero k == 14 then option_map kinds.Enum enum else Some (scalar_of (number_or_zero k))))
  by_kind None m e = refl
  by_kind (Some (pos n)) m e = by_tests n (n == 11) (n == 14) m e
  by_kind (Some (negsuc n)) m e = refl

  kind_there : HasType pool x → IsNamedType x.kind x.type_name → IsSome (kind_in pool x)
  kind_there there named =
      by_kind x.kind (λ e. referred_there pool x.type_name (named.0 e) (there.message e))
      (λ e. enum_referred_there pool x.type_name (named.1 e) (there.enum e))

module _ (pool : List FileDescriptorProto) (pooled : ArePooled [] pool) where
  kind_in_pool : (x : Part FieldDescriptorProto) → Contains (flat_map all_fields pool) x → IsSome (kind_in pool x.item)
  kind_in_pool x c =
      kind_there pool x.item (types_are_there pool x pooled c)
      (in_pool all_fields (λ p. IsNamedType p.item.kind p.item.type_name) linked_are_typed [] pool pooled x c)

  module _ (file : FileDescriptorProto) (held : Contains pool file) where
    pub field_kind : (p : Part DescriptorProto) (i : ℕ) → Contains (messages file) p → i < length (fields_in p)
        → IsSome (kind_in pool (part_at no_field (fields_in p) i).item)
    field_kind p i c lt =
        let x : Part FieldDescriptorProto = part_at no_field (fields_in p) i in
        kind_in_pool x
        (contains_piece all_fields pool file x held
        (Contains-append_left (fields file) (extensions file) x (contains_piece fields_in (messages file) p x c (part_within no_field (fields_in p) i lt))))

    pub extension_kind : (i : ℕ) → i < length (extensions file) → IsSome (kind_in pool (part_at no_field (extensions file) i).item)
    extension_kind i lt =
        let x : Part FieldDescriptorProto = part_at no_field (extensions file) i in
        kind_in_pool x
        (contains_piece all_fields pool file x held
        (Contains-append_right (fields file) (extensions file) x (part_within no_field (extensions file) i lt)))

-- what is found is as what is there
pub found_kind : (pool p : List FileDescriptorProto) (x y : FieldDescriptorProto) (o : Option Kind)
    → o ≡ kind_in p y → p ≡ pool → y ≡ x → IsSome (kind_in pool x) → IsSome o
found_kind pool p x y o is other same there =
    subst (λ (r : Option Kind). IsSome r) (sym (is ∙ ap (λ (q : List FileDescriptorProto). kind_in q y) other ∙ ap (kind_in pool) same)) there
