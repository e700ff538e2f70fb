-- The number of each extension of a pool is one that the message that it extends leaves to extensions.
use Rattle.std.proofs.Common.{◌≡◌, ◌∙◌, ℕ, ℤ, ◌++◌, ◌∷◌, ◌&&◌, ◌||◌, not, List, [], map, Bool, true, false, Option, Some, None, refl, ap, sym, subst}
use Rattle.std.specs.Prelude.{Contains}
use Rattle.std.specs.List.{list_any, flat_map}
use Rattle.std.specs.Str.{bytes_eq}
use Rattle.std.proofs.lemmas.List.Folds.{list_any-append}
use Rattle.pbx_desc_records.specs.declared.enumeration.EnumDescriptorProto.{EnumDescriptorProto}
use Rattle.pbx_desc_records.specs.declared.field.FieldDescriptorProto.{FieldDescriptorProto}
use Rattle.pbx_desc_records.specs.declared.message.DescriptorProto.{DescriptorProto}
use Rattle.pbx_link_definitions.specs.Definitions.{Part, extensions, messages, enums, message_name}
use Rattle.pbx_link_definitions.specs.Names.{is_named, dotted, qualified}
use Rattle.pbx_link_definitions.specs.Ranges.{Range, extension_ranges, in_ranges, is_field_number}
use Rattle.pbx_link_scope.specs.declared.types.Bound.{Bound}
use Rattle.pbx_link_scope.specs.declared.types.Bound.TheVariants.{Message as to_message, Enum as to_enum}
use Rattle.pbx_link_scope.specs.Scope.{types, visible, bound_if, is_message}
use Rattle.pbx_link_rules_scope.specs.Rules.{has_no_extendee}
use Rattle.pbx_link_rules_scope.specs.ExtensionNumbers.{is_outside, is_unfit}
use Rattle.pbx_link_record.specs.Laws.{linked_part}
use Rattle.pbx_link_record.specs.Linked.{linked_message, linked_record, exact_by}
use Rattle.pbx_link_record.proofs.Defines.{linking_is_change, settling_is_change}
use Rattle.pbx_link_record.proofs.FileDefines.{linked_record_messages}
use Rattle.pbx_link_rules.specs.Breaches.{keeps_rules}
use Rattle.pbx_link_rules.specs.Pool.{ArePooled}
use Rattle.pbx_link_rules.proofs.Lists.{neither, or_left, any_mapped}
use Rattle.pbx_link_rules.proofs.LinkedParts.{changed_in, extension_linked, extensions_of_linked}
use Rattle.pbx_link_meaning.proofs.PoolParts.{any_same, in_pool}
use Rattle.pbx_link_rules.proofs.Types.{Source, source, any_of, not_at, told_joined, told_seen, bound_there}
use Rattle.pbx_link_meaning.proofs.DescribedLists.{File}
use Rattle.pbx_link_meaning.proofs.Extending.{none_unfit, none_unbound, extends_it}
use Rattle.pbx_link_meaning.proofs.Lists.{both_true}
use Rattle.pbx_link_meaning.proofs.OwnNumbers.{ranges_kept}

-- ---- messages among types

module _ (test : Part DescriptorProto → Bool) where
  abbrev is_bound : Bound → Bool
  is_bound (to_message p) = test p
  is_bound (to_enum e) = false

  no_enum : (es : List (Part EnumDescriptorProto)) → list_any is_bound (map to_enum es) ≡ false
  no_enum [] = refl
  no_enum (e ∷ es) = no_enum es

  or_none : (a b : Bool) → b ≡ false → (a || b) ≡ a
  or_none true b e = refl
  or_none false b e = e

  among_types : (files : List File) → list_any is_bound (types files) ≡ list_any test (flat_map messages files)
  among_types [] = refl
  among_types (f ∷ fs) =
      list_any-append is_bound (map to_message (messages f) ++ map to_enum (enums f)) (types fs)
      ∙ ap (λ (b : Bool). b || list_any is_bound (types fs))
      (list_any-append is_bound (map to_message (messages f)) (map to_enum (enums f))
      ∙ or_none (list_any is_bound (map to_message (messages f))) _ (no_enum (enums f)) ∙ any_mapped is_bound to_message (messages f))
      ∙ ap (λ (b : Bool). list_any test (messages f) || b) (among_types fs) ∙ sym (list_any-append test (messages f) (flat_map messages fs))

-- ---- a message that leaves a number to extensions

-- the message has this full name and leaves the number to extensions
abbrev pub leaves : List ℕ → Option ℤ → Part DescriptorProto → Bool
leaves q z p = bytes_eq (message_name p) q && in_ranges (extension_ranges p.item) z

module _ (q : List ℕ) (z : Option ℤ) where
  leaves_linked : (seen : List File) (p : Part DescriptorProto) → leaves q z (linked_part seen p) ≡ leaves q z p
  leaves_linked seen p =
      ap (λ (n : List ℕ). bytes_eq (qualified p.scope n) q && in_ranges (extension_ranges (linked_part seen p).item) z)
      (settling_is_change.name p.scope (linked_message seen p.scope p.item) ∙ (linking_is_change seen).name p.scope p.item)
      ∙ ap (λ (rs : List Range). bytes_eq (message_name p) q && in_ranges rs z) (ranges_kept seen p)

  file_leaves : (before : List File) (f : File) → list_any (leaves q z) (messages (linked_record before f)) ≡ list_any (leaves q z) (messages f)
  file_leaves before f =
      let seen : List File = visible before f in
      ap (list_any (leaves q z)) (linked_record_messages seen f) ∙ any_mapped (leaves q z) (linked_part seen) (messages f)
      ∙ any_same (λ (p : Part DescriptorProto). leaves q z (linked_part seen p)) (leaves q z) (leaves_linked seen) (messages f)

-- some message of the files that the extension extends leaves its number to extensions
abbrev IsLeft : List File → Part FieldDescriptorProto → Type 0
IsLeft files x = (q : List ℕ) → extends_it q x ≡ true → list_any (leaves q x.item.number) (flat_map messages files) ≡ true

module _ (before : List File) (f : File) (kept : keeps_rules before f ≡ true) (after : List File) where
  abbrev seen : List File
  seen = visible before f

  within : (q : List ℕ) (z : Option ℤ) (name : Option (List ℕ)) (b : Option Bound) → not (is_message b) ≡ false → is_outside b z ≡ false
      → is_named (exact_by name b) (dotted q) ≡ true → ((t : Bound) → b ≡ Some t → Contains (types seen) t)
      → list_any (leaves q z) (flat_map messages seen) ≡ true
  within q z name None u v h there = absurd (cc)
  within q z name (Some (to_enum e)) u v h there = absurd (cc)
  within q z name (Some (to_message m)) u v h there =
      sym (among_types (leaves q z) seen)
      ∙ any_of (is_bound (leaves q z)) (types seen) (to_message m) (there (to_message m) refl) (both_true (bytes_eq (message_name m) q) _ h (inside _ v))
    where
      inside : (b : Bool) → not b ≡ false → b ≡ true
      inside true e = refl
      inside false e = absurd (cc)

  linked_left : (x : Part FieldDescriptorProto) → Contains (extensions (linked_record before f)) x → IsLeft (before ++ linked_record before f ∷ [] ++ after) x
  linked_left x c =
      of_source
      (source (changed_in (extension_linked seen)) (extensions f) x
      (subst (λ (ps : List (Part FieldDescriptorProto)). Contains ps x) (extensions_of_linked seen f) c))
    where
      of_source : Source (changed_in (extension_linked seen)) (extensions f) x → IsLeft (before ++ linked_record before f ∷ [] ++ after) x
      of_source s =
          subst (λ (y : Part FieldDescriptorProto). IsLeft (before ++ linked_record before f ∷ [] ++ after) y) s.made
          (λ q h.
          let p : Part FieldDescriptorProto = s.item in
          let z : Option ℤ = p.item.number in
          told_joined messages (leaves q z) (before ++ linked_record before f ∷ []) after
          ∙ or_left _ _ (told_seen messages (leaves q z) before f (linked_record before f) (file_leaves q z before f)
          (within q z p.item.extendee (bound_if seen p.scope p.item.extendee)
          (not_at (λ (y : Part FieldDescriptorProto). has_no_extendee seen y.scope y.item) (extensions f) p (none_unbound before f kept) s.within)
          (neither (not (is_field_number z)) _
          (not_at (λ (y : Part FieldDescriptorProto). is_unfit seen y.scope y.item) (extensions f) p (none_unfit before f kept) s.within)).1
          h (λ t e. bound_there seen t p.scope p.item.extendee e))))

pub extensions_left : (pool : List File) → ArePooled [] pool → (x : Part FieldDescriptorProto) → Contains (flat_map extensions pool) x
    → (q : List ℕ) → extends_it q x ≡ true → list_any (leaves q x.item.number) (flat_map messages pool) ≡ true
extensions_left pool pooled x c = in_pool extensions IsLeft linked_left [] pool pooled x c
