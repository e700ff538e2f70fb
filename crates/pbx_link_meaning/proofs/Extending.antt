-- The extensions of a file by what they extend, and what the rules say of those of a record that keeps them.
use Rattle.std.proofs.Common.{◌≡◌, ◌∙◌, ℕ, ◌++◌, ◌&&◌, not, List, [], map, Bool, true, false, Option, Some, None, refl, ap, sym}
use Rattle.std.specs.List.{list_any}
use Rattle.std.proofs.lemmas.Slice.Eq.{bytes_eq-Decides}
use Rattle.pbx_desc_records.specs.declared.field.FieldDescriptorProto.{FieldDescriptorProto}
use Rattle.pbx_link_definitions.specs.Definitions.{Part, at, extensions}
use Rattle.pbx_link_definitions.specs.Names.{is_named, dotted}
use Rattle.pbx_link_definitions.specs.Places.{repeated}
use Rattle.pbx_link_definitions.specs.Says.{is_number}
use Rattle.pbx_link_scope.specs.declared.types.Bound.{Bound}
use Rattle.pbx_link_scope.specs.declared.types.Bound.TheVariants.{Message as to_message, Enum as to_enum}
use Rattle.pbx_link_scope.specs.Scope.{visible, bound_if, is_message}
use Rattle.pbx_link_rules_field.specs.Rules.{bad_field_numbers}
use Rattle.pbx_link_rules_scope.specs.MapFields.{same_text}
use Rattle.pbx_link_rules_scope.specs.Rules.{places_by, has_bad_type_name, has_no_extendee, unbound_in_fields, unbound_in_extensions, unbound_in_methods}
use Rattle.pbx_link_rules_scope.specs.ExtensionNumbers.{message_name_of, is_unfit, has_taken_number, Extending, like_extending, extending, extended_again}
use Rattle.pbx_link_rules_scope.specs.ExtensionNumbers.{bad_extension_numbers}
use Rattle.pbx_link_record.specs.Linked.{exact_by}
use Rattle.pbx_link_rules.specs.Breaches.{keeps_rules}
use Rattle.pbx_link_rules.proofs.First.{rule_6, rule_7}
use Rattle.pbx_link_rules.proofs.RulesKept.{keeps_each}
use Rattle.pbx_link_rules.proofs.Lists.{left_nil, right_nil, map_nil, none_where}
use Rattle.pbx_link_rules.proofs.LinkedParts.{changed_in, extension_linked}
use Rattle.pbx_link_meaning.proofs.DescribedLists.{File}
use Rattle.pbx_link_meaning.proofs.Lists.{both_parts, both_true}
use Rattle.pbx_link_meaning.proofs.Numbers.{equal_numbers}

-- ---- what the rules say

module _ (before : List File) (f : File) (kept : keeps_rules before f ≡ true) where
  abbrev seen : List File
  seen = visible before f

  none_bad : bad_extension_numbers before seen f ≡ []
  none_bad = right_nil (bad_field_numbers f) (bad_extension_numbers before seen f) (sym (rule_6 before seen f) ∙ keeps_each before f kept 6)

  pub none_unfit : list_any (λ (p : Part FieldDescriptorProto). is_unfit (visible before f) p.scope p.item) (extensions f) ≡ false
  none_unfit =
      none_where (λ (p : Part FieldDescriptorProto). is_unfit seen p.scope p.item) (λ p. at p 3) (extensions f)
      (left_nil (places_by (is_unfit seen) 3 (extensions f)) (places_by (has_taken_number before seen) 3 (extensions f))
      (left_nil _ (extended_again seen (extensions f)) none_bad))

  pub none_taken : list_any (λ (p : Part FieldDescriptorProto). has_taken_number before (visible before f) p.scope p.item) (extensions f) ≡ false
  none_taken =
      none_where (λ (p : Part FieldDescriptorProto). has_taken_number before seen p.scope p.item) (λ p. at p 3) (extensions f)
      (right_nil (places_by (is_unfit seen) 3 (extensions f)) (places_by (has_taken_number before seen) 3 (extensions f))
      (left_nil _ (extended_again seen (extensions f)) none_bad))

  pub none_again : repeated like_extending [] (map (extending (visible before f)) (extensions f)) ≡ []
  none_again =
      map_nil (λ (x : Extending). x.place) (repeated like_extending [] (map (extending seen) (extensions f)))
      (right_nil (places_by (is_unfit seen) 3 (extensions f) ++ places_by (has_taken_number before seen) 3 (extensions f)) (extended_again seen (extensions f))
      none_bad)

  -- each extends a message
  pub none_unbound : list_any (λ (p : Part FieldDescriptorProto). has_no_extendee (visible before f) p.scope p.item) (extensions f) ≡ false
  none_unbound =
      none_where (λ (p : Part FieldDescriptorProto). has_no_extendee seen p.scope p.item) (λ p. at p 2) (extensions f)
      (right_nil (places_by (has_bad_type_name seen) 6 (extensions f)) (places_by (has_no_extendee seen) 2 (extensions f))
      (right_nil (unbound_in_fields seen f) (unbound_in_extensions seen f)
      (left_nil (unbound_in_fields seen f ++ unbound_in_extensions seen f) (unbound_in_methods seen f)
      (sym (rule_7 before seen f) ∙ keeps_each before f kept 7))))

-- ---- extensions of one message under one number

-- the linked extension extends the message of this full name
abbrev pub extends_it : List ℕ → Part FieldDescriptorProto → Bool
extends_it q x = is_named x.item.extendee (dotted q)

module _ (q : List ℕ) (n : ℕ) where
  -- the linked extension extends the message of this full name under this number
  abbrev pub extends_so : Part FieldDescriptorProto → Bool
  extends_so x = extends_it q x && is_number x.item.number n

  -- the same of an extension by what its extendee is bound to
  abbrev pub is_so : Extending → Bool
  is_so e = is_named e.extendee q && is_number e.number n

  exact_alike : (name : Option (List ℕ)) (b : Option Bound) → not (is_message b) ≡ false
      → is_named (exact_by name b) (dotted q) ≡ is_named (message_name_of b) q
  exact_alike name None h = absurd (cc)
  exact_alike name (Some (to_message m)) h = refl
  exact_alike name (Some (to_enum e)) h = absurd (cc)

  pub so_alike : (seen : List File) (p : Part FieldDescriptorProto) → has_no_extendee seen p.scope p.item ≡ false
      → extends_so (changed_in (extension_linked seen) p) ≡ is_so (extending seen p)
  so_alike seen p h =
      ap (λ (b : Bool). b && is_number p.item.number n) (exact_alike p.item.extendee (bound_if seen p.scope p.item.extendee) h)

  same_names : (s t : Option (List ℕ)) → is_named s q ≡ true → is_named t q ≡ true → same_text s t ≡ true
  same_names None t h g = absurd (cc)
  same_names (Some a) None h g = absurd (cc)
  same_names (Some a) (Some b) h g = (bytes_eq-Decides b a).1 ((bytes_eq-Decides b q).0 g ∙ sym ((bytes_eq-Decides a q).0 h))

  pub so_like : (d e : Extending) → is_so d ≡ true → is_so e ≡ true → like_extending d e ≡ true
  so_like d e h g =
      let here = both_parts (is_named d.extendee q) (is_number d.number n) h in
      let there = both_parts (is_named e.extendee q) (is_number e.number n) g in
      both_true _ _ (same_names d.extendee e.extendee here.0 there.0) (equal_numbers d.number e.number n here.1 there.1)
