-- The numbers of the fields of each message of a pool: each is one that fields may have, stands once, and is left to no extension.
use Rattle.std.proofs.Common.{◌≡◌, ◌∙◌, ℕ, ℤ, ◌≤◌, ◌++◌, not, List, [], map, Bool, true, false, Option, ap, sym, arith}
use Rattle.std.specs.Prelude.{Contains}
use Rattle.std.specs.List.{list_any, flat_map}
use Rattle.std.proofs.lemmas.List.Folds.{list_any-append}
use Rattle.pbx_desc_records.specs.declared.field.FieldDescriptorProto.{FieldDescriptorProto}
use Rattle.pbx_desc_records.specs.declared.message.DescriptorProto.{DescriptorProto, out-DescriptorProto}
use Rattle.pbx_desc_records.specs.declared.message.DescriptorProto.TheOpen.{DescriptorProto-F}
use Rattle.pbx_desc_records.specs.declared.message.ExtensionRange.{ExtensionRange}
use Rattle.pbx_link_definitions.specs.Definitions.{Part, at, fields_in, messages}
use Rattle.pbx_link_definitions.specs.Places.{repeated}
use Rattle.pbx_link_definitions.specs.Ranges.{Range, extension_ranges, reserved_ranges, all_ranges, in_ranges, has_number, is_field_number}
use Rattle.pbx_link_definitions.specs.Says.{is_number, signed_or_zero}
use Rattle.pbx_link_scope.specs.Scope.{visible}
use Rattle.pbx_link_rules_field.specs.Rules.{is_bad_number, like_numbered, unfit_numbers, repeated_numbers, reserved_names}
use Rattle.pbx_link_rules_field.specs.Rules.{bad_numbers_in, bad_field_numbers}
use Rattle.pbx_link_rules_scope.specs.ExtensionNumbers.{bad_extension_numbers}
use Rattle.pbx_link_record.specs.Settled.{settled_extension_range}
use Rattle.pbx_link_record.specs.Laws.{linked_part}
use Rattle.pbx_link_rules.specs.Breaches.{keeps_rules}
use Rattle.pbx_link_rules.proofs.First.{rule_6}
use Rattle.pbx_link_rules.proofs.RulesKept.{keeps_each}
use Rattle.pbx_link_rules.specs.Pool.{ArePooled}
use Rattle.pbx_link_rules.proofs.Counted.{count, count_map}
use Rattle.pbx_link_rules.proofs.Lists.{neither, left_nil, right_nil, map_nil, none_where, any_mapped}
use Rattle.pbx_link_rules.proofs.LinkedParts.{changed_in, field_linked}
use Rattle.pbx_link_meaning.proofs.PoolParts.{map_twice, linked_layer_is, fields_in_linked}
use Rattle.pbx_link_meaning.proofs.DescribedLists.{File}
use Rattle.pbx_link_meaning.proofs.Lists.{any_weaker, nil_inside, once}
use Rattle.pbx_link_meaning.proofs.Numbers.{equal_numbers}
use Rattle.pbx_link_meaning.proofs.Types.{each_message}
use Rattle.pbx_link_meaning.proofs.ValidNumbers.{is_bad}

-- the field has this number
abbrev pub has : ℕ → Part FieldDescriptorProto → Bool
has n x = is_number x.item.number n

-- the number of the field is in a range that is left to extensions
abbrev pub is_ranged : DescriptorProto → Part FieldDescriptorProto → Bool
is_ranged m x = in_ranges (extension_ranges m) x.item.number

pub record HasOwnNumbers (p : Part DescriptorProto) : Type 0 where
  pub fit : list_any is_bad (fields_in p) ≡ false
  pub once : (n : ℕ) → count (has n) (fields_in p) ≤ 1
  pub unranged : list_any (is_ranged p.item) (fields_in p) ≡ false

pub ranges_kept : (seen : List File) (p : Part DescriptorProto) → extension_ranges (linked_part seen p).item ≡ extension_ranges p.item
ranges_kept seen p =
    let own : DescriptorProto-F DescriptorProto = out-DescriptorProto p.item in
    let range : ExtensionRange → Range = λ r. record { start = signed_or_zero r.start; «end» = r.«end» } in
    ap (λ (l : DescriptorProto-F DescriptorProto). map range l.extension_range) (linked_layer_is seen p.scope p.item)
    ∙ map_twice settled_extension_range range own.extension_range

module _ (before : List File) (f : File) (kept : keeps_rules before f ≡ true) (p : Part DescriptorProto) (there : Contains (messages f) p) where
  abbrev seen : List File
  seen = visible before f

  none_bad : bad_numbers_in p ≡ []
  none_bad =
      nil_inside bad_numbers_in (messages f) p there
      (left_nil (bad_field_numbers f) (bad_extension_numbers before seen f) (sym (rule_6 before seen f) ∙ keeps_each before f kept 6))

  none_unfit : list_any (λ (x : Part FieldDescriptorProto). is_bad_number p.item x.item.number) (fields_in p) ≡ false
  none_unfit =
      none_where (λ (x : Part FieldDescriptorProto). is_bad_number p.item x.item.number) (λ x. at x 3) (fields_in p)
      (left_nil (unfit_numbers p) (repeated_numbers p) (left_nil (unfit_numbers p ++ repeated_numbers p) (reserved_names p) none_bad))

  none_again : repeated like_numbered [] (fields_in p) ≡ []
  none_again =
      map_nil (λ (x : Part FieldDescriptorProto). at x 3) (repeated like_numbered [] (fields_in p))
      (right_nil (unfit_numbers p) (repeated_numbers p) (left_nil (unfit_numbers p ++ repeated_numbers p) (reserved_names p) none_bad))

  unranged_number : (o : Option ℤ) → is_bad_number p.item o ≡ false → in_ranges (extension_ranges p.item) o ≡ false
  unranged_number o e =
      (neither (in_ranges (extension_ranges p.item) o) (in_ranges (reserved_ranges p.item) o)
      (sym (list_any-append (λ (r : Range). has_number r o) (extension_ranges p.item) (reserved_ranges p.item))
      ∙ (neither (not (is_field_number o)) (in_ranges (all_ranges p.item) o) e).1)).0

  own_unranged : list_any (is_ranged p.item) (fields_in p) ≡ false
  own_unranged =
      any_weaker (λ (x : Part FieldDescriptorProto). is_bad_number p.item x.item.number) (is_ranged p.item)
      (λ x e. unranged_number x.item.number e) (fields_in p) none_unfit

  abbrev changed : Part FieldDescriptorProto → Part FieldDescriptorProto
  changed = changed_in (field_linked seen)

  linked_numbers : HasOwnNumbers (linked_part seen p)
  linked_numbers = record {
    fit =
        ap (list_any is_bad) (fields_in_linked seen p) ∙ any_mapped is_bad changed (fields_in p)
        ∙ any_weaker (λ (x : Part FieldDescriptorProto). is_bad_number p.item x.item.number) is_bad
        (λ x e. (neither (not (is_field_number x.item.number)) _ e).0)
        (fields_in p) none_unfit;
    once = λ n.
        let same : count (has n) (fields_in (linked_part seen p)) ≡ count (has n) (fields_in p) =
        ap (count (has n)) (fields_in_linked seen p) ∙ count_map (has n) changed (fields_in p) in
        let le : count (has n) (fields_in p) ≤ 1 =
        once like_numbered (has n) (λ x y a b. equal_numbers x.item.number y.item.number n a b) (fields_in p) none_again in
        omega (arith, same, le);
    unranged =
        ap (list_any (is_ranged (linked_part seen p).item)) (fields_in_linked seen p) ∙ any_mapped (is_ranged (linked_part seen p).item) changed (fields_in p)
        ∙ ap (λ (rs : List Range). list_any (λ (x : Part FieldDescriptorProto). in_ranges rs x.item.number) (fields_in p)) (ranges_kept seen p) ∙ own_unranged;
  }

pub own_numbers : (pool : List File) → ArePooled [] pool → (p : Part DescriptorProto) → Contains (flat_map messages pool) p → HasOwnNumbers p
own_numbers pool pooled p c = each_message HasOwnNumbers linked_numbers pool pooled p c
