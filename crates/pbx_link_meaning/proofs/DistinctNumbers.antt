-- No number stands twice among the fields and extensions of a message in the shape of a pool.
use Rattle.std.proofs.Common.{◌≡◌, ◌∙◌, ℕ, ℤ, ◌+◌, ◌≤◌, ◌==◌, ◌&&◌, List, [], map, Bool, true, false, Option, refl, ap, sym, arith}
use Rattle.std.specs.Prelude.{Contains}
use Rattle.std.specs.List.{list_any, flat_map, IsDistinct}
use Rattle.std.specs.Str.{bytes_eq}
use Rattle.pbx_content.specs.declared.shape.FieldShape.{FieldShape}
use Rattle.pbx_desc_records.specs.declared.field.FieldDescriptorProto.{FieldDescriptorProto}
use Rattle.pbx_desc_records.specs.declared.message.DescriptorProto.{DescriptorProto}
use Rattle.pbx_link_definitions.specs.Definitions.{Part, extensions, messages, fields_in, message_name}
use Rattle.pbx_link_definitions.specs.Ranges.{extension_ranges, in_ranges}
use Rattle.pbx_link_definitions.specs.Says.{is_number, number_or_zero}
use Rattle.pbx_link_rules.specs.Pool.{ArePooled}
use Rattle.pbx_link_rules.proofs.Counted.{count, count_append, count_map, message_once}
use Rattle.pbx_link_rules.proofs.Distinct.{pooled_are_distinct}
use Rattle.pbx_link_rules.proofs.Named.{same_name}
use Rattle.pbx_link_rules.proofs.Types.{not_at}
use Rattle.pbx_link_meaning.specs.Descriptors.{Described, described, all_extensions, fields_of_message, extensions_of_message}
use Rattle.pbx_link_meaning.specs.Shapes.{field_shape, extension_shape, message_shape}
use Rattle.pbx_link_meaning.proofs.DescribedLists.{File, parts_back}
use Rattle.pbx_link_meaning.specs.Laws.{NumbersAreDistinct}
use Rattle.pbx_link_meaning.proofs.Extending.{extends_it, extends_so}
use Rattle.pbx_link_meaning.proofs.ExtendedOnce.{extended_once}
use Rattle.pbx_link_meaning.proofs.Lists.{both_parts, passing, one_item, none_counted, same_count, count_filter, distinct}
use Rattle.pbx_link_meaning.proofs.Numbers.{fit_number, number_is}
use Rattle.pbx_link_meaning.proofs.OwnNumbers.{has, is_ranged, own_numbers}
use Rattle.pbx_link_meaning.proofs.Ranged.{leaves, extensions_left}
use Rattle.pbx_link_meaning.proofs.Types.{each_type}
use Rattle.pbx_link_meaning.proofs.ValidNumbers.{is_bad, pool_extensions_fit}

module _ (pool : List File) (pooled : ArePooled [] pool) (p : Part DescriptorProto) (there : Contains (flat_map messages pool) p) where
  abbrev q : List ℕ
  q = message_name p

  -- ---- the message that an extension extends

  -- an extension of the message has a number that the message leaves to extensions
  left_by_it : (x : Part FieldDescriptorProto) → Contains (flat_map extensions pool) x → extends_it q x ≡ true → is_ranged p.item x ≡ true
  left_by_it x c h =
      let some = passing (leaves q x.item.number) (flat_map messages pool) (extensions_left pool pooled x c q h) in
      let parts = both_parts (bytes_eq (message_name some.item) q) (is_ranged some.item.item x) some.passes in
      let same : some.item ≡ p =
      one_item (λ (m : Part DescriptorProto). bytes_eq (message_name m) q) (flat_map messages pool) some.item p
      (message_once pool (pooled_are_distinct pool pooled) q) some.within parts.0 there (same_name q) in
      ap (λ (m : Part DescriptorProto). is_ranged m.item x) (sym same) ∙ parts.1

  -- where a field of the message has the number, no extension of it has
  not_both : (n : ℕ) → list_any (has n) (fields_in p) ≡ true → list_any (extends_so q n) (flat_map extensions pool) ≡ true → false ≡ true
  not_both n h g =
      let own = passing (has n) (fields_in p) h in
      let other = passing (extends_so q n) (flat_map extensions pool) g in
      let parts = both_parts (extends_it q other.item) (is_number other.item.item.number n) other.passes in
      let out : is_ranged p.item own.item ≡ false = not_at (is_ranged p.item) (fields_in p) own.item (own_numbers pool pooled p there).unranged own.within in
      let same : own.item.item.number ≡ other.item.item.number =
      number_is own.item.item.number n own.passes ∙ sym (number_is other.item.item.number n parts.1) in
      sym out ∙ ap (λ (z : Option ℤ). in_ranges (extension_ranges p.item) z) same ∙ left_by_it other.item other.within parts.0

  -- ---- how often a number stands

  once_in_all : (n : ℕ) → count (has n) (fields_in p) + count (extends_so q n) (flat_map extensions pool) ≤ 1
  once_in_all n = by_tests (list_any (has n) (fields_in p)) (list_any (extends_so q n) (flat_map extensions pool)) refl refl
    where
      by_tests : (a b : Bool) → list_any (has n) (fields_in p) ≡ a → list_any (extends_so q n) (flat_map extensions pool) ≡ b
          → count (has n) (fields_in p) + count (extends_so q n) (flat_map extensions pool) ≤ 1
      by_tests false b u v =
          let none = none_counted (has n) (fields_in p) u in
          let one : count (extends_so q n) (flat_map extensions pool) ≤ 1 = extended_once q n pool pooled in
          omega (arith, none, one)
      by_tests true false u v =
          let none = none_counted (extends_so q n) (flat_map extensions pool) v in
          let one : count (has n) (fields_in p) ≤ 1 = (own_numbers pool pooled p there).once n in
          omega (arith, none, one)
      by_tests true true u v = absurd (let no = not_both n u v in cc)

  module _ (f : File) (n : ℕ) where
    abbrev d : Described DescriptorProto
    d = described pool f p

    abbrev is_its : FieldShape → Bool
    is_its s = n == s.number

    own_counted : count is_its (map field_shape (fields_of_message d)) ≡ count (has n) (fields_in p)
    own_counted =
        count_map is_its field_shape (fields_of_message d)
        ∙ count_map (λ (x : Described FieldDescriptorProto). n == number_or_zero x.part.item.number) (described pool f) (fields_in p)
        ∙ same_count is_bad (λ (x : Part FieldDescriptorProto). n == number_or_zero x.item.number) (has n) (λ x e. fit_number x.item.number n e) (fields_in p)
        (own_numbers pool pooled p there).fit

    extensions_counted : count is_its (map extension_shape (extensions_of_message d)) ≡ count (extends_so q n) (flat_map extensions pool)
    extensions_counted =
        let test : Described FieldDescriptorProto → Bool = λ x. n == number_or_zero x.part.item.number in
        let both : Part FieldDescriptorProto → Bool = λ x. extends_it q x && n == number_or_zero x.item.number in
        count_map is_its extension_shape (extensions_of_message d)
        ∙ count_filter test (λ (x : Described FieldDescriptorProto). extends_it q x.part) (all_extensions pool)
        ∙ sym (count_map both (λ (x : Described FieldDescriptorProto). x.part) (all_extensions pool)) ∙ ap (count both) (parts_back pool extensions pool)
        ∙ same_count is_bad both (extends_so q n) (λ x e. ap (λ (b : Bool). extends_it q x && b) (fit_number x.item.number n e)) (flat_map extensions pool)
        (pool_extensions_fit [] pool pooled)

    stands_once : count (λ m. n == m) (map (λ (s : FieldShape). s.number) (message_shape d).fields) ≤ 1
    stands_once =
        let all : count (λ m. n == m) (map (λ (s : FieldShape). s.number) (message_shape d).fields) ≡ count is_its (message_shape d).fields =
        count_map (λ m. n == m) (λ (s : FieldShape). s.number) (message_shape d).fields in
        let both : count is_its (message_shape d).fields
        ≡ count is_its (map field_shape (fields_of_message d)) + count is_its (map extension_shape (extensions_of_message d)) =
        count_append is_its (map field_shape (fields_of_message d)) (map extension_shape (extensions_of_message d)) in
        let own = own_counted in
        let others = extensions_counted in
        let one = once_in_all n in
        omega (arith, all, both, own, others, one)

pub numbers_are_distinct : NumbersAreDistinct
unfolding IsDistinct
numbers_are_distinct pool pooled t =
    each_type pool (λ fs. IsDistinct (λ m n. m == n) (map (λ (s : FieldShape). s.number) fs)) tt
    (λ f p c. distinct (map (λ (s : FieldShape). s.number) (message_shape (described pool f p)).fields) (stands_once pool pooled p c f)) t
