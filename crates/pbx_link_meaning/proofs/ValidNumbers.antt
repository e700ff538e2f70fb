-- The numbers of fields and extensions in the shape of a pool are numbers that records may have.
use Rattle.std.proofs.Common.{◌≡◌, ◌∙◌, ℕ, zero, suc, List, [], ◌∷◌, ◌++◌, map, Bool, true, false, cond, not, ◌&&◌, refl, ap, sym}
use Rattle.std.specs.Prelude.{filter, nat_le, nat_lt, ℤ, pos, negsuc, Option, Some, None}
use Rattle.std.specs.List.{list_any, list_all, flat_map}
use Rattle.std.proofs.lemmas.List.Folds.{list_any-append, list_all-append}
use Rattle.pbx_wire.specs.Text.{is_record_number}
use Rattle.pbx_content.specs.Shape.{declared_at}
use Rattle.pbx_content.specs.declared.shape.FieldShape.{FieldShape}
use Rattle.pbx_content.specs.declared.shape.MessageShape.{MessageShape}
use Rattle.pbx_desc_records.specs.declared.field.FieldDescriptorProto.{FieldDescriptorProto}
use Rattle.pbx_desc_records.specs.declared.message.DescriptorProto.{DescriptorProto}
use Rattle.pbx_link_definitions.specs.Definitions.{Part, at, fields_in, messages, fields, extensions}
use Rattle.pbx_link_definitions.specs.Ranges.{all_ranges, in_ranges, is_field_number}
use Rattle.pbx_link_definitions.specs.Says.{number_or_zero}
use Rattle.pbx_link_scope.specs.Scope.{visible}
use Rattle.pbx_link_rules_field.specs.Rules.{is_bad_number, unfit_numbers, repeated_numbers, reserved_names, bad_numbers_in, bad_field_numbers}
use Rattle.pbx_link_rules_scope.specs.Rules.{places_by}
use Rattle.pbx_link_rules_scope.specs.ExtensionNumbers.{is_unfit, has_taken_number, extended_again, bad_extension_numbers}
use Rattle.pbx_link_record.specs.Linked.{linked_record}
use Rattle.pbx_link_rules.specs.Breaches.{keeps_rules, bad_numbers}
use Rattle.pbx_link_rules.proofs.First.{rule_6}
use Rattle.pbx_link_rules.proofs.RulesKept.{keeps_each}
use Rattle.pbx_link_rules.specs.Pool.{ArePooled}
use Rattle.pbx_link_rules.proofs.Lists.{neither, no_other, left_nil, right_nil, none_where, any_mapped}
use Rattle.pbx_link_rules.proofs.LinkedParts.{changed_in, field_linked, extension_linked, fields_of_linked, extensions_of_linked}
use Rattle.pbx_link_meaning.specs.Descriptors.{Described, described, all_extensions, fields_of_message, extensions_of_message}
use Rattle.pbx_link_meaning.specs.Shapes.{field_shape, extension_shape, message_shape}
use Rattle.pbx_link_meaning.specs.Laws.{NumbersAreValid}
use Rattle.pbx_link_meaning.proofs.DescribedLists.{File, parts_back}
use Rattle.pbx_link_meaning.proofs.Lists.{any_weaker, both_true}

-- no number of a field
abbrev pub is_bad : Part FieldDescriptorProto → Bool
is_bad p = not (is_field_number p.item.number)

-- ---- a record that keeps the rules

fit_in : (m : Part DescriptorProto) → bad_numbers_in m ≡ [] → list_any is_bad (fields_in m) ≡ false
fit_in m h =
    any_weaker (λ (p : Part FieldDescriptorProto). is_bad_number m.item p.item.number) is_bad
    (λ p e. (neither (not (is_field_number p.item.number)) (in_ranges (all_ranges m.item) p.item.number) e).0) (fields_in m)
    (none_where (λ (p : Part FieldDescriptorProto). is_bad_number m.item p.item.number) (λ p. at p 3) (fields_in m)
    (left_nil (unfit_numbers m) (repeated_numbers m) (left_nil (unfit_numbers m ++ repeated_numbers m) (reserved_names m) h)))

fit_in_all : (ms : List (Part DescriptorProto)) → flat_map bad_numbers_in ms ≡ [] → list_any is_bad (flat_map fields_in ms) ≡ false
fit_in_all [] h = refl
fit_in_all (m ∷ ms) h =
    list_any-append is_bad (fields_in m) (flat_map fields_in ms)
    ∙ no_other _ _ (fit_in m (left_nil (bad_numbers_in m) (flat_map bad_numbers_in ms) h)) (fit_in_all ms (right_nil (bad_numbers_in m) (flat_map bad_numbers_in ms) h))

module _ (before : List File) (f : File) (kept : keeps_rules before f ≡ true) where
  abbrev seen : List File
  seen = visible before f

  none_bad : bad_numbers before seen f ≡ []
  none_bad = sym (rule_6 before seen f) ∙ keeps_each before f kept 6

  fields_fit : list_any is_bad (fields f) ≡ false
  fields_fit = fit_in_all (messages f) (left_nil (bad_field_numbers f) (bad_extension_numbers before seen f) none_bad)

  extensions_fit : list_any is_bad (extensions f) ≡ false
  extensions_fit =
      any_weaker (λ (p : Part FieldDescriptorProto). is_unfit seen p.scope p.item) is_bad (λ p e. (neither (not (is_field_number p.item.number)) _ e).0) (extensions f)
      (none_where (λ (p : Part FieldDescriptorProto). is_unfit seen p.scope p.item) (λ p. at p 3) (extensions f)
      (left_nil (places_by (is_unfit seen) 3 (extensions f)) (places_by (has_taken_number before seen) 3 (extensions f))
      (left_nil _ (extended_again seen (extensions f)) (right_nil (bad_field_numbers f) (bad_extension_numbers before seen f) none_bad))))

  linked_fields_fit : list_any is_bad (fields (linked_record before f)) ≡ false
  linked_fields_fit =
      ap (list_any is_bad) (fields_of_linked seen f) ∙ any_mapped is_bad (changed_in (field_linked seen)) (fields f) ∙ fields_fit

  linked_extensions_fit : list_any is_bad (extensions (linked_record before f)) ≡ false
  linked_extensions_fit =
      ap (list_any is_bad) (extensions_of_linked seen f) ∙ any_mapped is_bad (changed_in (extension_linked seen)) (extensions f) ∙ extensions_fit

-- ---- a pool

pool_fields_fit : (before gs : List File) → ArePooled before gs → list_any is_bad (flat_map fields gs) ≡ false
unfolding ArePooled
pool_fields_fit before [] h = refl
pool_fields_fit before (g ∷ gs) h =
    list_any-append is_bad (fields g) (flat_map fields gs)
    ∙ no_other _ _ (ap (λ (k : File). list_any is_bad (fields k)) h.0.1.is ∙ linked_fields_fit before h.0.0 h.0.1.keeps) (pool_fields_fit (before ++ g ∷ []) gs h.1)

pub pool_extensions_fit : (before gs : List File) → ArePooled before gs → list_any is_bad (flat_map extensions gs) ≡ false
unfolding ArePooled
pool_extensions_fit before [] h = refl
pool_extensions_fit before (g ∷ gs) h =
    list_any-append is_bad (extensions g) (flat_map extensions gs)
    ∙ no_other _ _ (ap (λ (k : File). list_any is_bad (extensions k)) h.0.1.is ∙ linked_extensions_fit before h.0.0 h.0.1.keeps)
    (pool_extensions_fit (before ++ g ∷ []) gs h.1)

-- ---- its shape

record_number : (o : Option ℤ) → not (is_field_number o) ≡ false → is_record_number (number_or_zero o) ≡ true
record_number None h = absurd (cc)
record_number (Some (negsuc n)) h = absurd (cc)
record_number (Some (pos n)) h = at (nat_lt 0 n) (nat_lt n 536870912) (not (nat_le 19000 n && nat_le n 19999)) h
  where
    at : (a b c : Bool) → not (a && b && c) ≡ false → (a && b) ≡ true
    at true true c e = refl
    at true false c e = absurd (cc)
    at false b c e = absurd (cc)

abbrev is_good : FieldShape → Bool
is_good s = is_record_number s.number

module _ (pool : List File) where
  own_good : (f : File) (ps : List (Part FieldDescriptorProto)) → list_any is_bad ps ≡ false → list_all is_good (map field_shape (map (described pool f) ps)) ≡ true
  own_good f [] h = refl
  own_good f (p ∷ ps) h =
      let both = neither (is_bad p) (list_any is_bad ps) h in
      both_true (is_record_number (number_or_zero p.item.number)) _ (record_number p.item.number both.0) (own_good f ps both.1)

  extending_good : (test : Described FieldDescriptorProto → Bool) (xs : List (Described FieldDescriptorProto))
      → list_any (λ (x : Described FieldDescriptorProto). is_bad x.part) xs ≡ false → list_all is_good (map extension_shape (filter test xs)) ≡ true
  extending_good test [] h = refl
  extending_good test (x ∷ xs) h =
      let both = neither (is_bad x.part) (list_any (λ (y : Described FieldDescriptorProto). is_bad y.part) xs) h in
      at (test x) both.0 (extending_good test xs both.1)
    where
      at : (b : Bool) → is_bad x.part ≡ false → list_all is_good (map extension_shape (filter test xs)) ≡ true
          → list_all is_good (map extension_shape (cond b (x ∷ filter test xs) (filter test xs))) ≡ true
      at true fit ih = both_true (is_record_number (number_or_zero x.part.item.number)) _ (record_number x.part.item.number fit) ih
      at false fit ih = ih

  module _ (pooled : ArePooled [] pool) where
    extensions_good : list_any (λ (x : Described FieldDescriptorProto). is_bad x.part) (all_extensions pool) ≡ false
    extensions_good =
        sym (any_mapped is_bad (λ (x : Described FieldDescriptorProto). x.part) (all_extensions pool))
        ∙ ap (list_any is_bad) (parts_back pool extensions pool) ∙ pool_extensions_fit [] pool pooled

    message_good : (f : File) (p : Part DescriptorProto) → list_any is_bad (fields_in p) ≡ false → list_all is_good (message_shape (described pool f p)).fields ≡ true
    message_good f p h =
        list_all-append is_good (map field_shape (fields_of_message (described pool f p))) (map extension_shape (extensions_of_message (described pool f p)))
        ∙ both_true _ _ (own_good f (fields_in p) h) (extending_good _ (all_extensions pool) extensions_good)

    abbrev AreGood : List MessageShape → Type 0
    AreGood ms = (t : ℕ) → list_all is_good (declared_at ms t) ≡ true

    file_good : (f : File) (ps : List (Part DescriptorProto)) → list_any is_bad (flat_map fields_in ps) ≡ false → AreGood (map message_shape (map (described pool f) ps))
    file_good f [] h t = refl
    file_good f (p ∷ ps) h zero =
        message_good f p (neither _ (list_any is_bad (flat_map fields_in ps)) (sym (list_any-append is_bad (fields_in p) (flat_map fields_in ps)) ∙ h)).0
    file_good f (p ∷ ps) h (suc t) =
        file_good f ps (neither (list_any is_bad (fields_in p)) _ (sym (list_any-append is_bad (fields_in p) (flat_map fields_in ps)) ∙ h)).1 t

    mapped_both : (ds es : List (Described DescriptorProto)) → AreGood (map message_shape ds) → AreGood (map message_shape es) → AreGood (map message_shape (ds ++ es))
    mapped_both [] es h g t = g t
    mapped_both (d ∷ ds) es h g zero = h zero
    mapped_both (d ∷ ds) es h g (suc t) = mapped_both ds es (λ n. h (suc n)) g t

    files_good : (files : List File) → list_any is_bad (flat_map fields files) ≡ false
        → AreGood (map message_shape (flat_map (λ f. map (described pool f) (messages f)) files))
    files_good [] h t = refl
    files_good (f ∷ fs) h t =
        let both = neither (list_any is_bad (fields f)) (list_any is_bad (flat_map fields fs)) (sym (list_any-append is_bad (fields f) (flat_map fields fs)) ∙ h) in
        mapped_both (map (described pool f) (messages f)) (flat_map (λ g. map (described pool g) (messages g)) fs) (file_good f (messages f) both.0) (files_good fs both.1) t

pub numbers_are_valid : NumbersAreValid
numbers_are_valid pool pooled t = files_good pool pooled pool (pool_fields_fit [] pool pooled) t
