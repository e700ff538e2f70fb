-- Two records of a pool define no name together, neither has a package that the other defines, and no extensions of both extend one message
-- under one number.
use Rattle.std.proofs.Common.{◌≡◌, ◌∙◌, ◌⊎◌, ℕ, zero, suc, ◌||◌, not, ℤ, List, [], ◌∷◌, ◌++◌, map, Bool, true, false, Option, Some, None, refl, ap, sym}
use Rattle.std.proofs.Common.{subst, inl, inr, append_assoc, arith}
use Rattle.std.specs.Prelude.{Contains, is_some}
use Rattle.std.specs.List.{list_any, flat_map}
use Rattle.std.specs.Str.{bytes_eq}
use Rattle.std.proofs.lemmas.Bool.{false≢true}
use Rattle.std.proofs.lemmas.List.{map-append}
use Rattle.std.proofs.lemmas.List.Elements.{Contains-append_left, Contains-append_cases, Contains-push}
use Rattle.std.proofs.lemmas.List.Folds.{list_any-append}
use Rattle.std.proofs.lemmas.Slice.Eq.{bytes_eq-Decides}
use Rattle.pbx_desc_records.specs.declared.field.FieldDescriptorProto.{FieldDescriptorProto}
use Rattle.pbx_desc_records.specs.declared.file.FileDescriptorProto.{FileDescriptorProto}
use Rattle.pbx_link_definitions.specs.Names.{among, dotted}
use Rattle.pbx_link_definitions.specs.Says.{are_equal}
use Rattle.pbx_link_definitions.specs.Definitions.{Part, Defined, at, full_name, message_name, definitions, extensions}
use Rattle.pbx_link_definitions.proofs.Seen.{decides}
use Rattle.pbx_link_scope.specs.declared.types.Bound.{Bound}
use Rattle.pbx_link_scope.specs.declared.types.Bound.TheVariants.{Message as to_message, Enum as to_enum}
use Rattle.pbx_link_scope.specs.Scope.{visible, packages, bound_if, is_message}
use Rattle.pbx_link_scope.specs.Pooled.{all_packages, extends, is_extended, scope_with_file}
use Rattle.pbx_link_rules_field.specs.Rules.{bad_field_numbers}
use Rattle.pbx_link_rules_scope.specs.Rules.{places_by, has_bad_type_name, has_no_extendee, unbound_in_fields, unbound_in_extensions, unbound_in_methods}
use Rattle.pbx_link_rules_scope.specs.ExtensionNumbers.{message_name_of, is_taken, is_unfit, has_taken_number, extended_again, bad_extension_numbers}
use Rattle.pbx_link_record.specs.Linked.{exact_by, linked_record}
use Rattle.pbx_link_rules.specs.Breaches.{keeps_rules}
use Rattle.pbx_link_rules.specs.Pool.{IsLinked, ArePooled}
use Rattle.pbx_link_rules.specs.PoolLaws.{defined_names, HasNewNames}
use Rattle.pbx_link_rules.specs.Rules.{pool_names}
use Rattle.pbx_link_rules.proofs.First.{rule_6, rule_7}
use Rattle.pbx_link_rules.proofs.RulesKept.{keeps_each}
use Rattle.pbx_link_rules.proofs.Lists.{neither, left_nil, right_nil, none_where}
use Rattle.pbx_link_rules.proofs.Looked.{definition_there}
use Rattle.pbx_link_rules.proofs.Kept.{not_pooled, new}
use Rattle.pbx_link_rules.proofs.Distinct.{defines_same}
use Rattle.pbx_link_rules.proofs.LinkedParts.{changed_in, extension_linked, extensions_of_linked}
use Rattle.pbx_link_rules.proofs.Types.{Source, source, any_of, not_at}
use Rattle.pbx_link_order_laws.proofs.Searched.{both_so, so_and_not, no_item, passing, any_told}

abbrev File : Type 0
File = FileDescriptorProto

-- a file has an extension of the message of this full name under this number
abbrev pub has_extension : List ℕ → Option ℤ → File → Bool
has_extension name number f = list_any (λ (p : Part FieldDescriptorProto). extends name number p.item) (extensions f)

pub record AreApart (x y : File) : Type 0 where
  pub names : (q : List ℕ) → among (defined_names x) q ≡ true → among (defined_names y) q ≡ true → ⊥
  pub package_first : (q : List ℕ) → among (packages x) q ≡ true → among (defined_names y) q ≡ true → ⊥
  pub package_second : (q : List ℕ) → among (defined_names x) q ≡ true → among (packages y) q ≡ true → ⊥
  pub numbers : (name : List ℕ) (number : Option ℤ) → has_extension name number x ≡ true → has_extension name number y ≡ true → ⊥

pub apart_turned : (x y : File) → AreApart x y → AreApart y x
apart_turned x y h = record {
  names = λ q d e. h.names q e d;
  package_first = λ q d e. h.package_second q e d;
  package_second = λ q d e. h.package_first q e d;
  numbers = λ name number d e. h.numbers name number e d;
}

-- ---- names of files

pub name_pooled : (files : List File) (q : List ℕ) → among (pool_names files) q ≡ list_any (λ (x : File). among (defined_names x) q) files
name_pooled [] q = refl
name_pooled (f ∷ fs) q =
    ap (λ (names : List (List ℕ)). among names q) (map-append full_name (definitions f) (flat_map definitions fs))
    ∙ list_any-append (λ other. bytes_eq other q) (map full_name (definitions f)) (map full_name (flat_map definitions fs))
    ∙ ap (λ (b : Bool). among (defined_names f) q || b) (name_pooled fs q)

pub package_pooled : (files : List File) (q : List ℕ) → among (all_packages files) q ≡ list_any (λ (x : File). among (packages x) q) files
package_pooled files q = any_told packages (λ other. bytes_eq other q) files

pub extension_pooled : (files : List File) (name : List ℕ) (number : Option ℤ) → is_extended files name number ≡ list_any (has_extension name number) files
extension_pooled files name number = any_told extensions (λ (p : Part FieldDescriptorProto). extends name number p.item) files

-- ---- numbers

pub same_number : (a b : Option ℤ) → are_equal a b ≡ true → a ≡ b
same_number None None e = refl
same_number None (Some y) e = absurd (false≢true e)
same_number (Some x) None e = absurd (false≢true e)
same_number (Some x) (Some y) e = ap (λ (z : ℤ). Some z) ((decides x y).0 e)

-- ---- a linked record and those before it

module _ (before : List File) (f : File) (kept : keeps_rules before f ≡ true) where
  abbrev seen : List File
  seen = visible before f

  unbound : unbound_in_extensions seen f ≡ []
  unbound =
      right_nil (unbound_in_fields seen f) (unbound_in_extensions seen f)
      (left_nil (unbound_in_fields seen f ++ unbound_in_extensions seen f) (unbound_in_methods seen f)
      (sym (rule_7 before seen f) ∙ keeps_each before f kept 7))

  -- the extendee of an extension is a message
  pub extendee_bound : (p : Part FieldDescriptorProto) → Contains (extensions f) p → has_no_extendee seen p.scope p.item ≡ false
  extendee_bound p c =
      let bad : Part FieldDescriptorProto → Bool = λ r. has_no_extendee seen r.scope r.item in
      not_at bad (extensions f) p
      (none_where bad (λ r. at r 2) (extensions f)
      (right_nil (places_by (has_bad_type_name seen) 6 (extensions f)) (places_by (has_no_extendee seen) 2 (extensions f)) unbound)) c

  numbers_good : bad_extension_numbers before seen f ≡ []
  numbers_good = right_nil (bad_field_numbers f) (bad_extension_numbers before seen f) (sym (rule_6 before seen f) ∙ keeps_each before f kept 6)

  unfit_or_taken : places_by (is_unfit seen) 3 (extensions f) ++ places_by (has_taken_number before seen) 3 (extensions f) ≡ []
  unfit_or_taken = left_nil _ (extended_again seen (extensions f)) numbers_good

  pub untaken : (p : Part FieldDescriptorProto) → Contains (extensions f) p → has_taken_number before seen p.scope p.item ≡ false
  untaken p c =
      let taken : Part FieldDescriptorProto → Bool = λ r. has_taken_number before seen r.scope r.item in
      not_at taken (extensions f) p
      (none_where taken (λ r. at r 3) (extensions f) (right_nil (places_by (is_unfit seen) 3 (extensions f)) _ unfit_or_taken)) c

  -- its linked record extends no message under a number under which one before it does
  number_free : (b : Option Bound) (x : FieldDescriptorProto) (name : List ℕ) (number : Option ℤ) → not (is_message b) ≡ false
      → is_taken before (message_name_of b) x.number ≡ false → extends name number (record x { extendee = exact_by x.extendee b }) ≡ true
      → is_extended before name number ≡ true → ⊥
  number_free None x name number message free e there = false≢true (sym message)
  number_free (Some (to_enum p)) x name number message free e there = false≢true (sym message)
  number_free (Some (to_message m)) x name number message free e there =
      let two = both_so (bytes_eq (dotted (message_name m)) (dotted name)) (are_equal x.number number) e in
      let dots : dotted (message_name m) ≡ dotted name = (bytes_eq-Decides (dotted (message_name m)) (dotted name)).0 two.0 in
      let one : message_name m ≡ name = cc in
      let same : x.number ≡ number = same_number x.number number two.1 in
      so_and_not (is_extended before name number) there
      (ap (λ (n : List ℕ). is_extended before n number) (sym one) ∙ ap (is_extended before (message_name m)) (sym same) ∙ free)

  not_extended : (name : List ℕ) (number : Option ℤ) → has_extension name number (linked_record before f) ≡ true → is_extended before name number ≡ true → ⊥
  not_extended name number e there =
      let p = passing (λ (r : Part FieldDescriptorProto). extends name number r.item) (extensions (linked_record before f)) e in
      of_source p.0 p.2
      (source (changed_in (extension_linked seen)) (extensions f) p.0
      (subst (λ (ps : List (Part FieldDescriptorProto)). Contains ps p.0) (extensions_of_linked seen f) p.1))
    where
      of_source : (r : Part FieldDescriptorProto) → extends name number r.item ≡ true → Source (changed_in (extension_linked seen)) (extensions f) r → ⊥
      of_source r w s =
          number_free (bound_if seen s.item.scope s.item.item.extendee) s.item.item name number (extendee_bound s.item s.within) (untaken s.item s.within)
          (ap (λ (t : Part FieldDescriptorProto). extends name number t.item) s.made ∙ w) there

  -- a name that a file before it defines is no package of it
  undefined : (q : List ℕ) → among (packages f) q ≡ true → among (pool_names before) q ≡ false
  undefined q e =
      sym (definition_there before q) ∙ ap (λ o. is_some (scope_with_file o)) (HasNewNames.undefined (new before f kept) q e)

pub linked_apart : (before : List File) (f g : File) → IsLinked before f g → (y : File) → Contains before y → AreApart g y
linked_apart before f g h y c = record {
  names = λ q d e. so_and_not (among (pool_names before) q) (pooled q e) (not_pooled before f h.keeps q (own q d));
  package_first = λ q d e. so_and_not (among (pool_names before) q) (pooled q e) (undefined before f h.keeps q (packaged q d));
  package_second = λ q d e.
      so_and_not (among (all_packages before) q) (package_pooled before q ∙ any_of (λ (x : File). among (packages x) q) before y c e)
      (neither (among (packages f) q) (among (all_packages before) q)
      (sym (list_any-append (λ other. bytes_eq other q) (packages f) (all_packages before)) ∙ (new before f h.keeps).unpackaged q (own q d))).1;
  numbers = λ name number d e.
      not_extended before f h.keeps name number (ap (has_extension name number) (sym h.is) ∙ d)
      (extension_pooled before name number ∙ any_of (has_extension name number) before y c e);
}
  where
    pooled : (q : List ℕ) → among (defined_names y) q ≡ true → among (pool_names before) q ≡ true
    pooled q e = name_pooled before q ∙ any_of (λ (x : File). among (defined_names x) q) before y c e

    own : (q : List ℕ) → among (defined_names g) q ≡ true → among (defined_names f) q ≡ true
    own q d = ap (λ (ds : List Defined). among (map full_name ds) q) (sym (defines_same before f g h)) ∙ d

    packaged : (q : List ℕ) → among (packages g) q ≡ true → among (packages f) q ≡ true
    packaged q d = ap (λ (x : File). among (packages x) q) (sym h.is) ∙ d

-- ---- records that are linked one after another

pub pooled_apart : (before gs : List File) → ArePooled before gs → (x y : File) → Contains gs x → Contains (before ++ gs) y → (x ≡ y) ⊎ AreApart x y
unfolding ArePooled
pooled_apart before [] h x y c d = absurd (no_item x c)
pooled_apart before (g ∷ gs) h x y (suc i, lt, same) d =
    pooled_apart (before ++ g ∷ []) gs h.1 x y (i, omega (arith, lt), same) (subst (λ (l : List File). Contains l y) (sym (append_assoc before (g ∷ []) gs)) d)
pooled_apart before (g ∷ gs) h x y (zero, lt, same) d =
    by (Contains-append_cases before (g ∷ gs) y d)
    (λ k. pooled_apart (before ++ g ∷ []) gs h.1 y g k (Contains-append_left (before ++ g ∷ []) gs g (Contains-push before g)))
  where
    turned : (y ≡ g) ⊎ AreApart y g → (g ≡ y) ⊎ AreApart g y
    turned (inl e) = inl (sym e)
    turned (inr a) = inr (apart_turned y g a)

    of_first : (g ≡ y) ⊎ AreApart g y → (x ≡ y) ⊎ AreApart x y
    of_first (inl e) = inl (sym same ∙ e)
    of_first (inr a) = inr (subst (λ (z : File). AreApart z y) same a)

    by : Contains before y ⊎ Contains (g ∷ gs) y → (Contains gs y → (y ≡ g) ⊎ AreApart y g) → (x ≡ y) ⊎ AreApart x y
    by (inl k) ih = of_first (inr (linked_apart before h.0.0 g h.0.1 y k))
    by (inr (zero, lt', same')) ih = of_first (inl same')
    by (inr (suc j, lt', same')) ih = of_first (turned (ih (j, omega (arith, lt'), same')))
