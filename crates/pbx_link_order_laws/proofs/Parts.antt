-- A record that keeps the rules behind some files keeps them behind others where it sees the same, and from each of which it is apart.
use Rattle.std.proofs.Common.{◌≡◌, ◌∙◌, ◌⊎◌, ℕ, ◌+◌, ◌&&◌, not, ℤ, pos, List, [], ◌∷◌, ◌++◌, map, Bool, true, false, Option, Some, None, refl, ap, sym}
use Rattle.std.proofs.Common.{subst, inl, inr, append_assoc}
use Rattle.std.specs.Prelude.{Contains, is_some, find}
use Rattle.std.specs.List.{list_any, list_all}
use Rattle.std.specs.Str.{bytes_eq}
use Rattle.std.proofs.lemmas.Bool.{false≢true}
use Rattle.std.proofs.lemmas.List.Elements.{Contains-append_left, Contains-append_right, Contains-append_cases}
use Rattle.std.proofs.lemmas.List.Folds.{list_any-append}
use Rattle.pbx_desc_records.specs.declared.field.FieldDescriptorProto.{FieldDescriptorProto}
use Rattle.pbx_desc_records.specs.declared.file.FileDescriptorProto.{FileDescriptorProto}
use Rattle.pbx_desc_records.specs.declared.message.DescriptorProto.{DescriptorProto}
use Rattle.pbx_link_definitions.specs.Names.{text_or_empty, is_named, among, dotted}
use Rattle.pbx_link_definitions.specs.Says.{are_equal}
use Rattle.pbx_link_definitions.specs.Definitions.{Place, Part, parts, Defined, at, full_name, name_place, message_name, definitions, extensions}
use Rattle.pbx_link_definitions.specs.Places.{places_where, place_if, repeated}
use Rattle.pbx_link_scope.specs.declared.types.Bound.{Bound}
use Rattle.pbx_link_scope.specs.declared.types.Bound.TheVariants.{Message as to_message, Enum as to_enum}
use Rattle.pbx_link_scope.specs.Scope.{visible, packages, bound_if, bound_name, type_named, is_scope_name}
use Rattle.pbx_link_scope.specs.Pooled.{has_file, file_types, like_named, all_packages, extends}
use Rattle.pbx_link_rules_field.specs.Rules.{bad_field_numbers}
use Rattle.pbx_link_rules_record.specs.EntryRules.{is_empty, bad_entries}
use Rattle.pbx_link_rules_scope.specs.Rules.{places_by}
use Rattle.pbx_link_rules_scope.specs.ExtensionNumbers.{message_name_of, is_taken, is_unfit, has_taken_number, extended_again, bad_extension_numbers}
use Rattle.pbx_link_record.specs.Settled.{settled_file}
use Rattle.pbx_link_record.specs.Linked.{exact_by, linked_record}
use Rattle.pbx_link_rules.specs.Rules.{file_twice, missing_files, bad_indexes, missing_imports, pool_names, taken_names, has_defined_package}
use Rattle.pbx_link_rules.specs.Rules.{definitions_twice, names_twice}
use Rattle.pbx_link_rules.specs.Breaches.{bad_numbers, all_breaches, keeps_rules}
use Rattle.pbx_link_rules.specs.Pool.{IsLinked, ArePooled}
use Rattle.pbx_link_rules.specs.PoolLaws.{AreBehind, defined_names}
use Rattle.pbx_link_rules.proofs.First.{rule_2, rule_3, rule_4, rule_6, rule_7, rule_8, rule_9, rule_10, rule_11, rule_12, rule_13, rule_14, rule_15, rule_16}
use Rattle.pbx_link_rules.proofs.RulesKept.{keeps_each}
use Rattle.pbx_link_rules.proofs.Lists.{neither, no_other, or_cases, here, left_nil, right_nil, any_mapped, parts_from}
use Rattle.pbx_link_rules.proofs.Kept.{has_name, imports_are_there, once, new}
use Rattle.pbx_link_rules.proofs.Behind.{linked_name_is_new, linked_imports_are_there}
use Rattle.pbx_link_rules.proofs.Distinct.{defines_same}
use Rattle.pbx_link_rules.proofs.LinkedParts.{changed_in, extension_linked, extensions_of_linked}
use Rattle.pbx_link_rules.proofs.Named.{same_name}
use Rattle.pbx_link_rules.proofs.Types.{any_of}
use Rattle.pbx_link_order_laws.specs.OrderLaws.{PartsLinkAlike}
use Rattle.pbx_link_order_laws.proofs.Searched.{both_so, so_and_not, passing, none_any, none_placed}
use Rattle.pbx_link_order_laws.proofs.Behind.{behind_joined, behind_front, one_name}
use Rattle.pbx_link_order_laws.proofs.Bound.{unbound_same, defaults_same, map_fields_same, unfit_same, taken_same, again_same, linked_same}
use Rattle.pbx_link_order_laws.proofs.Defined.{type_defined}
use Rattle.pbx_link_order_laws.proofs.Sight.{Agree, types_same, scopes_same}
use Rattle.pbx_link_order_laws.proofs.Apart.{AreApart, has_extension, name_pooled, package_pooled, extension_pooled, same_number, pooled_apart}

abbrev File : Type 0
File = FileDescriptorProto

-- ---- lists of places

abbrev Places : Type 0
Places = List Place

both : (a b : Places) (xs ys : List Places) → a ≡ b → xs ≡ ys → a ∷ xs ≡ b ∷ ys
both a b xs ys e f = cc

both_nil : (a b : Places) → a ≡ [] → b ≡ [] → a ++ b ≡ []
both_nil a b e f = ap (λ (ps : Places). ps ++ b) e ∙ f

-- each item of a list is held, so none of its parts is one that is not
none_lacks : (held : List ℕ → Bool) (scope : List ℕ) (place : Place) (n k : ℕ) (xs : List (List ℕ)) → list_all held xs ≡ true
    → list_any (λ (p : Part (List ℕ)). not (held p.item)) (parts_from scope place n k xs) ≡ false
none_lacks held scope place n k [] h = refl
none_lacks held scope place n k (x ∷ xs) h =
    let two = both_so (held x) (list_all held xs) h in
    no_other (not (held x)) (list_any (λ (p : Part (List ℕ)). not (held p.item)) (parts_from scope place n (k + 1) xs)) (ap not two.0)
    (none_lacks held scope place n (k + 1) xs two.1)

-- no place for each of the rules
abbrev none_each : List Places
none_each = [] ∷ [] ∷ [] ∷ [] ∷ [] ∷ [] ∷ [] ∷ [] ∷ [] ∷ [] ∷ [] ∷ [] ∷ [] ∷ [] ∷ [] ∷ [] ∷ []

module _ (files others : List File) (f : File) (kept : keeps_rules others f ≡ true)
    (types : (q : List ℕ) → type_named (visible files f) q ≡ type_named (visible others f) q)
    (scopes : (q : List ℕ) → is_scope_name (visible files f) q ≡ is_scope_name (visible others f) q)
    (new_name : has_file files (text_or_empty f.name) ≡ false) (there : list_all (has_file files) f.dependency ≡ true)
    (apart : (y : File) → Contains files y → AreApart (linked_record others f) y) where
  abbrev seen : List File
  seen = visible files f

  abbrev other : List File
  other = visible others f

  abbrev linked_file : File
  linked_file = linked_record others f

  link : IsLinked others f linked_file
  link = record { keeps = kept; is = refl }

  -- ---- the name of the file and its imports

  name_once : file_twice files f ≡ []
  name_once = ap (λ (b : Bool). place_if (b && is_some f.name) (pos 1 ∷ [])) new_name

  others_found : missing_imports others f ≡ []
  others_found = sym (rule_2 others other f) ∙ keeps_each others f kept 2

  imports_found : missing_imports files f ≡ []
  imports_found =
      both_nil (missing_files files f.dependency ++ bad_indexes f.dependency 10 f.public_dependency) (bad_indexes f.dependency 11 f.weak_dependency)
      (both_nil (missing_files files f.dependency) (bad_indexes f.dependency 10 f.public_dependency)
      (none_placed (λ (p : Part (List ℕ)). not (has_file files p.item)) (λ p. p.place) (parts [] [] 3 f.dependency)
      (none_lacks (has_file files) [] [] 3 0 f.dependency there))
      (right_nil (missing_files others f.dependency) (bad_indexes f.dependency 10 f.public_dependency)
      (left_nil _ (bad_indexes f.dependency 11 f.weak_dependency) others_found)))
      (right_nil (missing_files others f.dependency ++ bad_indexes f.dependency 10 f.public_dependency) _ others_found)

  -- ---- full names

  of_linked : (q : List ℕ) → among (defined_names f) q ≡ true → among (defined_names linked_file) q ≡ true
  of_linked q e = ap (λ (ds : List Defined). among (map full_name ds) q) (defines_same others f linked_file link) ∙ e

  -- a name that the file defines is none of those that are taken
  not_taken : (q : List ℕ) → among (defined_names f) q ≡ true → among (taken_names files f) q ≡ true → ⊥
  not_taken q d e =
      at
      (or_cases (among (pool_names files) q) (among (all_packages (f ∷ files)) q)
      (sym (list_any-append (λ other. bytes_eq other q) (pool_names files) (all_packages (f ∷ files))) ∙ e))
    where
      own_packages : among (packages f) q ≡ false
      own_packages =
          (neither (among (packages f) q) (among (all_packages others) q)
          (sym (list_any-append (λ other. bytes_eq other q) (packages f) (all_packages others)) ∙ (new others f kept).unpackaged q d)).0

      packaged : (among (packages f) q ≡ true) ⊎ (among (all_packages files) q ≡ true) → ⊥
      packaged (inl k) = so_and_not (among (packages f) q) k own_packages
      packaged (inr k) =
          let p = passing (λ (x : File). among (packages x) q) files (sym (package_pooled files q) ∙ k) in
          (apart p.0 p.1).package_second q (of_linked q d) p.2

      at : (among (pool_names files) q ≡ true) ⊎ (among (all_packages (f ∷ files)) q ≡ true) → ⊥
      at (inl k) =
          let p = passing (λ (x : File). among (defined_names x) q) files (sym (name_pooled files q) ∙ k) in
          (apart p.0 p.1).names q (of_linked q d) p.2
      at (inr k) =
          packaged
          (or_cases (among (packages f) q) (among (all_packages files) q)
          (sym (list_any-append (λ other. bytes_eq other q) (packages f) (all_packages files)) ∙ k))

  none_taken : list_any (λ (d : Defined). among (taken_names files f) (full_name d)) (definitions f) ≡ false
  none_taken =
      none_any (λ (d : Defined). among (taken_names files f) (full_name d)) (definitions f)
      (λ d c e. not_taken (full_name d)
      (any_mapped (λ (n : List ℕ). bytes_eq n (full_name d)) full_name (definitions f)
      ∙ any_of (λ (k : Defined). bytes_eq (full_name k) (full_name d)) (definitions f) d c (same_name (full_name d)))
      e)

  no_package : has_defined_package files f ≡ false
  no_package =
      none_any (among (pool_names files)) (packages f)
      (λ q c e. let p = passing (λ (x : File). among (defined_names x) q) files (sym (name_pooled files q) ∙ e) in
      (apart p.0 p.1).package_first q (any_of (λ (n : List ℕ). bytes_eq n q) (packages f) q c (same_name q)) p.2)

  names_once : names_twice files f ≡ []
  names_once =
      both_nil (place_if (has_defined_package files f) (pos 2 ∷ [])) (definitions_twice files f)
      (ap (λ (b : Bool). place_if b (pos 2 ∷ [])) no_package)
      (both_nil (places_where (λ (d : Defined). among (taken_names files f) (full_name d)) name_place (definitions f))
      (map name_place (repeated like_named [] (definitions f)))
      (none_placed (λ (d : Defined). among (taken_names files f) (full_name d)) name_place (definitions f) none_taken)
      (ap (map name_place) (once others f kept)))

  -- ---- numbers of extensions

  -- an extension that a file takes a number from is an extension of the linked record under the number
  own_extension : (p : Part FieldDescriptorProto) (m : Part DescriptorProto) → Contains (extensions f) p
      → bound_if other p.scope p.item.extendee ≡ Some (to_message m) → are_equal p.item.number p.item.number ≡ true
      → has_extension (message_name m) p.item.number linked_file ≡ true
  own_extension p m c w e =
      let test : Part FieldDescriptorProto → Bool = λ r. extends (message_name m) p.item.number r.item in
      ap (list_any test) (extensions_of_linked other f)
      ∙ any_mapped test (changed_in (extension_linked other)) (extensions f)
      ∙ any_of (λ (r : Part FieldDescriptorProto). test (changed_in (extension_linked other) r)) (extensions f) p c
      (ap (λ (b : Option Bound). is_named (exact_by p.item.extendee b) (dotted (message_name m)) && are_equal p.item.number p.item.number) w
      ∙ ap (λ (b : Bool). b && are_equal p.item.number p.item.number) (same_name (dotted (message_name m))) ∙ e)

  -- what has a number has the same
  has_number : (name : List ℕ) (number : Option ℤ) (y : File) → has_extension name number y ≡ true → are_equal number number ≡ true
  has_number name number y e =
      let r = passing (λ (p : Part FieldDescriptorProto). extends name number p.item) (extensions y) e in
      let two = both_so (is_named r.0.item.extendee (dotted name)) (are_equal r.0.item.number number) r.2 in
      ap (λ (z : Option ℤ). are_equal z number) (sym (same_number r.0.item.number number two.1)) ∙ two.1

  not_extended : (p : Part FieldDescriptorProto) → Contains (extensions f) p → (b : Option Bound) → bound_if other p.scope p.item.extendee ≡ b
      → is_taken files (message_name_of b) p.item.number ≡ true → ⊥
  not_extended p c None w e = false≢true e
  not_extended p c (Some (to_enum t)) w e = false≢true e
  not_extended p c (Some (to_message m)) w e =
      let y = passing (has_extension (message_name m) p.item.number) files (sym (extension_pooled files (message_name m) p.item.number) ∙ e) in
      (apart y.0 y.1).numbers (message_name m) p.item.number
      (own_extension p m c w (has_number (message_name m) p.item.number y.0 y.2)) y.2

  taken_none : places_by (has_taken_number files seen) 3 (extensions f) ≡ []
  taken_none =
      taken_same seen other types scopes files (extensions f)
      ∙ none_placed (λ (p : Part FieldDescriptorProto). has_taken_number files other p.scope p.item) (λ p. at p 3) (extensions f)
      (none_any (λ (p : Part FieldDescriptorProto). has_taken_number files other p.scope p.item) (extensions f)
      (λ p c e. not_extended p c (bound_if other p.scope p.item.extendee) refl e))

  others_good : bad_field_numbers f ++ bad_extension_numbers others other f ≡ []
  others_good = sym (rule_6 others other f) ∙ keeps_each others f kept 6

  extensions_good : bad_extension_numbers others other f ≡ []
  extensions_good = right_nil (bad_field_numbers f) (bad_extension_numbers others other f) others_good

  numbers_good : bad_numbers files seen f ≡ []
  numbers_good =
      both_nil (bad_field_numbers f) (bad_extension_numbers files seen f) (left_nil (bad_field_numbers f) _ others_good)
      (both_nil (places_by (is_unfit seen) 3 (extensions f) ++ places_by (has_taken_number files seen) 3 (extensions f)) (extended_again seen (extensions f))
      (both_nil (places_by (is_unfit seen) 3 (extensions f)) (places_by (has_taken_number files seen) 3 (extensions f))
      (unfit_same seen other types scopes (extensions f)
      ∙ left_nil _ (places_by (has_taken_number others other) 3 (extensions f)) (left_nil _ (extended_again other (extensions f)) extensions_good))
      taken_none)
      (again_same seen other types scopes (extensions f)
      ∙ right_nil (places_by (is_unfit other) 3 (extensions f) ++ places_by (has_taken_number others other) 3 (extensions f)) _ extensions_good))

  -- ---- all rules

  none_of : all_breaches files seen f ≡ none_each
  none_of =
      both _ _ _ _ name_once
      (both _ _ _ _ imports_found
      (both _ _ _ _ (sym (rule_3 others other f) ∙ keeps_each others f kept 3)
      (both _ _ _ _ (sym (rule_4 others other f) ∙ keeps_each others f kept 4)
      (both _ _ _ _ names_once
      (both _ _ _ _ numbers_good
      (both _ _ _ _ (unbound_same seen other types scopes f ∙ sym (rule_7 others other f) ∙ keeps_each others f kept 7)
      (both _ _ _ _ (sym (rule_8 others other f) ∙ keeps_each others f kept 8)
      (both _ _ _ _ (sym (rule_9 others other f) ∙ keeps_each others f kept 9)
      (both _ _ _ _ (sym (rule_10 others other f) ∙ keeps_each others f kept 10)
      (both _ _ _ _ (defaults_same seen other types scopes f ∙ sym (rule_11 others other f) ∙ keeps_each others f kept 11)
      (both _ _ _ _
      (ap (λ (ps : Places). bad_entries f ++ ps) (map_fields_same seen other types scopes f) ∙ sym (rule_12 others other f) ∙ keeps_each others f kept 12)
      (both _ _ _ _ (sym (rule_13 others other f) ∙ keeps_each others f kept 13)
      (both _ _ _ _ (sym (rule_14 others other f) ∙ keeps_each others f kept 14)
      (both _ _ _ _ (sym (rule_15 others other f) ∙ keeps_each others f kept 15)
      (both _ _ _ _ (sym (rule_16 others other f) ∙ keeps_each others f kept 16) refl)))))))))))))))

  keeps_too : keeps_rules files f ≡ true
  unfolding keeps_rules
  keeps_too = ap (list_all is_empty) none_of

  record_same : linked_record files f ≡ linked_record others f
  record_same = ap settled_file (linked_same seen other types scopes f)

-- ---- a part of a pool

pub pooled_behind : (before gs : List File) → ArePooled before gs → AreBehind before gs
unfolding ArePooled AreBehind
pooled_behind before [] h = tt
pooled_behind before (g ∷ gs) h =
    (linked_name_is_new before h.0.0 g h.0.1, linked_imports_are_there before h.0.0 g h.0.1, pooled_behind (before ++ g ∷ []) gs h.1)

alone : (files : List File) (f : File) → AreBehind files (f ∷ [])
    → (has_file files (text_or_empty f.name) ≡ false) × (list_all (has_file files) f.dependency ≡ true)
unfolding AreBehind
alone files f h = (h.0, h.1)

own_name : (o : Option (List ℕ)) → is_some o ≡ true → is_named o (text_or_empty o) ≡ true
own_name None e = absurd (false≢true e)
own_name (Some n) e = same_name n

module _ (start middle after some : List File) (f g : File) (behind : AreBehind [] start) (pooled : ArePooled start (middle ++ g ∷ after))
    (is : IsLinked (start ++ middle) f g) (follow : AreBehind start some) (among_all : (x : File) → Contains some x → Contains (middle ++ g ∷ after) x)
    (last : AreBehind (start ++ some) (f ∷ [])) where
  abbrev new_files : List File
  new_files = middle ++ g ∷ after

  abbrev files : List File
  files = start ++ some

  abbrev others : List File
  others = start ++ middle

  all_behind : AreBehind [] (start ++ new_files)
  all_behind = behind_joined [] start new_files behind (pooled_behind start new_files pooled)

  files_behind : AreBehind [] files
  files_behind = behind_joined [] start some behind follow

  others_behind : AreBehind [] others
  others_behind = behind_front [] others (g ∷ after) (subst (AreBehind []) (sym (append_assoc start middle (g ∷ after))) all_behind)

  of_files : (x : File) → Contains files x → Contains (start ++ new_files) x
  of_files x c = at (Contains-append_cases start some x c)
    where
      at : Contains start x ⊎ Contains some x → Contains (start ++ new_files) x
      at (inl k) = Contains-append_left start new_files x k
      at (inr k) = Contains-append_right start new_files x (among_all x k)

  of_others : (x : File) → Contains others x → Contains (start ++ new_files) x
  of_others x c = at (Contains-append_cases start middle x c)
    where
      at : Contains start x ⊎ Contains middle x → Contains (start ++ new_files) x
      at (inl k) = Contains-append_left start new_files x k
      at (inr k) = Contains-append_right start new_files x (Contains-append_left middle (g ∷ after) x k)

  agree : Agree files others
  agree x y n c d e e' = one_name [] (start ++ new_files) all_behind x y n (of_files x c) (of_others y d) e e'

  there : list_all (has_file files) f.dependency ≡ true
  there = (alone files f last).1

  there' : list_all (has_file others) f.dependency ≡ true
  there' = imports_are_there others f is.keeps

  one_of_type : (q : List ℕ) (x y : File) (a b : Bound) → Contains some x → Contains some y
      → find (λ (t : Bound). bytes_eq (bound_name t) q) (file_types x) ≡ Some a
      → find (λ (t : Bound). bytes_eq (bound_name t) q) (file_types y) ≡ Some b → x ≡ y
  one_of_type q x y a b c d e e' = at (pooled_apart start new_files pooled x y (among_all x c) (Contains-append_right start new_files y (among_all y d)))
    where
      at : (x ≡ y) ⊎ AreApart x y → x ≡ y
      at (inl same) = same
      at (inr apart) = absurd (apart.names q (type_defined q x a e) (type_defined q y b e'))

  -- the file is none of these
  other_file : (y : File) → Contains files y → g ≡ y → ⊥
  other_file y c same =
      so_and_not (has_file files (text_or_empty f.name))
      (any_of (λ (x : File). is_named x.name (text_or_empty f.name)) files y c
      (ap (λ (x : File). is_named x.name (text_or_empty f.name)) (sym same ∙ is.is) ∙ own_name f.name (has_name others f is.keeps)))
      (alone files f last).0

  apart_from : (y : File) → Contains files y → AreApart (linked_record others f) y
  apart_from y c =
      at (pooled_apart start new_files pooled g y (Contains-append_right middle (g ∷ after) g (here g after)) (of_files y c))
    where
      at : (g ≡ y) ⊎ AreApart g y → AreApart (linked_record others f) y
      at (inl same) = absurd (other_file y c same)
      at (inr apart) = subst (λ (x : File). AreApart x y) is.is apart

  types : (q : List ℕ) → type_named (visible files f) q ≡ type_named (visible others f) q
  types = types_same start some middle agree files_behind others_behind f there there' one_of_type

  scopes : (q : List ℕ) → is_scope_name (visible files f) q ≡ is_scope_name (visible others f) q
  scopes = scopes_same start some middle agree files_behind others_behind f there there'

  linked_alike : IsLinked files f g
  linked_alike = record {
    keeps = keeps_too files others f is.keeps types scopes (alone files f last).0 there apart_from;
    is = is.is ∙ sym (record_same files others f is.keeps types scopes (alone files f last).0 there apart_from);
  }

pub parts_link_alike : PartsLinkAlike
parts_link_alike = linked_alike
