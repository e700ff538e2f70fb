-- What the rules on names and imports say of a record that keeps them.
use Rattle.std.proofs.Common.{◌≡◌, ◌∙◌, ℕ, ◌+◌, ◌||◌, ◌&&◌, not, pos, List, [], ◌∷◌, ◌++◌, map, Bool, true, false, Option, Some, None, refl, ap, sym}
use Rattle.std.specs.Prelude.{is_some, is_none}
use Rattle.std.specs.List.{list_any, list_all, enumerate_from}
use Rattle.std.specs.Str.{bytes_eq}
use Rattle.std.proofs.lemmas.Bool.{false≢true}
use Rattle.std.proofs.lemmas.List.Folds.{list_any-append}
use Rattle.std.proofs.lemmas.Slice.Eq.{bytes_eq-Decides}
use Rattle.pbx_desc_records.specs.declared.file.FileDescriptorProto.{FileDescriptorProto}
use Rattle.pbx_link_definitions.specs.Names.{text_or_empty, among}
use Rattle.pbx_link_definitions.specs.Definitions.{Place, Part, parts, Defined, full_name, name_place, definitions}
use Rattle.pbx_link_definitions.specs.Places.{places_where, place_if, repeated}
use Rattle.pbx_link_scope.specs.Scope.{visible, packages}
use Rattle.pbx_link_scope.specs.Pooled.{has_file, like_named, all_packages, definition_with_file, scope_with_file}
use Rattle.pbx_link_rules_record.specs.FileRules.{bad_names}
use Rattle.pbx_link_rules.specs.Rules.{missing_files, pool_names, taken_names, has_defined_package, definitions_twice, names_twice}
use Rattle.pbx_link_rules.proofs.Looked.{definition_there}
use Rattle.pbx_link_rules.specs.Breaches.{keeps_rules}
use Rattle.pbx_link_rules.proofs.First.{rule_1, rule_2, rule_4, rule_5}
use Rattle.pbx_link_rules.proofs.RulesKept.{keeps_each}
use Rattle.pbx_link_rules.specs.PoolLaws.{defined_names, HasNewNames, NewNames}
use Rattle.pbx_link_rules.proofs.Lists.{neither, left_nil, right_nil, map_nil, no_place_if, none_where}

some_text : {X : Type 0} (o : Option X) → is_none o ≡ false → is_some o ≡ true
some_text None h = absurd (false≢true (sym h))
some_text (Some x) h = refl

not_both : (a b : Bool) → (a && b) ≡ false → b ≡ true → a ≡ false
not_both true b h e = absurd (false≢true (sym h ∙ e))
not_both false b h e = refl

-- a name of the list does not pass a test that none of the list passes
pub not_passing : (test : List ℕ → Bool) (names : List (List ℕ)) (q : List ℕ) → list_any test names ≡ false → among names q ≡ true → test q ≡ false
not_passing test [] q h e = absurd (false≢true e)
not_passing test (n ∷ ns) q h e = at (bytes_eq n q) refl e (neither (test n) (list_any test ns) h) (not_passing test ns q)
  where
    at : (b : Bool) → bytes_eq n q ≡ b → (b || among ns q) ≡ true → (test n ≡ false) × (list_any test ns ≡ false)
        → (list_any test ns ≡ false → among ns q ≡ true → test q ≡ false) → test q ≡ false
    at true w g none ih = ap test (sym ((bytes_eq-Decides n q).0 w)) ∙ none.0
    at false w g none ih = ih none.1 g

any_named : (test : List ℕ → Bool) (ds : List Defined) → list_any (λ (d : Defined). test (full_name d)) ds ≡ list_any test (map full_name ds)
any_named test [] = refl
any_named test (d ∷ ds) = ap (λ (b : Bool). test (full_name d) || b) (any_named test ds)

-- a list of parts each of whose items is held
all_held : {X : Type 0} (held : X → Bool) (scope : List ℕ) (place : Place) (n k : ℕ) (xs : List X)
    → list_any (λ (p : Part X). not (held p.item))
    (map (λ x. record { scope = scope; place = place ++ pos n ∷ pos x.0 ∷ []; index = x.0; item = x.1 }) (enumerate_from k xs)) ≡ false
    → list_all held xs ≡ true
all_held held scope place n k [] h = refl
all_held {X} held scope place n k (x ∷ xs) h = at (held x) (neither (not (held x)) _ h) (all_held held scope place n (k + 1) xs)
  where
    rest : List (Part X)
    rest = map (λ y. record { scope = scope; place = place ++ pos n ∷ pos y.0 ∷ []; index = y.0; item = y.1 }) (enumerate_from (k + 1) xs)

    at : (b : Bool) → (not b ≡ false) × (list_any (λ (p : Part X). not (held p.item)) rest ≡ false)
        → (list_any (λ (p : Part X). not (held p.item)) rest ≡ false → list_all held xs ≡ true) → (b && list_all held xs) ≡ true
    at true g ih = ih g.1
    at false g ih = absurd (false≢true (sym g.0))

module _ (files : List FileDescriptorProto) (f : FileDescriptorProto) (kept : keeps_rules files f ≡ true) where
  abbrev seen : List FileDescriptorProto
  seen = visible files f

  -- ---- the name of the file

  names_are_good : bad_names f ≡ []
  names_are_good = sym (rule_4 files seen f) ∙ keeps_each files f kept 4

  pub has_name : is_some f.name ≡ true
  has_name = some_text f.name (no_place_if (is_none f.name) (pos 1 ∷ []) (left_nil (place_if (is_none f.name) (pos 1 ∷ [])) _ (left_nil _ _ names_are_good)))

  pub name_is_new : has_file files (text_or_empty f.name) ≡ false
  name_is_new =
      not_both (has_file files (text_or_empty f.name)) (is_some f.name)
      (no_place_if (has_file files (text_or_empty f.name) && is_some f.name) (pos 1 ∷ []) (sym (rule_1 files seen f) ∙ keeps_each files f kept 1)) has_name

  -- ---- imports

  pub imports_are_there : list_all (has_file files) f.dependency ≡ true
  imports_are_there =
      all_held (has_file files) [] [] 3 0 f.dependency
      (none_where (λ (p : Part (List ℕ)). not (has_file files p.item)) (λ p. p.place) (parts [] [] 3 f.dependency)
      (left_nil (missing_files files f.dependency) _ (left_nil _ _ (sym (rule_2 files seen f) ∙ keeps_each files f kept 2))))

  -- ---- full names

  none_twice : names_twice files f ≡ []
  none_twice = sym (rule_5 files seen f) ∙ keeps_each files f kept 5

  no_definition_twice : definitions_twice files f ≡ []
  no_definition_twice = right_nil (place_if (has_defined_package files f) (pos 2 ∷ [])) (definitions_twice files f) none_twice

  abbrev taken : List ℕ → Bool
  taken = among (taken_names files f)

  none_taken : list_any taken (defined_names f) ≡ false
  none_taken =
      sym (any_named taken (definitions f))
      ∙ none_where (λ (d : Defined). taken (full_name d)) name_place (definitions f)
      (left_nil _ (map name_place (repeated like_named [] (definitions f))) no_definition_twice)

  pub once : repeated like_named [] (definitions f) ≡ []
  once =
      map_nil name_place (repeated like_named [] (definitions f))
      (right_nil (places_where (λ (d : Defined). taken (full_name d)) name_place (definitions f)) _ no_definition_twice)

  -- a name that the file defines is none of the pool's, and no package
  untaken : (q : List ℕ) → among (defined_names f) q ≡ true → (among (pool_names files) q ≡ false) × (among (all_packages (f ∷ files)) q ≡ false)
  untaken q e =
      neither (among (pool_names files) q) (among (all_packages (f ∷ files)) q)
      (sym (list_any-append (λ other. bytes_eq other q) (pool_names files) (all_packages (f ∷ files))) ∙ not_passing taken (defined_names f) q none_taken e)

  pub not_pooled : (q : List ℕ) → among (defined_names f) q ≡ true → among (pool_names files) q ≡ false
  not_pooled q e = (untaken q e).0

  unfound : (q : List ℕ) → among (pool_names files) q ≡ false → definition_with_file files q ≡ None
  unfound q e = at (definition_with_file files q) (definition_there files q ∙ e)
    where
      at : (o : Option (ℕ × Defined)) → is_some (scope_with_file o) ≡ false → o ≡ None
      at None h = refl
      at (Some d) h = absurd (false≢true (sym h))

  no_package : list_any (among (pool_names files)) (packages f) ≡ false
  no_package =
      no_place_if (has_defined_package files f) (pos 2 ∷ [])
      (left_nil (place_if (has_defined_package files f) (pos 2 ∷ [])) (definitions_twice files f) none_twice)

  pub new : HasNewNames files f
  new = record {
    named = has_name;
    name = name_is_new;
    once = once;
    new = λ q e. unfound q (not_pooled q e);
    unpackaged = λ q e. (untaken q e).1;
    undefined = λ q e. unfound q (not_passing (among (pool_names files)) (packages f) q no_package e);
  }

pub new_names : NewNames
new_names = new
