-- At most one extension of a pool extends a message under a number.
use Rattle.std.proofs.Common.{◌≡◌, ◌∙◌, ℕ, ℤ, pos, ◌+◌, ◌≤◌, ◌++◌, ◌∷◌, ◌&&◌, List, [], map, Bool, true, false, Option, Some, None, refl, ap, arith}
use Rattle.std.specs.List.{list_any, flat_map}
use Rattle.std.specs.Str.{bytes_eq}
use Rattle.std.proofs.lemmas.Grind.{flat_map-append}
use Rattle.std.proofs.lemmas.List.{append-nil, append_assoc}
use Rattle.std.proofs.lemmas.Slice.Eq.{bytes_eq-Decides}
use Rattle.pbx_desc_records.specs.declared.field.FieldDescriptorProto.{FieldDescriptorProto}
use Rattle.pbx_link_definitions.specs.Definitions.{Part, extensions}
use Rattle.pbx_link_definitions.specs.Names.{is_named}
use Rattle.pbx_link_definitions.specs.Says.{is_number}
use Rattle.pbx_link_scope.specs.Scope.{visible, bound_if}
use Rattle.pbx_link_scope.specs.Pooled.{extends, is_extended}
use Rattle.pbx_link_rules_scope.specs.Rules.{has_no_extendee}
use Rattle.pbx_link_rules_scope.specs.ExtensionNumbers.{message_name_of, is_taken, has_taken_number, like_extending, extending}
use Rattle.pbx_link_record.specs.Linked.{linked_record}
use Rattle.pbx_link_rules.specs.Breaches.{keeps_rules}
use Rattle.pbx_link_rules.specs.Pool.{IsLinked, ArePooled}
use Rattle.pbx_link_rules.proofs.Counted.{count, count_append, count_map}
use Rattle.pbx_link_rules.proofs.LinkedParts.{changed_in, extension_linked, extensions_of_linked}
use Rattle.pbx_link_meaning.proofs.PoolParts.{any_same}
use Rattle.pbx_link_meaning.proofs.DescribedLists.{File}
use Rattle.pbx_link_meaning.proofs.Extending.{none_taken, none_again, none_unbound, extends_it, extends_so, is_so, so_alike, so_like}
use Rattle.pbx_link_meaning.proofs.Lists.{any_weaker, same_count, none_counted, once}
use Rattle.pbx_link_meaning.proofs.Numbers.{number_is, equal_is_number}

module _ (q : List ℕ) (n : ℕ) where
  -- how many extensions of the files extend the message under the number
  abbrev pub extended : List File → ℕ
  extended files = count (extends_so q n) (flat_map extensions files)

  -- ---- a record that keeps the rules

  module _ (before : List File) (f : File) (kept : keeps_rules before f ≡ true) where
    abbrev seen : List File
    seen = visible before f

    abbrev is_bound_so : Part FieldDescriptorProto → Bool
    is_bound_so p = is_so q n (extending seen p)

    in_file : count (extends_so q n) (extensions (linked_record before f)) ≡ count is_bound_so (extensions f)
    in_file =
        ap (count (extends_so q n)) (extensions_of_linked seen f) ∙ count_map (extends_so q n) (changed_in (extension_linked seen)) (extensions f)
        ∙ same_count (λ (p : Part FieldDescriptorProto). has_no_extendee seen p.scope p.item)
        (λ (p : Part FieldDescriptorProto). extends_so q n (changed_in (extension_linked seen) p)) is_bound_so (so_alike q n seen) (extensions f)
        (none_unbound before f kept)

    file_once : count (extends_so q n) (extensions (linked_record before f)) ≤ 1
    file_once =
        let same = in_file in
        let told : count (is_so q n) (map (extending seen) (extensions f)) ≡ count is_bound_so (extensions f) =
        count_map (is_so q n) (extending seen) (extensions f) in
        let one : count (is_so q n) (map (extending seen) (extensions f)) ≤ 1 =
        once like_extending (is_so q n) (so_like q n) (map (extending seen) (extensions f)) (none_again before f kept) in
        omega (arith, same, told, one)

    -- where an earlier file has such an extension, this one has none
    module _ (earlier : list_any (extends_so q n) (flat_map extensions before) ≡ true) where
      is_there : is_extended before q (Some (pos n)) ≡ true
      is_there =
          any_same (λ (p : Part FieldDescriptorProto). extends q (Some (pos n)) p.item) (extends_so q n)
          (λ p. ap (λ (b : Bool). extends_it q p && b) (equal_is_number p.item.number n)) (flat_map extensions before) ∙ earlier

      untaken : (name : Option (List ℕ)) (z : Option ℤ) → is_taken before name z ≡ false → (is_named name q && is_number z n) ≡ false
      untaken None z h = refl
      untaken (Some name) z h = by_tests (bytes_eq name q) (is_number z n) refl refl
        where
          by_tests : (a b : Bool) → bytes_eq name q ≡ a → is_number z n ≡ b → (a && b) ≡ false
          by_tests true true u v =
              let same : is_extended before name z ≡ is_extended before q (Some (pos n)) =
              ap (λ (m : List ℕ). is_extended before m z) ((bytes_eq-Decides name q).0 u) ∙ ap (λ (o : Option ℤ). is_extended before q o) (number_is z n v) in
              let taken : is_extended before name z ≡ true = same ∙ is_there in
              absurd (cc)
          by_tests true false u v = refl
          by_tests false b u v = refl

      file_none : count (extends_so q n) (extensions (linked_record before f)) ≡ 0
      file_none =
          in_file
          ∙ none_counted is_bound_so (extensions f)
          (any_weaker (λ (p : Part FieldDescriptorProto). has_taken_number before seen p.scope p.item) is_bound_so
          (λ p e. untaken (message_name_of (bound_if seen p.scope p.item.extendee)) p.item.number e) (extensions f) (none_taken before f kept))

  -- ---- a pool

  one_more : (before : List File) (f g : File) → IsLinked before f g → extended before ≤ 1 → extended (before ++ g ∷ []) ≤ 1
  one_more before f g is le =
      let both : extended (before ++ g ∷ []) ≡ extended before + count (extends_so q n) (extensions g) =
      ap (count (extends_so q n))
      (flat_map-append extensions before (g ∷ [])
      ∙ ap (λ (ps : List (Part FieldDescriptorProto)). flat_map extensions before ++ ps) (append-nil (extensions g)))
      ∙ count_append (extends_so q n) (flat_map extensions before) (extensions g) in
      let own : count (extends_so q n) (extensions g) ≡ count (extends_so q n) (extensions (linked_record before f)) =
      ap (λ (k : File). count (extends_so q n) (extensions k)) is.is in
      by_test (list_any (extends_so q n) (flat_map extensions before)) refl both own
    where
      by_test : (b : Bool) → list_any (extends_so q n) (flat_map extensions before) ≡ b
          → extended (before ++ g ∷ []) ≡ extended before + count (extends_so q n) (extensions g)
          → count (extends_so q n) (extensions g) ≡ count (extends_so q n) (extensions (linked_record before f))
          → extended (before ++ g ∷ []) ≤ 1
      by_test true w both own = let none = file_none before f is.keeps w in omega (arith, le, both, own, none)
      by_test false w both own =
          let none : extended before ≡ 0 = none_counted (extends_so q n) (flat_map extensions before) w in
          let one = file_once before f is.keeps in
          omega (arith, both, own, none, one)

  all_once : (before gs : List File) → ArePooled before gs → extended before ≤ 1 → extended (before ++ gs) ≤ 1
  unfolding ArePooled
  all_once before [] h le = let same : extended (before ++ []) ≡ extended before = ap extended (append-nil before) in omega (arith, same, le)
  all_once before (g ∷ gs) h le =
      let same : extended (before ++ g ∷ [] ++ gs) ≡ extended (before ++ g ∷ gs) = ap extended (append_assoc before (g ∷ []) gs) in
      let all = all_once (before ++ g ∷ []) gs h.1 (one_more before h.0.0 g h.0.1 le) in
      omega (arith, same, all)

  pub extended_once : (pool : List File) → ArePooled [] pool → extended pool ≤ 1
  extended_once pool pooled = all_once [] pool pooled (omega arith)
