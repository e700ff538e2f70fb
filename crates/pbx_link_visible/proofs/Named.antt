-- The indexes of files by their names.
use Rattle.std.proofs.Common.{◌≡◌, ◌∙◌, ℕ, ℤ, suc, ◌+◌, ◌<◌, List, [], ◌∷◌, ◌++◌, length, take, get_or, Bool, true, false, ◌||◌, ◌&&◌, if◌then◌else◌, Option, Some, None, refl, ap, sym, subst, arith}
use Rattle.std.specs.Prelude.{◌==◌, slice_get, find, option_map}
use Rattle.std.specs.List.{enumerate_from, filter_map, cons_option}
use Rattle.std.specs.Option.{option_to_list}
use Rattle.std.specs.Ordering.{nat_cmp, is_eq}
use Rattle.std.specs.BTreeSet.{BTreeSet, contains, Updates}
use Rattle.std.proofs.lemmas.Bool.Decides.{nat_tests}
use Rattle.std.proofs.lemmas.List.{take_more}
use Rattle.std.proofs.lemmas.List.Folds.{list_any-append}
use Rattle.std.proofs.lemmas.List.Elements.{filter_map-append}
use Rattle.std.proofs.lemmas.Slice.Eq.{bytes_eq-Decides}
use Rattle.pbx_desc_records.specs.declared.file.FileDescriptorProto.{FileDescriptorProto}
use Rattle.pbx_link_definitions.specs.Names.{is_named, text_or_empty}
use Rattle.pbx_link_scope.specs.Pooled.{file_index, HaveOwnNames}
use Rattle.pbx_link_visible.specs.Imports.{is_below, is_named_file, is_file_at, HasAdded}

-- ---- indexes that are found

-- what is found among numbered items stands at its number
pub find_numbered : {X : Type 0} (test : ℕ × X → Bool) (k : ℕ) (xs : List X) (e : ℕ × X) → find test (enumerate_from k xs) ≡ Some e
    → (n : ℕ) × (e.0 ≡ k + n) × (slice_get xs n ≡ Some e.1) × (test e ≡ true)
find_numbered test k [] e h = absurd (cc)
find_numbered {X} test k (x ∷ xs) e h = by_test (test (k, x)) refl h (find_numbered test (k + 1) xs e)
  where
    by_test : (b : Bool) → test (k, x) ≡ b → (if b then Some (k, x) else find test (enumerate_from (k + 1) xs)) ≡ Some e
        → (find test (enumerate_from (k + 1) xs) ≡ Some e → (n : ℕ) × (e.0 ≡ (k + 1) + n) × (slice_get xs n ≡ Some e.1) × (test e ≡ true))
        → (n : ℕ) × (e.0 ≡ k + n) × (slice_get (x ∷ xs) n ≡ Some e.1) × (test e ≡ true)
    by_test true w g ih = first e (cc)
      where
        first : (d : ℕ × X) → (k, x) ≡ d → (n : ℕ) × (d.0 ≡ k + n) × (slice_get (x ∷ xs) n ≡ Some d.1) × (test d ≡ true)
        first d s = subst (λ (d : ℕ × X). (n : ℕ) × (d.0 ≡ k + n) × (slice_get (x ∷ xs) n ≡ Some d.1) × (test d ≡ true)) s (0, omega arith, refl, w)
    by_test false w g ih = let at = ih g in (suc at.0, omega (arith, at.1), at.2, at.3)

pub index_found : (files : List FileDescriptorProto) (name : List ℕ) (j : ℕ) → file_index files name ≡ Some j
    → (f : FileDescriptorProto) × (slice_get files j ≡ Some f) × (is_named f.name name ≡ true)
index_found files name j h = by_found (find (λ (x : ℕ × FileDescriptorProto). is_named x.1.name name) (enumerate_from 0 files)) refl h
  where
    by_found : (o : Option (ℕ × FileDescriptorProto)) → find (λ (x : ℕ × FileDescriptorProto). is_named x.1.name name) (enumerate_from 0 files) ≡ o → option_map (λ (x : ℕ × FileDescriptorProto). x.0) o ≡ Some j
        → (f : FileDescriptorProto) × (slice_get files j ≡ Some f) × (is_named f.name name ≡ true)
    by_found None w e = absurd (cc)
    by_found (Some d) w e =
        let at = find_numbered (λ (x : ℕ × FileDescriptorProto). is_named x.1.name name) 0 files d w in
        let same : d.0 ≡ j = cc in
        let here : at.0 ≡ j = omega (arith, at.1, same) in
        (d.1, subst (λ (n : ℕ). slice_get files n ≡ Some d.1) here at.2, at.3)

named_is : (n : Option (List ℕ)) (name : List ℕ) → is_named n name ≡ true → text_or_empty n ≡ name
named_is None name e = absurd (cc)
named_is (Some t) name e = (bytes_eq-Decides t name).0 e

-- the index is the one that was found
abbrev pub is_found : Option ℕ → ℕ → Bool
is_found None i = false
is_found (Some j) i = j == i

same_index : (i : ℕ) → (i == i) ≡ true
same_index i = grind (arith, nat_tests)

-- where each file has a name of its own, the file at an index has a name exactly where the name is found there
pub named_at : (files : List FileDescriptorProto) (name : List ℕ) → HaveOwnNames files → (i : ℕ) → is_file_at files (name ∷ []) i ≡ is_found (file_index files name) i
named_at files name own i = by_file (slice_get files i) (file_index files name) refl refl
  where
    found_there : (j : ℕ) → file_index files name ≡ Some j → (j == i) ≡ true → (f : FileDescriptorProto) × (slice_get files i ≡ Some f) × (is_named f.name name ≡ true)
    found_there j v e =
        let at = index_found files name j v in
        let same : j ≡ i = grind (arith, nat_tests, e) in
        (at.0, subst (λ (n : ℕ). slice_get files n ≡ Some at.0) same at.1, at.2)

    none_there : (j : ℕ) (b : Bool) → (j == i) ≡ b → slice_get files i ≡ None → file_index files name ≡ Some j → false ≡ b
    none_there j true e w v = absurd (let at = found_there j v e in let here : slice_get files i ≡ Some at.0 = at.1 in cc)
    none_there j false e w v = refl

    other_there : (f : FileDescriptorProto) (j : ℕ) (b : Bool) → (j == i) ≡ b → slice_get files i ≡ Some f → is_named f.name name ≡ false → file_index files name ≡ Some j → false ≡ b
    other_there f j true e w u v =
        absurd (let at = found_there j v e in let here : slice_get files i ≡ Some at.0 = at.1 in let there : is_named (at.0).name name ≡ true = at.2 in let same : f ≡ at.0 = cc in
        let twice : is_named f.name name ≡ true = subst (λ (h : FileDescriptorProto). is_named h.name name ≡ true) (sym same) there in cc)
    other_there f j false e w u v = refl

    by_name : (f : FileDescriptorProto) (p : Option ℕ) (b : Bool) → slice_get files i ≡ Some f → file_index files name ≡ p → is_named f.name name ≡ b → (b || false) ≡ is_found p i
    by_name f p true w v u =
        let here : Some i ≡ p = sym (own i f w) ∙ ap (file_index files) (named_is f.name name u) ∙ v in
        sym (ap (λ (q : Option ℕ). is_found q i) (sym here) ∙ same_index i)
    by_name f None false w v u = refl
    by_name f (Some j) false w v u = other_there f j (j == i) refl w u v

    by_file : (o : Option FileDescriptorProto) (p : Option ℕ) → slice_get files i ≡ o → file_index files name ≡ p → is_named_file (name ∷ []) o ≡ is_found p i
    by_file None None w v = refl
    by_file None (Some j) w v = none_there j (j == i) refl w v
    by_file (Some f) p w v = by_name f p (is_named f.name name) w v refl

-- ---- one file more

module _ (files : List FileDescriptorProto) (name : List ℕ) (limit : Option ℕ) (own : HaveOwnNames files) (old : BTreeSet ℕ) where
  none_below : (b c : Bool) → c ≡ ((b && false) || c)
  none_below true c = refl
  none_below false c = refl

  pub none_added : None ≡ file_index files name → HasAdded files limit (name ∷ []) old old
  none_added e i = rw (named_at files name own i, sym e) (none_below (is_below limit i) (contains nat_cmp old i))

  pub none_added_above : (j : ℕ) → Some j ≡ file_index files name → false ≡ is_below limit j → HasAdded files limit (name ∷ []) old old
  none_added_above j e above i = rw (named_at files name own i, sym e) (by_index (j == i) refl)
    where
      by_index : (b : Bool) → (j == i) ≡ b → contains nat_cmp old i ≡ ((is_below limit i && b) || contains nat_cmp old i)
      by_index true w =
          let same : j ≡ i = grind (arith, nat_tests, w) in
          let not_below : is_below limit i ≡ false = ap (is_below limit) (sym same) ∙ sym above in
          ap (λ (b : Bool). (b && true) || contains nat_cmp old i) (sym not_below)
      by_index false w = none_below (is_below limit i) (contains nat_cmp old i)

  pub one_added : (j : ℕ) (new : BTreeSet ℕ) → Some j ≡ file_index files name → true ≡ is_below limit j → Updates nat_cmp old new j true → HasAdded files limit (name ∷ []) old new
  one_added j new e below updates i = updates.0 i ∙ rw (named_at files name own i, sym e) (by_index (j == i) refl)
    where
      by_index : (b : Bool) → (j == i) ≡ b → (if is_eq (nat_cmp j i) then true else contains nat_cmp old i) ≡ ((is_below limit i && b) || contains nat_cmp old i)
      by_index true w =
          let same : j ≡ i = grind (arith, nat_tests, w) in
          let here : is_eq (nat_cmp j i) ≡ true = grind (arith, nat_tests, same) in
          let is : is_below limit i ≡ true = ap (is_below limit) (sym same) ∙ sym below in
          rw (here, is) refl
      by_index false w =
          let apart : is_eq (nat_cmp j i) ≡ false = grind (arith, nat_tests, w) in
          rw apart (none_below (is_below limit i) (contains nat_cmp old i))

-- ---- files one after another

pub file_of_append : (xs ys : List (List ℕ)) (o : Option FileDescriptorProto) → is_named_file (xs ++ ys) o ≡ (is_named_file xs o || is_named_file ys o)
file_of_append xs ys None = refl
file_of_append xs ys (Some f) = list_any-append (is_named f.name) xs ys

pub nothing_added : (files : List FileDescriptorProto) (limit : Option ℕ) (s : BTreeSet ℕ) → HasAdded files limit [] s s
nothing_added files limit s i = by_file (slice_get files i) (is_below limit i)
  where
    by_file : (o : Option FileDescriptorProto) (b : Bool) → contains nat_cmp s i ≡ ((b && is_named_file [] o) || contains nat_cmp s i)
    by_file None true = refl
    by_file None false = refl
    by_file (Some f) true = refl
    by_file (Some f) false = refl

pub both_added : (files : List FileDescriptorProto) (limit : Option ℕ) (xs ys : List (List ℕ)) (s t u : BTreeSet ℕ) → HasAdded files limit xs s t → HasAdded files limit ys t u → HasAdded files limit (xs ++ ys) s u
both_added files limit xs ys s t u before after i =
    after i ∙ ap (λ (b : Bool). (is_below limit i && is_file_at files ys i) || b) (before i)
    ∙ joined (is_below limit i) (is_file_at files xs i) (is_file_at files ys i) (contains nat_cmp s i)
    ∙ ap (λ (b : Bool). (is_below limit i && b) || contains nat_cmp s i) (sym (file_of_append xs ys (slice_get files i)))
  where
    joined : (b x y c : Bool) → ((b && y) || ((b && x) || c)) ≡ ((b && (x || y)) || c)
    joined true true true c = refl
    joined true true false c = refl
    joined true false true c = refl
    joined true false false c = refl
    joined false x y c = refl

pub names_more : (files : List FileDescriptorProto) (names : List (List ℕ)) (k : ℕ) (name : List ℕ) (s t u : BTreeSet ℕ) → k < length names → name ≡ get_or names k name
    → HasAdded files None (take k names) s t → HasAdded files None (name ∷ []) t u → HasAdded files None (take (k + 1) names) s u
names_more files names k name s t u lt is before after =
    subst (λ (xs : List (List ℕ)). HasAdded files None xs s u) (sym (take_more names k name lt ∙ ap (λ (n : List ℕ). take k names ++ n ∷ []) (sym is)))
    (both_added files None (take k names) (name ∷ []) s t u before after)

-- an import that is no file adds nothing
pub import_none : (files : List FileDescriptorProto) (limit : Option ℕ) (s : BTreeSet ℕ) (item : Option (List ℕ)) → None ≡ item → HasAdded files limit (option_to_list item) s s
import_none files limit s item e = subst (λ (o : Option (List ℕ)). HasAdded files limit (option_to_list o) s s) e (nothing_added files limit s)

pub imports_more : (files : List FileDescriptorProto) (limit : Option ℕ) (item : ℤ → Option (List ℕ)) (zs : List ℤ) (k : ℕ) (z : ℤ) (s t u : BTreeSet ℕ) → k < length zs → z ≡ get_or zs k z
    → HasAdded files limit (filter_map item (take k zs)) s t → HasAdded files limit (option_to_list (item z)) t u → HasAdded files limit (filter_map item (take (k + 1) zs)) s u
imports_more files limit item zs k z s t u lt is before after =
    subst (λ (xs : List (List ℕ)). HasAdded files limit xs s u) (sym more) (both_added files limit (filter_map item (take k zs)) (option_to_list (item z)) s t u before after)
  where
    alone : (o : Option (List ℕ)) → cons_option o [] ≡ option_to_list o
    alone None = refl
    alone (Some x) = refl

    more : filter_map item (take (k + 1) zs) ≡ filter_map item (take k zs) ++ option_to_list (item z)
    more =
        ap (filter_map item) (take_more zs k z lt ∙ ap (λ (y : ℤ). take k zs ++ y ∷ []) (sym is)) ∙ filter_map-append item (take k zs) (z ∷ [])
        ∙ ap (λ (ys : List (List ℕ)). filter_map item (take k zs) ++ ys) (alone (item z))
