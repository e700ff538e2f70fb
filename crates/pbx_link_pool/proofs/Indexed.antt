-- What is found in the files of a pool with one file more.
use Rattle.std.proofs.Common.{◌≡◌, ◌∙◌, ℕ, ◌+◌, ℤ, pos, negsuc, Bool, true, false, cond, ◌&&◌, ◌||◌, List, [], ◌∷◌, ◌++◌, length, map, refl, ap, sym, subst, arith}
use Rattle.std.specs.Prelude.{◌==◌, find, Option, Some, None, option_map, if◌then◌else◌, int_le}
use Rattle.std.specs.List.{list_any, flat_map, enumerate_from}
use Rattle.std.specs.Option.{option_or}
use Rattle.std.specs.Ordering.{int_eq}
use Rattle.std.specs.Str.{bytes_eq}
use Rattle.std.proofs.lemmas.Bool.Decides.{nat_tests}
use Rattle.std.proofs.lemmas.Grind.{flat_map-append}
use Rattle.std.proofs.lemmas.List.Folds.{find-append, list_any-append}
use Rattle.pbx_link_names.specs.Names.{under, first_under}
use Rattle.pbx_link_names.specs.Numbers.{is_there, is_item, is_among}
use Rattle.pbx_link_names.specs.Packages as packaged
use Rattle.pbx_link_names.proofs.Values.{turned}
use Rattle.pbx_desc_records.specs.declared.field.FieldDescriptorProto.{FieldDescriptorProto}
use Rattle.pbx_desc_records.specs.declared.file.FileDescriptorProto.{FileDescriptorProto}
use Rattle.pbx_link_definitions.specs.Names.{among, is_named, dotted}
use Rattle.pbx_link_definitions.specs.Says.{are_equal}
use Rattle.pbx_link_definitions.specs.Definitions.{Part, full_name, is_scope, definitions, messages, enums, extensions, services, message_name, enum_name, field_name, service_name}
use Rattle.pbx_link_scope.specs.Scope.{packages}
use Rattle.pbx_link_scope.specs.Pooled.{file_index, by_file, definition_with_file, scope_with_file, all_packages, extends, is_extended}
use Rattle.pbx_link_pool.specs.Items.{file_items, definition_items, place_items, exact_item, behind_dot, extended_item}
use Rattle.pbx_link_pool.specs.Packages.{HasPackage}
use Rattle.pbx_link_pool.specs.Index.{HaveAddedPlaces, HasAddedAll, FindAllTheSame, FindTheSamePlaces, ArePlacesOf, IsIndexOf, GoesOnWith, GoesOn, all_items, all_places}
use Rattle.pbx_link_pool.specs.Places.{place_with_file}
use Rattle.pbx_link_pool.specs.declared.places.Places.{Places}
use Rattle.pbx_link_pool.specs.declared.index.Index.{Index}
use Rattle.pbx_link_pool.proofs.Numbered.{enumerate_push}

abbrev File : Type 0
File = FileDescriptorProto

-- ---- what is told of files

append_nil : {X : Type 0} (xs : List X) → xs ++ [] ≡ xs
append_nil [] = refl
append_nil {X} (x ∷ xs) = ap (λ (ys : List X). x ∷ ys) (append_nil xs)

files_push : (files : List File) (f : File) → enumerate_from 0 (files ++ f ∷ []) ≡ enumerate_from 0 files ++ (length files, f) ∷ []
files_push files f =
    let at : 0 + length files ≡ length files = omega arith in
    enumerate_push 0 files f ∙ ap (λ (n : ℕ). enumerate_from 0 files ++ (n, f) ∷ []) at

told_push : {X : Type 0} (tell : File → List X) (files : List File) (f : File) → flat_map tell (files ++ f ∷ []) ≡ flat_map tell files ++ tell f
told_push {X} tell files f = flat_map-append tell files (f ∷ []) ∙ ap (λ (xs : List X). flat_map tell files ++ xs) (append_nil (tell f))

by_file_push : {X : Type 0} (tell : File → List X) (files : List File) (f : File) → by_file tell (files ++ f ∷ []) ≡ by_file tell files ++ map (λ x. (length files, x)) (tell f)
by_file_push {X} tell files f =
    let g : ℕ × File → List (ℕ × X) = λ e. map (λ x. (e.0, x)) (tell e.1) in
    ap (flat_map g) (files_push files f) ∙ flat_map-append g (enumerate_from 0 files) ((length files, f) ∷ [])
    ∙ ap (λ (xs : List (ℕ × X)). by_file tell files ++ xs) (append_nil (map (λ x. (length files, x)) (tell f)))

map_or : {A B : Type 0} (g : A → B) (o p : Option A) → option_map g (option_or o p) ≡ option_or (option_map g o) (option_map g p)
map_or g None p = refl
map_or g (Some a) p = refl

-- the first of a file's own
own_first : {X V : Type 0} (name : X → List ℕ) (g : ℕ × X → V) (n : ℕ) (q : List ℕ) (xs : List X)
    → option_map g (find (λ x. bytes_eq (name x.1) q) (map (λ x. (n, x)) xs)) ≡ first_under q (map (λ x. (name x, g (n, x))) xs)
own_first name g n q [] = refl
own_first {X} {V} name g n q (x ∷ xs) = by_name (bytes_eq (name x) q) (own_first name g n q xs) ∙ ap (λ (b : Bool). cond b (Some (g (n, x))) (first_under q (map (λ y. (name y, g (n, y))) xs))) (turned (name x) q)
  where
    by_name : (b : Bool) → option_map g (find (λ y. bytes_eq (name y.1) q) (map (λ y. (n, y)) xs)) ≡ first_under q (map (λ y. (name y, g (n, y))) xs)
        → option_map g (cond b (Some (n, x)) (find (λ y. bytes_eq (name y.1) q) (map (λ y. (n, y)) xs))) ≡ cond b (Some (g (n, x))) (first_under q (map (λ y. (name y, g (n, y))) xs))
    by_name true ih = refl
    by_name false ih = ih

-- what is found first with one file more: what was found, or the first of this file's own
found_with : {X V : Type 0} (tell : File → List X) (name : X → List ℕ) (g : ℕ × X → V) (files : List File) (f : File) (q : List ℕ)
    → option_or (option_map g (find (λ x. bytes_eq (name x.1) q) (by_file tell files))) (first_under q (map (λ x. (name x, g (length files, x))) (tell f)))
    ≡ option_map g (find (λ x. bytes_eq (name x.1) q) (by_file tell (files ++ f ∷ [])))
found_with {X} {V} tell name g files f q =
    let test : ℕ × X → Bool = λ x. bytes_eq (name x.1) q in
    let own : List (ℕ × X) = map (λ x. (length files, x)) (tell f) in
    sym (ap (λ (xs : List (ℕ × X)). option_map g (find test xs)) (by_file_push tell files f) ∙ ap (option_map g) (find-append test (by_file tell files) own)
    ∙ map_or g (find test (by_file tell files)) (find test own) ∙ ap (option_or (option_map g (find test (by_file tell files)))) (own_first name g (length files) q (tell f)))

-- ---- the file's name

own_name_first : (n : ℕ) (f : File) (q name : List ℕ) (b : Bool) → option_map (λ (x : ℕ × File). x.0) (cond b (Some (n, f)) None) ≡ cond b (Some n) None
own_name_first n f q name true = refl
own_name_first n f q name false = refl

own_file : (n : ℕ) (f : File) (q : List ℕ) (o : Option (List ℕ)) → option_map (λ (x : ℕ × File). x.0) (cond (is_named o q) (Some (n, f)) None) ≡ first_under q (file_items n o)
own_file n f q None = refl
own_file n f q (Some name) = own_name_first n f q name (bytes_eq name q) ∙ ap (λ (b : Bool). cond b (Some n) None) (turned name q)

file_with : (files : List File) (f : File) (q : List ℕ) → option_or (file_index files q) (first_under q (file_items (length files) f.name)) ≡ file_index (files ++ f ∷ []) q
file_with files f q =
    let test : ℕ × File → Bool = λ x. is_named x.1.name q in
    let first : ℕ × File → ℕ = λ x. x.0 in
    sym (ap (λ (xs : List (ℕ × File)). option_map first (find test xs)) (files_push files f) ∙ ap (option_map first) (find-append test (enumerate_from 0 files) ((length files, f) ∷ []))
    ∙ map_or first (find test (enumerate_from 0 files)) (find test ((length files, f) ∷ [])) ∙ ap (option_or (file_index files q)) (own_file (length files) f q f.name))

-- ---- packages

or_swapped : (a b : Bool) → (a || b) ≡ (b || a)
or_swapped true true = refl
or_swapped true false = refl
or_swapped false true = refl
or_swapped false false = refl

package_with : (files : List File) (f : File) (q : List ℕ) (before now : Bool) → before ≡ among (all_packages files) q → now ≡ (among (packages f) q || before) → now ≡ among (all_packages (files ++ f ∷ [])) q
package_with files f q before now is added =
    let t : List ℕ → Bool = λ o. bytes_eq o q in
    added ∙ ap (λ (b : Bool). among (packages f) q || b) is ∙ or_swapped (among (packages f) q) (among (all_packages files) q)
    ∙ sym (ap (λ (names : List (List ℕ)). among names q) (told_push packages files f) ∙ list_any-append t (all_packages files) (packages f))

-- ---- extensions

or_false : (b : Bool) → (b || false) ≡ b
or_false true = refl
or_false false = refl

both_ways : (k z : ℤ) → (int_le k z && int_le z k) ≡ int_eq k z
both_ways (pos a) (pos b) = grind (arith, nat_tests)
both_ways (pos a) (negsuc b) = refl
both_ways (negsuc a) (pos b) = refl
both_ways (negsuc a) (negsuc b) = grind (arith, nat_tests)

one_extends : (name : List ℕ) (k : ℤ) (q : List ℕ) (z : ℤ) → (bytes_eq name (dotted q) && (int_le k z && int_le z k)) ≡ is_among q z (behind_dot name k)
one_extends [] k q z = refl
one_extends (b ∷ name) k q z = by_dot ((name, k) ∷ []) (b == 46) (ap (λ (c : Bool). bytes_eq name q && c) (both_ways k z) ∙ sym (or_false (bytes_eq name q && int_eq k z)))
  where
    by_dot : (items : List (List ℕ × ℤ)) (c : Bool) → (bytes_eq name q && (int_le k z && int_le z k)) ≡ is_among q z items
        → ((c && bytes_eq name q) && (int_le k z && int_le z k)) ≡ is_among q z (if c then items else [])
    by_dot items true h = h
    by_dot items false h = refl

and_false : (b : Bool) → (b && false) ≡ false
and_false true = refl
and_false false = refl

item_extends : (e : Option (List ℕ)) (k : Option ℤ) (q : List ℕ) (z : ℤ) → (is_named e (dotted q) && are_equal k (Some z)) ≡ is_among q z (exact_item e k)
item_extends None k q z = refl
item_extends (Some name) None q z = and_false (bytes_eq name (dotted q))
item_extends (Some name) (Some k) q z = one_extends name k q z

own_extended : (xs : List (Part FieldDescriptorProto)) (q : List ℕ) (z : ℤ) → is_among q z (flat_map extended_item xs) ≡ list_any (λ (p : Part FieldDescriptorProto). extends q (Some z) p.item) xs
own_extended [] q z = refl
own_extended (x ∷ xs) q z =
    list_any-append (is_item q z) (extended_item x) (flat_map extended_item xs)
    ∙ ap (λ (b : Bool). b || is_among q z (flat_map extended_item xs)) (sym (item_extends x.item.extendee x.item.number q z))
    ∙ ap (λ (b : Bool). extends q (Some z) x.item || b) (own_extended xs q z)

extended_with : (files : List File) (f : File) (q : List ℕ) (z : ℤ) (before now : Bool) → before ≡ is_extended files q (Some z) → now ≡ (before || is_among q z (flat_map extended_item (extensions f)))
    → now ≡ is_extended (files ++ f ∷ []) q (Some z)
extended_with files f q z before now is added =
    let t : Part FieldDescriptorProto → Bool = λ p. extends q (Some z) p.item in
    added ∙ ap (λ (b : Bool). b || is_among q z (flat_map extended_item (extensions f))) is ∙ ap (λ (b : Bool). is_extended files q (Some z) || b) (own_extended (extensions f) q z)
    ∙ sym (ap (list_any t) (told_push extensions files f) ∙ list_any-append t (flat_map extensions files) (extensions f))

-- ---- places

-- a file that is added at the end adds its parts
pub place_with : {X : Type 0} (tell : File → List X) (name : X → List ℕ) (files : List File) (f : File) (q : List ℕ)
    → place_with_file tell name (files ++ f ∷ []) q ≡ option_or (place_with_file tell name files q) (first_under q (place_items name (length files) (tell f)))
place_with {X} tell name files f q = sym (found_with (λ g. enumerate_from 0 (tell g)) (λ x. name x.1) (λ x. (x.0, x.1.0)) files f q)

added_place : {X : Type 0} (tell : File → List X) (name : X → List ℕ) (files : List File) (f : File) (q : List ℕ) (before now : Option (ℕ × ℕ)) → before ≡ place_with_file tell name files q
    → now ≡ option_or before (first_under q (place_items name (length files) (tell f))) → now ≡ place_with_file tell name (files ++ f ∷ []) q
added_place {X} tell name files f q before now is added =
    added ∙ ap (λ (o : Option (ℕ × ℕ)). option_or o (first_under q (place_items name (length files) (tell f)))) is ∙ sym (place_with tell name files f q)

places_with : (old new : Places) (files : List File) (f : File) → ArePlacesOf old files → HaveAddedPlaces (all_places (length files) f) old new → ArePlacesOf new (files ++ f ∷ [])
places_with old new files f h k = record {
  messages = λ q. added_place messages message_name files f q (under q old.messages) (under q new.messages) (h.messages q) (k.messages q);
  enums = λ q. added_place enums enum_name files f q (under q old.enums) (under q new.enums) (h.enums q) (k.enums q);
  extensions = λ q. added_place extensions field_name files f q (under q old.extensions) (under q new.extensions) (h.extensions q) (k.extensions q);
  services = λ q. added_place services service_name files f q (under q old.services) (under q new.services) (h.services q) (k.services q);
}

-- ---- the index

definition_with : (files : List File) (f : File) (q : List ℕ) (before now : Option (ℕ × Bool)) → before ≡ scope_with_file (definition_with_file files q)
    → now ≡ option_or before (first_under q (definition_items (length files) (definitions f))) → now ≡ scope_with_file (definition_with_file (files ++ f ∷ []) q)
definition_with files f q before now is added =
    added ∙ ap (λ (o : Option (ℕ × Bool)). option_or o (first_under q (definition_items (length files) (definitions f)))) is
    ∙ found_with definitions full_name (λ d. (d.0, is_scope d.1.sort)) files f q

-- the file's package is added
abbrev pub IsPackaged : File → Index → Index → Type 0
IsPackaged f old new = packaged.IsSound old.packages → HasPackage f.«package» old.packages new.packages

index_at : (old new : Index) (files : List File) (f : File) → IsIndexOf old files → HasAddedAll (all_items (length files) f) old new → HasPackage f.«package» old.packages new.packages → IsIndexOf new (files ++ f ∷ [])
index_at old new files f h k p = record {
  file_names = λ q. k.file_names q ∙ ap (λ (o : Option ℕ). option_or o (first_under q (file_items (length files) f.name))) (h.file_names q) ∙ file_with files f q;
  definitions = λ q. definition_with files f q (under q old.definitions) (under q new.definitions) (h.definitions q) (k.definitions q);
  sound = p.0;
  packages = λ q. package_with files f q (packaged.is_there q old.packages) (packaged.is_there q new.packages) (h.packages q) (p.1 q);
  extended = λ q z. extended_with files f q z (is_there q z old.extended) (is_there q z new.extended) (h.extended q z) (k.extended q z);
  places = places_with old.places new.places files f h.places k.places;
}

-- the index of files is that of these and the file that was added
pub index_with : (index : ℕ) (f : File) (old new : Index) → HasAddedAll (all_items index f) old new → IsPackaged f old new → GoesOnWith index f old new
index_with index f old new k p files h is = index_at old new files f h (subst (λ (n : ℕ). HasAddedAll (all_items n f) old new) is k) (p h.sound)

same_places : (old new : Places) (files : List File) → FindTheSamePlaces old new → ArePlacesOf old files → ArePlacesOf new files
same_places old new files k h = record {
  messages = λ q. k.messages q ∙ h.messages q;
  enums = λ q. k.enums q ∙ h.enums q;
  extensions = λ q. k.extensions q ∙ h.extensions q;
  services = λ q. k.services q ∙ h.services q;
}

-- what finds the same is the index of the same files
pub index_kept : (old new : Index) → FindAllTheSame old new → GoesOn old new
index_kept old new k files h = record {
  file_names = λ q. k.file_names q ∙ h.file_names q;
  definitions = λ q. k.definitions q ∙ h.definitions q;
  sound = (k.packages h.sound).0;
  packages = λ q. (k.packages h.sound).1 q ∙ h.packages q;
  extended = λ q z. k.extended q z ∙ h.extended q z;
  places = same_places old.places new.places files k.places h.places;
}
