-- What look-ups in the files of a pool say of the names in them.
use Rattle.std.proofs.Common.{◌≡◌, ◌∙◌, ℕ, ◌+◌, ◌||◌, cond, List, [], ◌∷◌, map, Bool, true, false, Option, Some, None, refl, ap, sym}
use Rattle.std.specs.Prelude.{find, option_map, is_some}
use Rattle.std.specs.List.{list_any, flat_map, enumerate_from}
use Rattle.std.specs.Str.{bytes_eq}
use Rattle.std.proofs.lemmas.List.Folds.{list_any-append}
use Rattle.pbx_desc_records.specs.declared.file.FileDescriptorProto.{FileDescriptorProto}
use Rattle.pbx_link_definitions.specs.Names.{among, is_named}
use Rattle.pbx_link_definitions.specs.Definitions.{Defined, full_name, definitions, is_scope}
use Rattle.pbx_link_scope.specs.Pooled.{has_file, file_index, by_file, definition_with_file, scope_with_file}
use Rattle.pbx_link_rules.specs.Rules.{pool_names}

some_found : {X : Type 0} (p : X → Bool) (xs : List X) → is_some (find p xs) ≡ list_any p xs
some_found p [] = refl
some_found {X} p (x ∷ xs) = at (p x) (some_found p xs)
  where
    at : (b : Bool) → is_some (find p xs) ≡ list_any p xs → is_some (cond b (Some x) (find p xs)) ≡ (b || list_any p xs)
    at true h = refl
    at false h = h

some_mapped : {X Y : Type 0} (f : X → Y) (o : Option X) → is_some (option_map f o) ≡ is_some o
some_mapped f None = refl
some_mapped f (Some x) = refl

any_mapped : {X Y : Type 0} (p : Y → Bool) (f : X → Y) (xs : List X) → list_any p (map f xs) ≡ list_any (λ x. p (f x)) xs
any_mapped p f [] = refl
any_mapped p f (x ∷ xs) = ap (λ (b : Bool). p (f x) || b) (any_mapped p f xs)

-- ---- files

any_numbered : {X : Type 0} (p : X → Bool) (k : ℕ) (xs : List X) → list_any (λ (t : ℕ × X). p t.1) (enumerate_from k xs) ≡ list_any p xs
any_numbered p k [] = refl
any_numbered p k (x ∷ xs) = ap (λ (b : Bool). p x || b) (any_numbered p (k + 1) xs)

pub file_there : (files : List FileDescriptorProto) (name : List ℕ) → is_some (file_index files name) ≡ has_file files name
file_there files name =
    some_mapped (λ (x : ℕ × FileDescriptorProto). x.0) (find (λ (x : ℕ × FileDescriptorProto). is_named x.1.name name) (enumerate_from 0 files))
    ∙ some_found (λ (x : ℕ × FileDescriptorProto). is_named x.1.name name) (enumerate_from 0 files)
    ∙ any_numbered (λ (f : FileDescriptorProto). is_named f.name name) 0 files

-- ---- definitions

module _ {X : Type 0} (tell : FileDescriptorProto → List X) (p : X → Bool) where
  abbrev told_from : ℕ → List FileDescriptorProto → List (ℕ × X)
  told_from k files = flat_map (λ f. map (λ x. (f.0, x)) (tell f.1)) (enumerate_from k files)

  any_told : (k : ℕ) (files : List FileDescriptorProto) → list_any (λ (t : ℕ × X). p t.1) (told_from k files) ≡ list_any p (flat_map tell files)
  any_told k [] = refl
  any_told k (f ∷ fs) =
      list_any-append (λ (t : ℕ × X). p t.1) (map (λ (x : X). (k, x)) (tell f)) (told_from (k + 1) fs)
      ∙ ap (λ (b : Bool). b || list_any (λ (t : ℕ × X). p t.1) (told_from (k + 1) fs)) (any_mapped (λ (t : ℕ × X). p t.1) (λ (x : X). (k, x)) (tell f))
      ∙ ap (λ (b : Bool). list_any p (tell f) || b) (any_told (k + 1) fs) ∙ sym (list_any-append p (tell f) (flat_map tell fs))

pub definition_there : (files : List FileDescriptorProto) (name : List ℕ)
    → is_some (scope_with_file (definition_with_file files name)) ≡ among (pool_names files) name
definition_there files name =
    some_mapped (λ (d : ℕ × Defined). (d.0, is_scope d.1.sort)) (definition_with_file files name)
    ∙ some_found (λ (d : ℕ × Defined). bytes_eq (full_name d.1) name) (by_file definitions files)
    ∙ any_told definitions (λ (d : Defined). bytes_eq (full_name d) name) 0 files
    ∙ sym (any_mapped (λ (other : List ℕ). bytes_eq other name) full_name (flat_map definitions files))
