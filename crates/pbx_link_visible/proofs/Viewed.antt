-- What a file's view of a pool is made of, and what it answers.
use Rattle.std.proofs.Common.{◌≡◌, ◌∙◌, ℕ, List, [], ◌∷◌, ◌++◌, map, Bool, true, false, ◌||◌, ◌&&◌, if◌then◌else◌, Option, Some, None, refl, ap, sym, subst}
use Rattle.std.specs.Prelude.{slice_get, find, option_map, reverse}
use Rattle.std.specs.List.{list_any, flat_map}
use Rattle.std.specs.Option.{option_or}
use Rattle.std.specs.Str.{bytes_eq}
use Rattle.std.specs.Ordering.{nat_cmp}
use Rattle.std.specs.BTreeSet.{BTreeSet, contains}
use Rattle.std.proofs.lemmas.List.Folds.{find-append, list_any-append}
use Rattle.pbx_link_names.specs.Packages.{is_there}
use Rattle.pbx_link_names.specs.declared.package_names.PackageNames.{PackageNames}
use Rattle.pbx_desc_records.specs.declared.file.FileDescriptorProto.{FileDescriptorProto}
use Rattle.pbx_link_definitions.specs.Names.{among}
use Rattle.pbx_desc_records.specs.declared.enumeration.EnumDescriptorProto.{EnumDescriptorProto}
use Rattle.pbx_desc_records.specs.declared.message.DescriptorProto.{DescriptorProto}
use Rattle.pbx_link_definitions.specs.declared.definitions.Sort.{Sort}
use Rattle.pbx_link_definitions.specs.declared.definitions.Sort.TheVariants.{Message as a_message, Enum as an_enum}
use Rattle.pbx_link_definitions.specs.Definitions.{Part, full_name, is_scope, definitions, message_name, enum_name, messages, enums}
use Rattle.pbx_link_scope.specs.Pooled.{AreDistinct, file_types, type_with_file, definition_with_file, scope_with_file}
use Rattle.pbx_link_scope.specs.declared.types.Bound.{Bound}
use Rattle.pbx_link_scope.specs.declared.types.Bound.TheVariants.{Message as to_message, Enum as to_enum}
use Rattle.pbx_link_scope.specs.Scope.{visible, reached, packages, bound_name, type_named, is_scope_name}
use Rattle.pbx_link_visible.specs.Imports.{AreVisible}
use Rattle.pbx_link_visible.specs.Names.{first_index, own_place, own_type, type_at_place, is_among, if_seen, is_seen, packages_of, packages_at}
use Rattle.pbx_link_visible.specs.Look.{SeesFiles}
use Rattle.pbx_link_visible.proofs.Counted.{is_called, defined_once, typed_once}
use Rattle.pbx_link_visible.proofs.Seen.{seen_found, seen_any}
use Rattle.pbx_link_visible.proofs.Texts.{by_index, either_found}

-- the packages of the files at the indexes are those of the files that are seen
packages_seen : (files : List FileDescriptorProto) (indexes : List ℕ) (fs : List FileDescriptorProto) → map (slice_get files) indexes ≡ map Some fs → flat_map (packages_at files) indexes ≡ flat_map packages fs
packages_seen files [] [] e = refl
packages_seen files [] (g ∷ fs) e = absurd (cc)
packages_seen files (i ∷ indexes) [] e = absurd (cc)
packages_seen files (i ∷ indexes) (g ∷ fs) e =
    let here : slice_get files i ≡ Some g = cc in
    let others : map (slice_get files) indexes ≡ map Some fs = cc in
    ap (λ (o : Option FileDescriptorProto). packages_of o ++ flat_map (packages_at files) indexes) here ∙ ap (λ (ns : List (List ℕ)). packages g ++ ns) (packages_seen files indexes fs others)

pub sees : (files : List FileDescriptorProto) (f g : FileDescriptorProto) (found items again : List ℕ) (indexes : BTreeSet ℕ) (names : PackageNames)
    → AreDistinct files → g ≡ f → AreVisible files g found → items ≡ found → ((i : ℕ) → contains nat_cmp indexes i ≡ is_among items i) → again ≡ found
    → ((q : List ℕ) → is_there q names ≡ among (packages g ++ flat_map (packages_at files) again) q) → SeesFiles files f indexes names
sees files f g found items again indexes names distinct same visible first set second packaged =
    subst (λ (h : FileDescriptorProto). SeesFiles files h indexes names) same (
      distinct,
      (found, visible.0, λ i. set i ∙ ap (λ (is : List ℕ). is_among is i) first),
      λ q. packaged q ∙ ap (λ (ns : List (List ℕ)). among (packages g ++ ns) q)
          (ap (flat_map (packages_at files)) second ∙ packages_seen files found (reached g.dependency (reverse files)) visible.0),
    )

-- ---- what is answered

find_mapped : {X Y : Type 0} (test : Y → Bool) (f : X → Y) (xs : List X) → find test (map f xs) ≡ option_map f (find (λ x. test (f x)) xs)
find_mapped test f [] = refl
find_mapped {X} {Y} test f (x ∷ xs) = by_test (test (f x)) (find_mapped test f xs)
  where
    by_test : (b : Bool) → find test (map f xs) ≡ option_map f (find (λ y. test (f y)) xs) → (if b then Some (f x) else find test (map f xs)) ≡ option_map f (if b then Some x else find (λ y. test (f y)) xs)
    by_test true ih = refl
    by_test false ih = ih

seen_alike : {X : Type 0} (a b : ℕ → Bool) (o : Option (ℕ × X)) → ((i : ℕ) → a i ≡ b i) → if_seen b o ≡ if_seen a o
seen_alike a b None same = refl
seen_alike {X} a b (Some e) same = ap (λ (c : Bool). if c then Some e.1 else None) (sym (same e.0))

is_seen_alike : (a b : ℕ → Bool) (o : Option (ℕ × Bool)) → ((i : ℕ) → a i ≡ b i) → is_seen b o ≡ is_seen a o
is_seen_alike a b None same = refl
is_seen_alike a b (Some e) same = ap (λ (c : Bool). c && e.1) (sym (same e.0))

-- what stands at a place, if there is one
abbrev pub placed : FileDescriptorProto → Option (Sort × ℕ) → Option Bound
placed f None = None
placed f (Some p) = type_at_place f p.0 p.1

pub type_placed : (f : FileDescriptorProto) (name : List ℕ) (o : Option (Sort × ℕ)) → o ≡ own_place f name → placed f o ≡ own_type f name
type_placed f name o e =
    ap (placed f) e ∙ by_indexes (first_index is_message 0 (messages f)) (first_index is_enum 0 (enums f))
    ∙ sym (either_found to_message to_enum is_message is_enum (messages f) (enums f) (first_index is_message 0 (messages f)) (first_index is_enum 0 (enums f)) refl refl)
  where
    is_message : Part DescriptorProto → Bool
    is_message p = bytes_eq (message_name p) name

    is_enum : Part EnumDescriptorProto → Bool
    is_enum p = bytes_eq (enum_name p) name

    by_indexes : (m n : Option ℕ) → placed f (option_or (option_map (λ i. (a_message, i)) m) (option_map (λ i. (an_enum, i)) n)) ≡ by_index to_message to_enum (messages f) (enums f) m n
    by_indexes (Some i) n = refl
    by_indexes None (Some j) = refl
    by_indexes None None = refl

from_none : {X : Type 0} (a : Option X) → None ≡ a → (b : Option X) → b ≡ option_or a b
from_none None e None = refl
from_none None e (Some y) = refl
from_none (Some x) e b = absurd (cc)

module _ (files : List FileDescriptorProto) (f : FileDescriptorProto) (indexes : BTreeSet ℕ) (names : PackageNames) (s : SeesFiles files f indexes names) (name : List ℕ) where
  abbrev is_typed : Bound → Bool
  is_typed b = bytes_eq (bound_name b) name

  own_types : find is_typed (file_types f) ≡ own_type f name
  own_types =
      find-append is_typed (map to_message (messages f)) (map to_enum (enums f))
      ∙ ap (λ (o : Option Bound). option_or o (find is_typed (map to_enum (enums f)))) (find_mapped is_typed to_message (messages f))
      ∙ ap (option_or (option_map to_message (find (λ p. bytes_eq (message_name p) name) (messages f)))) (find_mapped is_typed to_enum (enums f))

  -- the type of a name is the file's own, a message first, or that of the pool, if its file is seen
  pub typed : type_named (visible files f) name
      ≡ option_or (own_type f name) (if_seen (contains nat_cmp indexes) (type_with_file files name))
  unfolding type_named
  typed =
      let fs = reached f.dependency (reverse files) in
      find-append is_typed (file_types f) (flat_map file_types fs)
      ∙ ap (λ (o : Option Bound). option_or o (find is_typed (flat_map file_types fs))) own_types
      ∙ ap (option_or (own_type f name))
      (seen_found file_types is_typed files (typed_once files s.0 name) s.1.0 fs s.1.1 ∙ seen_alike (contains nat_cmp indexes) (is_among s.1.0) (type_with_file files name) s.1.2)

  -- a name is that of a scope in the file itself, in a file of the pool that is seen, or of a package
  pub scoped : is_scope_name (visible files f) name
      ≡ ((list_any (λ d. is_scope d.sort && bytes_eq (full_name d) name) (definitions f) || is_seen (contains nat_cmp indexes) (scope_with_file (definition_with_file files name))) || is_there name names)
  unfolding is_scope_name
  scoped =
      let fs = reached f.dependency (reverse files) in
      let own = list_any (λ d. is_scope d.sort && bytes_eq (full_name d) name) (definitions f) in
      ap (λ (b : Bool). b || among (flat_map packages (f ∷ fs)) name)
      (list_any-append (λ d. is_scope d.sort && bytes_eq (full_name d) name) (definitions f) (flat_map definitions fs)
      ∙ ap (λ (b : Bool). own || b)
      (seen_any definitions (is_called name) files (defined_once files s.0 name) (λ d. is_scope d.sort) s.1.0 fs s.1.1
      ∙ is_seen_alike (contains nat_cmp indexes) (is_among s.1.0) (scope_with_file (definition_with_file files name)) s.1.2))
      ∙ ap (λ (b : Bool). (own || is_seen (contains nat_cmp indexes) (scope_with_file (definition_with_file files name))) || b) (sym (s.2 name))

  -- ---- answers, one after another

  pub own_answers : (b : Bound) → Some b ≡ own_type f name → Some b ≡ type_named (visible files f) name
  own_answers b own = ap (λ (o : Option Bound). option_or o (if_seen (contains nat_cmp indexes) (type_with_file files name))) own ∙ sym typed

  pub pool_answers : (r : Option Bound) → None ≡ own_type f name → r ≡ if_seen (contains nat_cmp indexes) (type_with_file files name) → r ≡ type_named (visible files f) name
  pool_answers r own is = is ∙ from_none (own_type f name) own (if_seen (contains nat_cmp indexes) (type_with_file files name)) ∙ sym typed

  abbrev own_scope : Bool
  own_scope = list_any (λ d. is_scope d.sort && bytes_eq (full_name d) name) (definitions f)

  abbrev seen_scope : Bool
  seen_scope = is_seen (contains nat_cmp indexes) (scope_with_file (definition_with_file files name))

  pub scope_answers : true ≡ own_scope → true ≡ is_scope_name (visible files f) name
  scope_answers own = ap (λ (b : Bool). (b || seen_scope) || is_there name names) own ∙ sym scoped

  pub pool_scope_answers : false ≡ own_scope → true ≡ seen_scope → true ≡ is_scope_name (visible files f) name
  pool_scope_answers own seen =
      ap (λ (b : Bool). b || is_there name names) seen ∙ ap (λ (b : Bool). (b || seen_scope) || is_there name names) own ∙ sym scoped

  pub package_answers : (r : Bool) → false ≡ own_scope → false ≡ seen_scope → r ≡ is_there name names → r ≡ is_scope_name (visible files f) name
  package_answers r own seen is =
      is ∙ ap (λ (b : Bool). b || is_there name names) seen ∙ ap (λ (b : Bool). (b || seen_scope) || is_there name names) own ∙ sym scoped
