-- Look-ups of full names among the files that a file sees.
use Rattle.std.specs.Prelude.{◌≡◌, ℕ, ◌+◌, ◌==◌, List, [], ◌∷◌, Bool, false, ◌&&◌, ◌||◌, if◌then◌else◌, Option, Some, None, option_map, slice_get, find}
use Rattle.std.specs.List.{list_any}
use Rattle.std.specs.Option.{option_or}
use Rattle.std.specs.Str.{bytes_eq}
use Rattle.std.specs.Cmp.Lexicographic.{slice_cmp}
use Rattle.std.specs.Ordering.{nat_cmp}
use Rattle.std.specs.BTreeSet.{BTreeSet, contains_by}
use Rattle.pbx_link_names.specs.Packages.{is_there, IsSound}
use Rattle.pbx_link_names.specs.declared.package_names.PackageNames.{PackageNames}
use Rattle.pbx_link_definitions.specs.Names.{among}
use Rattle.pbx_desc_records.specs.declared.file.FileDescriptorProto.{FileDescriptorProto}
use Rattle.pbx_link_definitions.specs.Definitions.{message_name, enum_name, messages, enums}
use Rattle.pbx_link_definitions.specs.declared.definitions.Sort.{Sort}
use Rattle.pbx_link_definitions.specs.declared.definitions.Sort.TheVariants.{Message as a_message, Field as a_field, Oneof as a_oneof, Enum as an_enum}
use Rattle.pbx_link_definitions.specs.declared.definitions.Sort.TheVariants.{Value as a_value, Extension as an_extension, Service as a_service, Method as a_method}
use Rattle.pbx_link_scope.specs.declared.types.Bound.{Bound}
use Rattle.pbx_link_scope.specs.declared.types.Bound.TheVariants.{Message as to_message, Enum as to_enum}
use Rattle.pbx_link_scope.specs.Scope.{packages}

-- the set has a key of this text
abbrev pub has_text : {K : Type 0} → (K → List ℕ) → BTreeSet K → List ℕ → Bool
has_text text s name = contains_by (λ k. slice_cmp nat_cmp name (text k)) s

-- the set has what it had, and the names that pass the test
abbrev pub HasAddedNames : {K : Type 0} → (K → List ℕ) → (List ℕ → Bool) → BTreeSet K → BTreeSet K → Type 0
HasAddedNames text test old new = (name : List ℕ) → has_text text new name ≡ (test name || has_text text old name)

-- the names have what they had, and these packages; their nodes are those of names before and after
abbrev pub HasAddedPackages : List (List ℕ) → PackageNames → PackageNames → Type 0
HasAddedPackages names old new = IsSound old → ((q : List ℕ) → is_there q new ≡ (among names q || is_there q old)) × IsSound new

-- the index of the first item that passes the test, counted from this number
abbrev pub first_index : {X : Type 0} → (X → Bool) → ℕ → List X → Option ℕ
first_index test k [] = None
first_index test k (x ∷ xs) = if test x then Some k else first_index test (k + 1) xs

-- the sort and the index, among those of its kind, of the first message of a file of exactly this full name, or else of the first enum
abbrev pub own_place : FileDescriptorProto → List ℕ → Option (Sort × ℕ)
own_place f name =
    option_or (option_map (λ i. (a_message, i)) (first_index (λ p. bytes_eq (message_name p) name) 0 (messages f)))
    (option_map (λ i. (an_enum, i)) (first_index (λ p. bytes_eq (enum_name p) name) 0 (enums f)))

-- the message or the enum of a file at an index among those of its kind
abbrev pub type_at_place : FileDescriptorProto → Sort → ℕ → Option Bound
type_at_place f a_message i = option_map to_message (slice_get (messages f) i)
type_at_place f an_enum i = option_map to_enum (slice_get (enums f) i)
type_at_place f a_field i = None
type_at_place f a_oneof i = None
type_at_place f a_value i = None
type_at_place f an_extension i = None
type_at_place f a_service i = None
type_at_place f a_method i = None

-- the first message of a file of exactly this full name, or else the first enum
abbrev pub own_type : FileDescriptorProto → List ℕ → Option Bound
own_type f name =
    option_or (option_map to_message (find (λ p. bytes_eq (message_name p) name) (messages f)))
    (option_map to_enum (find (λ p. bytes_eq (enum_name p) name) (enums f)))

-- the packages of a file, if there is a file
abbrev pub packages_of : Option FileDescriptorProto → List (List ℕ)
packages_of None = []
packages_of (Some f) = packages f

-- the packages of the file at the index
abbrev pub packages_at : List FileDescriptorProto → ℕ → List (List ℕ)
packages_at files i = packages_of (slice_get files i)

-- the index is one of these
abbrev pub is_among : List ℕ → ℕ → Bool
is_among indexes i = list_any (λ j. i == j) indexes

-- what was found in a file of a pool, where this file is seen
abbrev pub if_seen : {X : Type 0} → (ℕ → Bool) → Option (ℕ × X) → Option X
if_seen seen None = None
if_seen seen (Some found) = if seen found.0 then Some found.1 else None

-- the answer that was found in a file of a pool is yes, and this file is seen
abbrev pub is_seen : (ℕ → Bool) → Option (ℕ × Bool) → Bool
is_seen seen None = false
is_seen seen (Some found) = seen found.0 && found.1
