-- What a file's view of a pool is made of.
use Rattle.std.specs.Prelude.{◌≡◌, ℕ, List, ◌∷◌, map, reverse, ◌&&◌, Some, slice_get, string_bytes, String}
use Rattle.std.specs.List.{list_any, flat_map}
use Rattle.std.specs.Str.{bytes_eq}
use Rattle.std.specs.Ordering.{nat_cmp}
use Rattle.std.specs.BTreeMap.{BTreeMap, get_by_text}
use Rattle.std.specs.BTreeSet.{BTreeSet, contains}
use Rattle.pbx_link_names.specs.Packages.{is_there}
use Rattle.pbx_link_names.specs.declared.package_names.PackageNames.{PackageNames}
use Rattle.pbx_desc_records.specs.declared.file.FileDescriptorProto.{FileDescriptorProto}
use Rattle.pbx_link_definitions.specs.Names.{among}
use Rattle.pbx_link_definitions.specs.declared.definitions.Sort.{Sort}
use Rattle.pbx_link_definitions.specs.Definitions.{full_name, is_scope, definitions}
use Rattle.pbx_link_scope.specs.Pooled.{AreDistinct}
use Rattle.pbx_link_scope.specs.Scope.{reached, packages}
use Rattle.pbx_link_visible.specs.Names.{has_text, own_place, is_among}

-- the file's own messages and enums by their full names, and the names of its messages, enums and services
abbrev pub FindsOwnNames : {Y : Type 0} → FileDescriptorProto → BTreeMap (String Y) (Sort × ℕ) → BTreeSet (String Y) → Type 0
FindsOwnNames f places scopes =
    ((q : List ℕ) → get_by_text places q ≡ own_place f q)
    × ((q : List ℕ) → has_text string_bytes scopes q ≡ list_any (λ d. is_scope d.sort && bytes_eq (full_name d) q) (definitions f))

-- the indexes of the files that the file sees besides itself, and the packages of all that it sees
abbrev pub SeesFiles : List FileDescriptorProto → FileDescriptorProto → BTreeSet ℕ → PackageNames → Type 0
SeesFiles files f indexes names =
    AreDistinct files
    × ((is : List ℕ) × (map (slice_get files) is ≡ map Some (reached f.dependency (reverse files))) × ((i : ℕ) → contains nat_cmp indexes i ≡ is_among is i))
    × ((q : List ℕ) → is_there q names ≡ among (flat_map packages (f ∷ reached f.dependency (reverse files))) q)
