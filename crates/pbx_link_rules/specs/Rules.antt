-- The rules of linking on a file among the files of a pool, each as the places of its record at which it is broken (Protocol Buffers
-- `descriptor.proto`: FileDescriptorProto; language guide: "Importing Definitions", "Packages and Name Resolution").
use Rattle.std.specs.Prelude.{ℕ, ◌&&◌, not, ℤ, pos, List, [], ◌∷◌, ◌++◌, map, Bool, is_some, is_none}
use Rattle.std.specs.List.{list_any, flat_map}
use Rattle.pbx_desc_records.specs.declared.file.FileDescriptorProto.{FileDescriptorProto}
use Rattle.pbx_link_definitions.specs.Definitions.{Place, Part, Defined, parts, full_name, name_place, definitions}
use Rattle.pbx_link_definitions.specs.Names.{text_or_empty, among}
use Rattle.pbx_link_definitions.specs.Places.{places_where, place_if, repeated}
use Rattle.pbx_link_scope.specs.Scope.{item_at, packages}
use Rattle.pbx_link_scope.specs.Pooled.{has_file, like_named, all_packages}

-- ---- the name of the file

-- the file has the name of one of the pool
abbrev pub file_twice : List FileDescriptorProto → FileDescriptorProto → List Place
file_twice files f = place_if (has_file files (text_or_empty f.name) && is_some f.name) (pos 1 ∷ [])

-- ---- imports

-- those of the names of dependencies (field 3) that no file of the pool has
abbrev pub missing_files : List FileDescriptorProto → List (List ℕ) → List Place
missing_files files names = places_where (λ (p : Part (List ℕ)). not (has_file files p.item)) (λ p. p.place) (parts [] [] 3 names)

-- those of the indexes, the field of this number, that are no indexes of a dependency
abbrev pub bad_indexes : List (List ℕ) → ℕ → List ℤ → List Place
bad_indexes names n xs = places_where (λ (p : Part ℤ). is_none (item_at names p.item)) (λ p. p.place) (parts [] [] n xs)

-- a dependency is no file of the pool; a public index (field 10) or a weak one (field 11) is no index of a dependency
abbrev pub missing_imports : List FileDescriptorProto → FileDescriptorProto → List Place
missing_imports files f =
    missing_files files f.dependency ++ bad_indexes f.dependency 10 f.public_dependency ++ bad_indexes f.dependency 11 f.weak_dependency

-- ---- full names

-- the full names that files define
abbrev pub pool_names : List FileDescriptorProto → List (List ℕ)
pool_names files = map full_name (flat_map definitions files)

-- the package or what it begins with is a full name that the pool defines
abbrev pub has_defined_package : List FileDescriptorProto → FileDescriptorProto → Bool
has_defined_package files f = list_any (among (pool_names files)) (packages f)

-- the full names that the pool defines, and the packages of the pool and of the file with what they begin with
abbrev pub taken_names : List FileDescriptorProto → FileDescriptorProto → List (List ℕ)
taken_names files f = pool_names files ++ all_packages (f ∷ files)

-- definitions of a taken name, and those named as earlier ones of the file
abbrev pub definitions_twice : List FileDescriptorProto → FileDescriptorProto → List Place
definitions_twice files f =
    places_where (λ (d : Defined). among (taken_names files f) (full_name d)) name_place (definitions f)
    ++ map name_place (repeated like_named [] (definitions f))

-- the package (field 2), and the names of definitions
abbrev pub names_twice : List FileDescriptorProto → FileDescriptorProto → List Place
names_twice files f = place_if (has_defined_package files f) (pos 2 ∷ []) ++ definitions_twice files f
