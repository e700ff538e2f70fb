-- What paths say of files: the name of a file, equal paths, a path below a folder, and a name in a folder.
use Rattle.std.specs.Prelude.{ℕ, ◌==◌, ◌++◌, ◌||◌, List, [], ◌∷◌, map, length, Bool, true, false, Option, Some, None, option_and_then, if◌then◌else◌}
use Rattle.std.specs.List.{list_all, list_any, join_with_byte}
use Rattle.std.specs.Io.BufRead.{ends_with_byte}
use Rattle.protox_io.specs.Paths.{Component, Root, Parent, Named, components, bare, component_eq, key_eq, is_rooted}

-- whether a component is an ordinary one (`std::path::Component::Normal` of Rust's documentation)
abbrev pub is_ordinary : Component → Bool
is_ordinary (Named name) = true
is_ordinary c = false

-- the bytes of an ordinary component; the others have none
abbrev pub name_bytes : Component → List ℕ
name_bytes (Named name) = name
name_bytes c = []

-- ordinary components, of which there is at least one, joined by `/`
abbrev pub joined_names : List Component → Option (List ℕ)
joined_names [] = None
joined_names (c ∷ cs) = if list_all is_ordinary (c ∷ cs) then Some (join_with_byte 47 (map name_bytes (c ∷ cs))) else None

-- The name of the file at a path (Protocol Buffers documentation, "Importing Definitions": the name that a file is imported
-- by is relative, and has `/` between its parts).
abbrev pub name_of : List ℕ → Option (List ℕ)
name_of path = joined_names (components path)

-- whether a component leads out of a folder: the root, or a `..`
abbrev pub leads_out : Component → Bool
leads_out Root = true
leads_out Parent = true
leads_out c = false

-- whether a name leaves the folder in which its file is looked up (Protocol Buffers documentation, "Importing Definitions": the name of an
-- import is relative to the folders that imports are looked up in)
abbrev pub escapes : List ℕ → Bool
escapes name = list_any leads_out (components name)

-- whether two paths have the same components, without `.` (as `==` of `std::path::Path` of Rust's documentation)
abbrev pub path_equal : List ℕ → List ℕ → Bool
path_equal left right = key_eq (bare left) (bare right)

-- what stands behind the components of a folder, if these stand first
abbrev pub behind_folder : List Component → List Component → Option (List Component)
behind_folder path [] = Some path
behind_folder [] (f ∷ fs) = None
behind_folder (c ∷ cs) (f ∷ fs) = if component_eq c f then behind_folder cs fs else None

-- the components of a path below a folder (as `std::path::Path::strip_prefix` of Rust's documentation)
abbrev pub stripped : List ℕ → List ℕ → Option (List Component)
stripped path folder = behind_folder (bare path) (bare folder)

-- a folder, ready for a name behind it
abbrev pub with_slash : List ℕ → List ℕ
with_slash folder = if length folder == 0 || ends_with_byte 47 folder then folder else folder ++ 47 ∷ []

-- the path of a name in a folder (as `std::path::Path::join` of Rust's documentation, on Unix)
abbrev pub joined : List ℕ → List ℕ → List ℕ
joined folder name = if is_rooted name then name else with_slash folder ++ name

-- the file name of what stands at a path below a folder
abbrev pub resolved : List ℕ → List ℕ → Option (List ℕ)
resolved folder path = option_and_then joined_names (stripped path folder)
