-- Paths as lists of components, and the key that a disk files a path under.
use Rattle.std.specs.Prelude.{ℕ, ◌==◌, List, [], ◌∷◌, ◌++◌, map, reverse, length, Bool, true, false, not, codes, if◌then◌else◌}
use Rattle.std.specs.List.{slice_split, filter, fold}
use Rattle.std.specs.Str.{bytes_eq}
use Rattle.std.specs.Cmp.Lexicographic.{pointwise}

-- a component of a path (`std::path::Component` of Rust's documentation, on Unix)
pub data Component : Type 0 where
  Root : Component
  Current : Component
  Parent : Component
  Named : List ℕ → Component

-- the parts between the slashes, without the empty ones (POSIX, "Pathname Resolution": slashes in a row are one slash)
abbrev pub parts : List ℕ → List (List ℕ)
parts path = filter (λ part. not (length part == 0)) (slice_split (λ b. b == 47) path)

-- whether it begins with a slash
abbrev pub is_rooted : List ℕ → Bool
is_rooted [] = false
is_rooted (b ∷ bs) = b == 47

-- the part `.`
abbrev pub is_dot : List ℕ → Bool
is_dot part = bytes_eq part (codes ".")

-- whether the first of the parts is `.`
abbrev pub is_first_dot : List (List ℕ) → Bool
is_first_dot [] = false
is_first_dot (part ∷ rest) = is_dot part

-- what stands before the other components: a root, or the dot of a path that begins with one
abbrev pub start : List ℕ → List Component
start path =
    if is_rooted path then Root ∷ [] else if is_first_dot (parts path) then Current ∷ [] else []

-- the component that a part other than `.` is
abbrev pub component : List ℕ → Component
component part = if bytes_eq part (codes "..") then Parent else Named part

-- the components of a path (`std::path::Path::components` of Rust's documentation, on Unix)
abbrev pub components : List ℕ → List Component
components path = start path ++ map component (filter (λ part. not (is_dot part)) (parts path))

-- the component of a leading dot
abbrev pub is_current : Component → Bool
is_current Current = true
is_current c = false

-- the components without a leading dot
abbrev pub bare : List ℕ → List Component
bare path = filter (λ c. not (is_current c)) (components path)

-- The components, the last first, behind which stands a `..`: it takes away an ordinary one, and is dropped after the root
-- (POSIX, "Pathname Resolution": the parent of the root is the root).
abbrev pub upward : List Component → List Component
upward (Named name ∷ before) = before
upward (Root ∷ before) = Root ∷ before
upward before = Parent ∷ before

-- the components, the last first, behind which stands one more
abbrev pub behind : List Component → Component → List Component
behind before Parent = upward before
behind before c = c ∷ before

-- the key of a path: its components, with each `..` carried out
abbrev pub disk_key : List ℕ → List Component
disk_key path = reverse (fold behind [] (bare path))

-- whether two components are equal; names are compared by their bytes
abbrev pub component_eq : Component → Component → Bool
component_eq Root Root = true
component_eq Current Current = true
component_eq Parent Parent = true
component_eq (Named a) (Named b) = bytes_eq a b
component_eq a b = false

-- whether two keys are equal
abbrev pub key_eq : List Component → List Component → Bool
key_eq = pointwise component_eq
