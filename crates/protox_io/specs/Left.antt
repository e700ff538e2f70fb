-- The components of a path from its begin: what a walk over the path has still to give.
use Rattle.std.specs.Prelude.{ℕ, ◌==◌, ◌++◌, List, [], ◌∷◌, map, length, Bool, Option, Some, None, not, if◌then◌else◌}
use Rattle.std.specs.List.{filter}
use Rattle.protox_io.specs.Paths as paths
use Rattle.protox_io.specs.Paths.{Component, parts, is_dot, component}
use Rattle.protox_io.specs.declared.components.Part.{Part}
use Rattle.protox_io.specs.declared.components.Part.TheVariants.{Root, Parent, Named}

-- the component that a part of the walk is
abbrev pub component_of : Part → Component
component_of Root = paths.Root
component_of Parent = paths.Parent
component_of (Named name) = paths.Named name.now

-- a part between slashes, unless it is empty
abbrev pub part_or_none : List ℕ → List (List ℕ)
part_or_none part = if length part == 0 then [] else part ∷ []

-- the components behind the root
abbrev pub body : List ℕ → List Component
body path = map component (filter (λ part. not (is_dot part)) (parts path))

-- the components that are still to come, without `.`
abbrev pub left : Bool → List ℕ → List Component
left rooted rest = (if rooted then paths.Root ∷ [] else []) ++ body rest

-- a name with one more part, behind a slash where it has some
abbrev pub with_part : List ℕ → List ℕ → List ℕ
with_part name part = if length name == 0 then part else name ++ 47 ∷ part

-- a name so far, which names a file unless it is empty
abbrev pub named_so_far : List ℕ → Option (List ℕ)
named_so_far name = if length name == 0 then None else Some name

-- the name that components give behind a name so far
abbrev pub named_from : List ℕ → List Component → Option (List ℕ)
named_from name [] = named_so_far name
named_from name (paths.Named part ∷ cs) = named_from (with_part name part) cs
named_from name (paths.Root ∷ cs) = None
named_from name (paths.Current ∷ cs) = None
named_from name (paths.Parent ∷ cs) = None
