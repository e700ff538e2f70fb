-- The key of a path, from its end: what a walk over the path has still to give.
use Rattle.std.specs.Prelude.{◌≡◌, ℕ, zero, suc, ◌+◌, ◌<◌, ◌≤◌, ◌⊎◌, ◌-◌, List, [], ◌∷◌, length, slice_index, Option, Some, None}
use Rattle.std.specs.List.{fold}
use Rattle.protox_io.specs.Paths as paths
use Rattle.protox_io.specs.Paths.{Component, behind, upward, bare}
use Rattle.protox_io.specs.declared.key.KeyPart.{KeyPart}
use Rattle.protox_io.specs.declared.key.KeyPart.TheVariants.{Root, Parent, Named}

-- the component that a part of the walk is
abbrev pub component_of : KeyPart → Component
component_of Root = paths.Root
component_of Parent = paths.Parent
component_of (Named name) = paths.Named name.now

-- that component, if there is one
abbrev pub components_of : Option KeyPart → List Component
components_of None = []
components_of (Some part) = component_of part ∷ []

-- the components, the last first, behind which stand that many `..`
abbrev pub under : ℕ → List Component → List Component
under zero before = before
under (suc n) before = under n (upward before)

-- the key of a path behind which stand that many `..`, the last component first
abbrev pub key_left : ℕ → List ℕ → List Component
key_left pending path = under pending (fold behind [] (bare path))

-- the last part of a path begins at that index: behind a slash or at 0, with no slash from there on
pub record IsPartStart (path : List ℕ) (at : ℕ) : Type 0 where
  pub within : at ≤ length path
  pub opened : (at ≡ 0) ⊎ (slice_index path (at - 1) ≡ 47)
  pub unbroken : (k : ℕ) → at ≤ k → k < length path → ¬ (slice_index path k ≡ 47)

-- the part of a `..` has two bytes
abbrev pub NamesParent : List ℕ → Option KeyPart → Type 0
NamesParent bytes (Some Parent) = length bytes ≡ 2
NamesParent bytes part = Unit {0}

-- a `..` took two bytes of the path, and any other part one at least
abbrev pub Shortens : List ℕ → List ℕ → Option KeyPart → Type 0
Shortens path front (Some Parent) = length front + 2 ≤ length path
Shortens path front part = length front < length path
