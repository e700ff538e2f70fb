-- The package of a file among those of a pool.
use Rattle.std.specs.Prelude.{◌≡◌, ◌<◌, ℕ, ◌||◌, List, Option, Some, None}
use Rattle.pbx_link_names.specs.Packages.{is_there, IsSound, IsMissing, IsWithout, AreAlikeBut}
use Rattle.pbx_link_names.specs.declared.package_names.PackageNames.{PackageNames}
use Rattle.pbx_link_names.specs.declared.package_names.Missing.{Missing}
use Rattle.pbx_link_definitions.specs.Names.{among, first_part}
use Rattle.pbx_link_scope.specs.Scope.{package_prefixes}

-- what is missing of the package, if there is one
abbrev pub IsMissingOf : PackageNames → Option (List ℕ) → Option Missing → Type 0
IsMissingOf names None missing = missing ≡ None
IsMissingOf names (Some name) missing = IsMissing names name missing

-- the names have what they had, and the package with what its name begins with
abbrev pub HasPackage : Option (List ℕ) → PackageNames → PackageNames → Type 0
HasPackage «package» old new = IsSound new × ((q : List ℕ) → is_there q new ≡ (among (package_prefixes «package») q || is_there q old))

-- nothing else is changed by adding what is missing
abbrev pub IsAlikeBut : Option Missing → PackageNames → PackageNames → Type 0
IsAlikeBut None old new = new ≡ old
IsAlikeBut (Some missing) old new = AreAlikeBut missing old new × (IsSound old → missing.node < old.count → IsSound new)

-- what was missing is taken out
abbrev pub IsForgotten : Option Missing → PackageNames → PackageNames → Type 0
IsForgotten None old new = new ≡ old
IsForgotten (Some missing) old new = IsWithout missing.node (first_part missing.parts.now) old new
