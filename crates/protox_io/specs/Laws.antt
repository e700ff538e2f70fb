-- What holds of names, paths and folders.
use Rattle.std.specs.Prelude.{◌≡◌, ◌++◌, ℕ, List, Some}
use Rattle.protox_io.specs.Paths.{components, bare}
use Rattle.protox_io.specs.FileNames.{name_of, resolved}

-- The file name of a name that is the file name of some path is that name.
abbrev pub NamesNameThemselves : Type 0
NamesNameThemselves = (path name : List ℕ) → name_of path ≡ Some name → name_of name ≡ Some name

-- A path that a folder resolves has the folder's components followed by those of the name, without `.`.
abbrev pub ResolvedStandBelow : Type 0
ResolvedStandBelow = (folder path name : List ℕ) → resolved folder path ≡ Some name → bare path ≡ bare folder ++ components name
