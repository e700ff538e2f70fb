-- The files of a number as what a resolver tells.
use Rattle.std.specs.Prelude.{ℕ, List, [], ◌∷◌, true, None, if◌then◌else◌}
use Rattle.std.specs.Str.{bytes_eq}
use Rattle.protox_file_sources.specs.Library.{Library, never, resolves_nothing}
use Rattle.protox_file_sources.specs.Told.{Told, Absent, told_source}
use Rattle.protox_generate.specs.Sources.{files_to}

-- the first source under a name
abbrev pub first_source : List (List ℕ × List ℕ) → List ℕ → Told
first_source [] name = Absent
first_source (f ∷ fs) name = if bytes_eq f.0 name then told_source f.1 None else first_source fs name

-- sources under their names; none fails to open
abbrev pub sources : List (List ℕ × List ℕ) → Library
sources files = record { tells = true; files = first_source files; resolves = resolves_nothing; may_fail = never; disks = [] }

-- the files of a number
abbrev pub generated : ℕ → Library
generated number = sources (files_to number)
