-- Which files of a set answer for their names.
use Rattle.std.specs.Prelude.{◌≡◌, ◌+◌, ℕ, List, [], ◌∷◌, Option, Some, None, option_and_then, slice_get, IfSome}
use Rattle.pbx_link_names.specs.declared.name_map.NameMap.{NameMap}
use Rattle.pbx_link_names.specs.Names.{under}
use Rattle.protox_file_sources.specs.Told.{Entry, Told, Absent, Recorded}
use Rattle.protox_file.specs.Listed.{declared_name, first_declared}

-- the names that the files declare, each with the index of its file, counted from n
abbrev pub indexed_from : ℕ → List Entry → List (List ℕ × ℕ)
indexed_from n [] = []
indexed_from n (entry ∷ entries) = (declared_name entry, n) ∷ indexed_from (n + 1) entries

-- a file, if there is one
abbrev pub told_entry : Option Entry → Told
told_entry None = Absent
told_entry (Some entry) = Recorded entry

-- the file of an index, if there is one
abbrev pub told_at : List Entry → Option ℕ → Told
told_at entries index = told_entry (option_and_then (slice_get entries) index)

-- where the indexes are known, they are those of the first file of each name
abbrev pub AreIndexesOf : List Entry → Option (NameMap ℕ) → Type 0
AreIndexesOf entries indexes = IfSome indexes (λ it. (name : List ℕ) → told_at entries (under name it) ≡ first_declared entries name)
