-- The place of an import in its source (Protocol Buffers, descriptor.proto: SourceCodeInfo.Location).
use Rattle.std.specs.Prelude.{ℕ, ◌+◌, ◌==◌, ◌&&◌, ℤ, pos, List, [], ◌∷◌, Bool, false, if◌then◌else◌, Option, Some, None, option_and_then}
use Rattle.std.specs.Option.{option_or}
use Rattle.pbx_desc_records.specs.declared.source.Location.{Location}
use Rattle.protox_file_sources.specs.Told.{Entry}

-- the path is that of the import of this index: `dependency` is the field 3 of a file
abbrev pub is_import_path : ℕ → List ℤ → Bool
is_import_path index (pos field ∷ pos at ∷ []) = (field == 3) && (at == index)
is_import_path index path = false

-- the line and the column that a span begins at, from 1; only a span on one line has three numbers
abbrev pub place_of_span : List ℤ → Option (ℕ × ℕ)
place_of_span (pos line ∷ pos column ∷ pos end ∷ []) = Some (line + 1, column + 1)
place_of_span span = None

-- the place that a location gives the import of this index
abbrev pub place_of_location : ℕ → Location → Option (ℕ × ℕ)
place_of_location index location = if is_import_path index location.path then place_of_span location.span else None

-- the first place that one of the locations gives the import
abbrev pub first_place : ℕ → List Location → Option (ℕ × ℕ)
first_place index [] = None
first_place index (location ∷ locations) = option_or (place_of_location index location) (first_place index locations)

-- the place of the import of this index, which only a file with its source has
abbrev pub place_of_import : Entry → ℕ → Option (ℕ × ℕ)
place_of_import entry index = option_and_then (λ source. option_and_then (λ info. first_place index info.location) entry.file.source_code_info) entry.source
