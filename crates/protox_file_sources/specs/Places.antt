-- Where a part of a record stands in its source (Protocol Buffers, descriptor.proto: SourceCodeInfo.Location, whose `path` names the part
-- and whose `span` has three or four numbers, from 0: line, column, the last line where it is another, and the last column).
use Rattle.std.specs.Prelude.{◌+◌, ◌∷◌, [], zero, suc, ℕ, ℤ, pos, List, length, take, if◌then◌else◌, Option, Some, None, option_and_then}
use Rattle.std.specs.Option.{option_or}
use Rattle.std.specs.Ordering.{int_eq}
use Rattle.std.specs.Cmp.Lexicographic.{pointwise}
use Rattle.pbx_desc_records.specs.declared.source.Location.{Location}
use Rattle.protox_file_sources.specs.Told.{Entry}

-- the line and the column that a span begins at, from 1
abbrev pub span_start : List ℤ → Option (ℕ × ℕ)
span_start (pos line ∷ pos column ∷ end ∷ rest) = Some (line + 1, column + 1)
span_start span = None

-- where the first location of exactly this path begins that tells where
abbrev pub first_start : List ℤ → List Location → Option (ℕ × ℕ)
first_start path [] = None
first_start path (location ∷ locations) =
    option_or (if pointwise int_eq location.path path then span_start location.span else None) (first_start path locations)

-- the same of the first numbers of a place, as many as there are told, and else of fewer of them
abbrev pub start_within : List Location → List ℤ → ℕ → Option (ℕ × ℕ)
start_within locations place zero = first_start [] locations
start_within locations place (suc n) = option_or (first_start (take (suc n) place) locations) (start_within locations place n)

-- the line and the column, from 1, of the part that a place names, or else of the smallest part around it that has a location
abbrev pub place_in_source : Entry → List ℤ → Option (ℕ × ℕ)
place_in_source entry place = option_and_then (λ info. start_within info.location place (length place)) entry.file.source_code_info
