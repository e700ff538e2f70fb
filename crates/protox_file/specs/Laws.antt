-- What holds of resolvers that are asked in turn, and of sets.
use Rattle.std.specs.Prelude.{◌≡◌, ◌++◌, [], ℕ, List, None}
use Rattle.std.specs.Option.{option_or}
use Rattle.protox_file_sources.specs.Library.{Library}
use Rattle.protox_file_sources.specs.Told.{Absent, Entry}
use Rattle.protox_file.specs.Chained.{or_told, first_told, first_resolved}
use Rattle.pbx_link.specs.Bytes.{DecodesFiles}
use Rattle.protox_file.specs.Sets.{AreFilesIn, records_of}

-- Two lists of members joined have what the first has, and else what the second has.
abbrev pub ChainsJoin : Type 0
ChainsJoin =
    (first second : List Library) (text : List ℕ)
    → (first_told (first ++ second) text ≡ or_told (first_told first text) (first_told second text))
    × (first_resolved (first ++ second) text ≡ option_or (first_resolved first text) (first_resolved second text))

-- No members have no file and resolve no path.
abbrev pub NoneHasNothing : Type 0
NoneHasNothing = (text : List ℕ) → (first_told [] text ≡ Absent) × (first_resolved [] text ≡ None)

-- The bytes of a set have one list of files, whenever they are read.
abbrev pub SetsReadOnce : Type 0
SetsReadOnce = (bytes : List ℕ) (some others : List Entry) → AreFilesIn bytes some → AreFilesIn bytes others → some ≡ others

-- These files' records are those that the whole set decodes to.
abbrev pub SetsDecode : Type 0
SetsDecode = (bytes : List ℕ) (entries : List Entry) → AreFilesIn bytes entries → DecodesFiles bytes (records_of entries)
