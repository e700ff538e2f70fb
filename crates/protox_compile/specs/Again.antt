-- Opening the names of files over their own set.
use Rattle.std.specs.Prelude.{◌≡◌, [], ℕ, List, Option}
use Rattle.pbx_desc_encoding.specs.Content.{files_content}
use Rattle.pbx_desc_encoding.specs.Sets.{DecodesSet}
use Rattle.protox_file_sources.specs.Told.{Entry, Lookup, ByLookups}
use Rattle.protox_file.specs.Listed.{listed_files}
use Rattle.protox_file.specs.Sets.{AreFilesIn}
use Rattle.protox_compile_walk.specs.Walk.{Done, records}
use Rattle.protox_compile_walk.specs.Opening.{Accepted, closure}
use Rattle.protox_compile_walk.specs.Again.{AskFor, without_paths}

-- Where paths were opened from nothing, the names that they ask for open to the same files over the bytes of the set of these files: as many,
-- with the same records and marks in the same order, without the paths that they were read from.
abbrev pub SetOpensAgain : Type 0
SetOpensAgain =
    (lookups : List ℕ → Lookup) (resolves : List ℕ → Option (List ℕ)) (limit : ℕ) (paths names : List (List ℕ)) (done : List Done) (set : List ℕ)
    (entries : List Entry)
    → closure lookups resolves limit paths [] ≡ (done, Accepted) → AskFor resolves paths names
    → DecodesSet set (files_content (records done)) → AreFilesIn set entries
    → ByLookups (listed_files entries).files
    (λ others. closure others (listed_files entries).resolves limit names [] ≡ (without_paths done, Accepted))
