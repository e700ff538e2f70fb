-- Paths that are given again: what protoc's command line is given twice is compiled once.
use Rattle.std.specs.Prelude.{◌≡◌, ◌∷◌, ◌++◌, [], ℕ, suc, List, length, Bool, true, false, Option, Some, None}
use Rattle.std.specs.List.{list_any}
use Rattle.std.specs.Str.{bytes_eq}
use Rattle.protox_file_sources.specs.Library.{resolves_nothing}
use Rattle.protox_file_sources.specs.Told.{Lookup}
use Rattle.protox_compile_walk.specs.Walk.{Done}
use Rattle.protox_compile_walk.specs.Again.{AskFor}
use Rattle.protox_compile_walk.specs.Opening.{Accepted, closure, opening, report_of, root_of}
use Rattle.protox_compile_walk.specs.declared.root.Opened.{Opened}
use Rattle.protox_compile_walk.specs.declared.root.Opened.TheVariants.{Again}

-- ---- by the names of the paths

-- the name is the one that a path asks for
abbrev pub is_root : List ℕ → Option (List ℕ × Option (List ℕ)) → Bool
is_root name None = false
is_root name (Some root) = bytes_eq root.0 name

-- one of the paths asks for the name
abbrev pub is_asked : (List ℕ → Option (List ℕ)) → List (List ℕ) → List ℕ → Bool
is_asked resolves paths name = list_any (λ path. is_root name (root_of resolves path)) paths

-- one of the paths asks for the name that this one asks for
abbrev pub is_asked_by : (List ℕ → Option (List ℕ)) → List (List ℕ) → Option (List ℕ × Option (List ℕ)) → Bool
is_asked_by resolves paths None = false
is_asked_by resolves paths (Some root) = is_asked resolves paths root.0

-- the index of the next path, where this holds of it, before others
abbrev pub index_if : Bool → ℕ → List ℕ → List ℕ
index_if true i rest = i ∷ rest
index_if false i rest = rest

-- the indices of the later paths whose name is that of an earlier one, of these paths or of those before them
abbrev pub repeats_behind : (List ℕ → Option (List ℕ)) → List (List ℕ) → List (List ℕ) → List ℕ
repeats_behind resolves before [] = []
repeats_behind resolves before (path ∷ paths) =
    index_if (is_asked_by resolves before (root_of resolves path)) (length before) (repeats_behind resolves (before ++ path ∷ []) paths)

-- the indices of the paths whose name is that of an earlier path, in their order
abbrev pub repeats : (List ℕ → Option (List ℕ)) → List (List ℕ) → List ℕ
repeats resolves paths = repeats_behind resolves [] paths

-- ---- by their openings

abbrev pub is_again : Option Opened → Bool
is_again (Some Again) = true
is_again report = false

-- the indices, from this one on, of the paths whose report is Again, as they are opened one after another
abbrev pub opened_again : (List ℕ → Lookup) → (List ℕ → Option (List ℕ)) → ℕ → ℕ → List (List ℕ) → List Done → List ℕ
opened_again lookups resolves limit i [] done = []
opened_again lookups resolves limit i (path ∷ paths) done =
    index_if (is_again (report_of resolves path done)) i
    (opened_again lookups resolves limit (suc i) paths (opening lookups resolves limit path done).0)

-- Of paths that are accepted, those whose report is Again are those whose name is that of an earlier path.
abbrev pub RepeatsAreAgain : Type 0
RepeatsAreAgain =
    (lookups : List ℕ → Lookup) (resolves : List ℕ → Option (List ℕ)) (limit : ℕ) (paths : List (List ℕ)) (later : List Done)
    → closure lookups resolves limit paths [] ≡ (later, Accepted) → opened_again lookups resolves limit 0 paths [] ≡ repeats resolves paths

-- The names that paths ask for are given again where the paths are, by a resolver that knows no path.
abbrev pub NamesRepeatAsPaths : Type 0
NamesRepeatAsPaths =
    (resolves : List ℕ → Option (List ℕ)) (paths names : List (List ℕ)) → AskFor resolves paths names
    → repeats resolves_nothing names ≡ repeats resolves paths
