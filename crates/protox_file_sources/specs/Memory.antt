-- What a resolver in memory holds.
use Rattle.std.specs.Prelude.{◌≡◌, ℕ, ◌==◌, List, [], map, Bool, true, false, ◌&&◌, Option, Some, None, Result, Err, codes}
use Rattle.std.specs.Prelude.{String, string_bytes, IfSome}
use Rattle.std.specs.BTreeMap.{BTreeMap}
use Rattle.std.specs.List.{list_any}
use Rattle.std.specs.Map.{lookup}
use Rattle.std.specs.Str.{bytes_eq}
use Rattle.protox_file_error.specs.declared.error.ErrorKind.{ErrorKind}
use Rattle.protox_file_error.specs.declared.error.ErrorKind.TheVariants.{Custom, NoMemory}
use Rattle.protox_file_sources.specs.declared.memory.Put.{Put}
use Rattle.protox_file_sources.specs.declared.memory.Put.TheVariants.{Source, File}
use Rattle.protox_file_sources.specs.Library.{Library}
use Rattle.protox_io.specs.FileNames.{name_of}
use Rattle.protox_file_sources.specs.Told.{Entry, Told, Absent, Recorded, told_source}

-- what a source, or a file, tells that was put under a name
abbrev pub told_put : Put → Told
told_put (Source source) = told_source source None
told_put (File entry) = Recorded entry

-- the values under texts, in the order of the texts
abbrev pub by_text : {X Y : Type 0} → BTreeMap (String Y) X → List (List ℕ × X)
by_text values = map (λ e. (string_bytes e.0, e.1)) values.entries

-- The state of a resolver in memory: what was put last under each name, and the name that each path was mapped to last; the calls that
-- fail; the calls that were made; and those of them that were listed.
pub record ResolverState : Type 0 where
  pub files : List (List ℕ × Put)
  pub names : List (List ℕ × List ℕ)
  pub listed : List ℕ
  pub calls : ℕ
  pub faults : ℕ

-- what was put under a name, if anything, tells
abbrev pub told_of : Option Put → Told
told_of None = Absent
told_of (Some put) = told_put put

-- what stands under a name
abbrev pub stored_as : List (List ℕ × Put) → List ℕ → Told
stored_as files name = told_of (lookup (bytes_eq name) files)

-- the name of a path
abbrev pub named_by : List (List ℕ × List ℕ) → List ℕ → Option (List ℕ)
named_by names path = lookup (bytes_eq path) names

-- the name of each path names itself
abbrev pub AreNames : List (List ℕ × List ℕ) → Type 0
AreNames names = (path : List ℕ) → IfSome (named_by names path) (λ name. name_of name ≡ Some name)

-- the fault of a call that is listed
abbrev pub is_injected : ErrorKind → Bool
is_injected (Custom text is_io) = bytes_eq text (codes "failed to load file!") && is_io
is_injected error = false

-- what contracts see of it
abbrev pub library : ResolverState → Library
library r = record { tells = true; files = stored_as r.files; resolves = named_by r.names; may_fail = λ name. is_injected; disks = [] }

-- whether the next call is listed
abbrev pub is_listed : ResolverState → Bool
is_listed r = list_any (λ c. c == r.calls) r.listed

-- an injected fault, or want of memory for it
abbrev pub IsFault : Result Entry ErrorKind → Type 0
IsFault (Err (Custom text is_io)) = (text ≡ codes "failed to load file!") × (is_io ≡ true)
IsFault (Err NoMemory) = Unit {0}
IsFault answer = ⊥
