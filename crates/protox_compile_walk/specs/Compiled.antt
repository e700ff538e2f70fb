-- Compiled files: what is known of each, beside the records of a pool.
use Rattle.std.specs.Prelude.{◌≡◌, ℕ, zero, suc, map, List, [], ◌∷◌, ◌++◌, Bool, true, false, not, if◌then◌else◌, Option, Some, None}
use Rattle.std.specs.Str.{bytes_eq}
use Rattle.pbx_desc_records.specs.declared.file.FileDescriptorProto.{FileDescriptorProto}
use Rattle.pbx_link_rules.specs.Breaches.{keeps_rules}
use Rattle.pbx_link.specs.Pool.{IsRefused}
use Rattle.protox_file_sources.specs.Metadata.{Metadata}
use Rattle.protox_file_error.specs.declared.error.ErrorKind.{ErrorKind}
use Rattle.protox_file_error.specs.declared.error.ErrorKind.TheVariants.{Check, NoMemory}
use Rattle.protox_compile_walk.specs.Walk.{Done, is_done}

-- a file, by what is known of it and its record
abbrev pub done_by : Metadata → FileDescriptorProto → Done
done_by m r = record { name = m.name; file = r; path = m.path; opened = not m.is_import }

-- the files, one after another
abbrev pub done_of : List Metadata → List FileDescriptorProto → List Done
done_of [] rs = []
done_of (m ∷ ms) [] = []
done_of (m ∷ ms) (r ∷ rs) = done_by m r ∷ done_of ms rs

-- each record has the name that its file is known by
abbrev pub AreRecorded : List Metadata → List FileDescriptorProto → Type 0
AreRecorded [] [] = Unit {0}
AreRecorded [] (r ∷ rs) = ⊥
AreRecorded (m ∷ ms) [] = ⊥
AreRecorded (m ∷ ms) (r ∷ rs) = (r.name ≡ Some m.name) × AreRecorded ms rs

-- what is known of a finished file
abbrev pub metadata_of : Done → Metadata
metadata_of d = record { name = d.name; path = d.path; is_import = not d.opened }

-- the first of this name, not as an import
abbrev pub opened_in : List ℕ → List Metadata → List Metadata
opened_in name [] = []
opened_in name (m ∷ ms) = if bytes_eq m.name name then record m { is_import = false } ∷ ms else m ∷ opened_in name ms

-- the one at the index, not as an import
abbrev pub opened_at : ℕ → List Metadata → List Metadata
opened_at i [] = []
opened_at zero (m ∷ ms) = record m { is_import = false } ∷ ms
opened_at (suc i) (m ∷ ms) = m ∷ opened_at i ms

-- the path of the one at the index, if it has one
abbrev pub path_at : ℕ → List Metadata → Option (List ℕ)
path_at i [] = None
path_at zero (m ∷ ms) = m.path
path_at (suc i) (m ∷ ms) = path_at i ms

-- whether the one at the index is no import
abbrev pub is_opened_at : ℕ → List Metadata → Bool
is_opened_at i [] = false
is_opened_at zero (m ∷ ms) = not m.is_import
is_opened_at (suc i) (m ∷ ms) = is_opened_at i ms

-- whether the first of this name is no import
abbrev pub is_opened_known : List ℕ → List Metadata → Bool
is_opened_known name [] = false
is_opened_known name (m ∷ ms) = if bytes_eq m.name name then not m.is_import else is_opened_known name ms

-- the names of the files
abbrev pub names_known : List Metadata → List (List ℕ)
names_known ms = map (λ (m : Metadata). m.name) ms

-- the path of the first of this name
abbrev pub path_known : List ℕ → List Metadata → Option (List ℕ)
path_known name [] = None
path_known name (m ∷ ms) = if bytes_eq m.name name then m.path else path_known name ms

-- each of these names is that of a finished file
abbrev pub AllDone : List Done → List (List ℕ) → Type 0
AllDone done [] = Unit {0}
AllDone done (name ∷ names) = (is_done done name ≡ true) × AllDone done names

-- Files behind others: each record has its file's name, no name stands twice, and each import of a file stands before it (Protocol
-- Buffers documentation of FileDescriptorSet: a file comes after all that it depends on).
abbrev pub IsOrdered : List Done → List Done → Type 0
IsOrdered before [] = Unit {0}
IsOrdered before (d ∷ ds) = (d.file.name ≡ Some d.name) × (is_done before d.name ≡ false) × AllDone before d.file.dependency × IsOrdered (before ++ d ∷ []) ds

-- why a record is not linked: the record's own fault, or want of memory
abbrev pub IsUnlinked : List FileDescriptorProto → FileDescriptorProto → ErrorKind → Type 0
IsUnlinked files f (Check error) = (keeps_rules files f ≡ false) × IsRefused files f error
IsUnlinked files f NoMemory = Unit {0}
IsUnlinked files f kind = ⊥
