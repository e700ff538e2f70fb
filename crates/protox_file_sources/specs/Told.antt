-- What a resolver tells of its names, and what looking a name up comes to.
use Rattle.std.specs.Prelude.{◌≡◌, ℕ, nat_lt, List, Option, Some, None, if◌then◌else◌, length}
use Rattle.std.specs.Str.{is_utf8}
use Rattle.pbx_desc_records.specs.declared.file.FileDescriptorProto.{FileDescriptorProto}
use Rattle.pbx_parse.specs.Reads.{Reads}
use Rattle.protox_io.specs.Disk.{Held, Missing, Oversized, Stored}
use Rattle.protox_io.specs.Paths.{Component, disk_key}
use Rattle.protox_io.specs.FileNames.{joined}

-- a file: its record, and if they are known the path that it was read from, its source, and the bytes that it was decoded from
pub record Entry : Type 0 where
  pub file : FileDescriptorProto
  pub path : Option (List ℕ)
  pub source : Option (List ℕ)
  pub encoded : Option (List ℕ)

-- what stands under a name: no file, a file, a source and the path that it is read from, a source of too many bytes, bytes that are no text
pub data Told : Type 0 where
  Absent : Told
  Recorded : Entry → Told
  Source : List ℕ → Option (List ℕ) → Told
  TooLarge : Told
  NotText : Told

-- What looking a name up comes to: no file, a file, or a text that is at fault, by the number of the error's kind: 1 its syntax, 4 its
-- size, 5 its encoding. Or it was not looked up.
pub data Lookup : Type 0 where
  NoFile : Lookup
  IsFile : Entry → Lookup
  TextFault : ℕ → Lookup
  Unread : Lookup

-- a source under a name, which is read from this path, gives this
abbrev pub IsReading : List ℕ → List ℕ → Option (List ℕ) → Lookup → Type 0
IsReading name source path NoFile = ⊥
IsReading name source path (IsFile entry) = Reads name source entry.file × (entry.path ≡ path) × (entry.source ≡ Some source) × (entry.encoded ≡ None)
IsReading name source path (TextFault kind) = (kind ≡ 1) × ((file : FileDescriptorProto) → ¬ Reads name source file)
IsReading name source path Unread = ⊥

-- What looking a name up comes to, where this stands under it. There is at most one such, since a name and a source have at most one record.
abbrev pub IsFound : List ℕ → Told → Lookup → Type 0
IsFound name Absent lookup = lookup ≡ NoFile
IsFound name (Recorded entry) lookup = lookup ≡ IsFile entry
IsFound name (Source source path) lookup = IsReading name source path lookup
IsFound name TooLarge lookup = lookup ≡ TextFault 4
IsFound name NotText lookup = lookup ≡ TextFault 5

-- the look-up of a name is right, where this stands under it: that is what it came to, or it was not looked up
abbrev pub IsLookup : List ℕ → Told → Lookup → Type 0
IsLookup name told Unread = Unit {0}
IsLookup name told lookup = IsFound name told lookup

-- each name was looked up right, or was not
abbrev pub AreLookups : (List ℕ → Told) → (List ℕ → Lookup) → Type 0
AreLookups files lookups = (name : List ℕ) → IsLookup name (files name) (lookups name)

-- some look-ups of these files are such
abbrev pub ByLookups : (List ℕ → Told) → ((List ℕ → Lookup) → Type 0) → Type 0
ByLookups files P = (lookups : List ℕ → Lookup) × AreLookups files lookups × P lookups

-- no name is left that was not looked up
abbrev pub AreComplete : (List ℕ → Lookup) → Type 0
AreComplete lookups = (name : List ℕ) → ¬ (lookups name ≡ Unread)

-- at most so many bytes are read as a source
abbrev pub largest_source : ℕ
largest_source = 2147483647

-- what a source in memory tells
abbrev pub told_source : List ℕ → Option (List ℕ) → Told
told_source source path = if nat_lt largest_source (length source) then TooLarge else Source source path

-- what bytes tell, of at most so many
abbrev pub told_bytes : List ℕ → Option (List ℕ) → Told
told_bytes bytes path = if is_utf8 bytes then Source bytes path else NotText

-- what a disk tells that has this at the path
abbrev pub told_held : Held → Option (List ℕ) → Told
told_held Missing path = Absent
told_held Oversized path = TooLarge
told_held (Stored bytes) path = if nat_lt largest_source (length bytes) then TooLarge else told_bytes bytes path

-- what a folder tells, on a disk that has this at each key
abbrev pub told_below : (List Component → Held) → List ℕ → List ℕ → Told
told_below holds folder name = told_held (holds (disk_key (joined folder name))) (Some (joined folder name))
