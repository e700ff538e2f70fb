-- The files of a list, as a descriptor set is one (Protocol Buffers `descriptor.proto`: FileDescriptorSet).
use Rattle.std.specs.Prelude.{ℕ, List, [], ◌∷◌, true, if◌then◌else◌, unwrap_or}
use Rattle.std.specs.Str.{bytes_eq}
use Rattle.protox_file_sources.specs.Library.{Library, resolves_nothing, never}
use Rattle.protox_file_sources.specs.Told.{Entry, Told, Absent, Recorded}

-- the name that a file declares, which is empty where it declares none
abbrev pub declared_name : Entry → List ℕ
declared_name entry = unwrap_or entry.file.name []

-- the first of the files that declares the name
abbrev pub first_declared : List Entry → List ℕ → Told
first_declared [] name = Absent
first_declared (entry ∷ entries) name = if bytes_eq (declared_name entry) name then Recorded entry else first_declared entries name

-- the files, each under the name that it declares
abbrev pub listed_files : List Entry → Library
listed_files entries = record { tells = true; files = first_declared entries; resolves = resolves_nothing; may_fail = never; disks = [] }
