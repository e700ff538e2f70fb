-- What contracts see of a resolver, and what each resolver is.
use Rattle.std.specs.Prelude.{ℕ, List, [], ◌∷◌, Bool, true, false, Option, None}
use Rattle.std.specs.Str.{bytes_eq}
use Rattle.pbx_desc_records.specs.declared.file.FileDescriptorProto.{FileDescriptorProto}
use Rattle.protox_io.specs.Disk.{Volume}
use Rattle.protox_io.specs.FileNames.{joined, resolved}
use Rattle.protox_file_error.specs.declared.error.ErrorKind.{ErrorKind}
use Rattle.protox_file_error.specs.declared.error.ErrorKind.TheVariants.{OpenFile}
use Rattle.protox_file_sources.specs.Told.{Entry, Told, Absent, told_below}
use Rattle.protox_file_sources.specs.Google.{pooled_as}

-- What contracts see of a resolver: whether it tells what it has, what stands under each name, the name of each path that it resolves,
-- the faults that opening a name may have, and the disks that it reads, so that one equation keeps them too.
pub record Library : Type 0 where
  pub tells : Bool
  pub files : List ℕ → Told
  pub resolves : List ℕ → Option (List ℕ)
  pub may_fail : List ℕ → ErrorKind → Bool
  pub disks : List Volume

-- what a resolver is that tells nothing, and may have any fault
abbrev pub unknown : Library
unknown = record { tells = false; files = λ name. Absent; resolves = λ path. None; may_fail = λ name error. true; disks = [] }

-- no path has a name
abbrev pub resolves_nothing : List ℕ → Option (List ℕ)
resolves_nothing path = None

-- no fault
abbrev pub never : List ℕ → ErrorKind → Bool
never name error = false

-- a fault of reading this path
abbrev pub may_fail_at : List ℕ → ErrorKind → Bool
may_fail_at path (OpenFile name opened words) = bytes_eq opened path
may_fail_at path error = false

-- the files of a folder of a disk
abbrev pub below : Volume → List ℕ → Library
below disk folder = record {
  tells = disk.tells;
  files = told_below disk.holds folder;
  resolves = resolved folder;
  may_fail = λ name. may_fail_at (joined folder name);
  disks = disk ∷ [];
}

-- the files of a pool
abbrev pub pooled : List FileDescriptorProto → Library
pooled pool = record { tells = true; files = pooled_as pool; resolves = resolves_nothing; may_fail = never; disks = [] }

-- a record alone
abbrev pub alone : FileDescriptorProto → Entry
alone file = record { file = file; path = None; source = None; encoded = None }
