-- The folders of a disk and the built-in files.
use Rattle.std.specs.Prelude.{ℕ, List, [], ◌∷◌, ◌++◌, map}
use Rattle.pbx_desc_records.specs.declared.file.FileDescriptorProto.{FileDescriptorProto}
use Rattle.protox_io.specs.Disk.{Volume}
use Rattle.protox_file_sources.specs.Library.{Library, below, pooled}
use Rattle.protox_file.specs.Chained.{chained}

-- the paths of folders, and the disk that they stand on
pub record Folders (D : Type 0) : Type 0 where
  pub folders : List (List ℕ)
  pub disk : D

-- the folders of a disk in order, and then the built-in files; it tells where its disk does
abbrev pub standard : List FileDescriptorProto → Volume → List (List ℕ) → Library
standard built_in disk folders =
    record (chained (map (below disk) folders ++ pooled built_in ∷ [])) { tells = disk.tells; disks = disk ∷ [] }
