-- What holds of the built-in files as files of a pool.
use Rattle.std.specs.Prelude.{◌≡◌, ℕ, take, slice_get, Some}
use Rattle.pbx_desc_records.specs.declared.file.FileDescriptorProto.{FileDescriptorProto}
use Rattle.pbx_link_rules.specs.Pool.{IsLinked}
use Rattle.pbx_wkt_files.specs.Files.{wkt_files}

-- Each built-in file keeps all rules of linking among those before it, and linking leaves its record as it is.
abbrev pub FilesAreLinked : Type 0
FilesAreLinked = (i : ℕ) (f : FileDescriptorProto) → slice_get wkt_files i ≡ Some f → IsLinked (take i wkt_files) f f
