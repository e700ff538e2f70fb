-- Files that were decoded, beside their bytes.
use Rattle.std.specs.Prelude.{ℕ, List, Option, Some, None}
use Rattle.pbx_desc_records.specs.declared.file.FileDescriptorProto.{FileDescriptorProto}
use Rattle.pbx_link.specs.Bytes.{DecodesFile}

-- the bytes that a record is kept beside, if there are any, decode to it
abbrev pub IsEncoded : Option (List ℕ) → FileDescriptorProto → Type 0
IsEncoded None file = Unit {0}
IsEncoded (Some bytes) file = DecodesFile bytes file
