-- What the files of a pool tell.
use Rattle.std.specs.Prelude.{ℕ, List, Option, Some, None}
use Rattle.pbx_desc_records.specs.declared.file.FileDescriptorProto.{FileDescriptorProto}
use Rattle.pbx_link_meaning.specs.Descriptors.{FileDescribed, file_of_name}
use Rattle.protox_file_sources.specs.Told.{Told, Absent, Recorded}

-- what a file of a pool tells, if there is one: its linked record alone
abbrev pub told_described : Option FileDescribed → Told
told_described None = Absent
told_described (Some d) = Recorded (record { file = d.file; path = None; source = None; encoded = None })

-- what stands under a name where the files are those of a pool
abbrev pub pooled_as : List FileDescriptorProto → List ℕ → Told
pooled_as pool name = told_described (file_of_name pool name)
