-- Why a file is not added to a pool.
use Rattle.std.specs.Prelude.{◌≡◌, List}
use Rattle.pbx_desc_records.specs.declared.file.FileDescriptorProto.{FileDescriptorProto}
use Rattle.pbx_link_definitions.specs.Names.{text_or_empty}
use Rattle.pbx_link_rules.specs.Breaches.{BreaksFirst}
use Rattle.pbx_link_definitions.specs.declared.error.DescriptorError.{DescriptorError}
use Rattle.pbx_link_definitions.specs.declared.error.DescriptorError.TheVariants.{Rule, Decode, NoMemory}

-- the first rule that the record breaks among the files, with a place where it is broken and the file's name; nothing is said where memory
-- runs out
abbrev pub IsRefused : List FileDescriptorProto → FileDescriptorProto → DescriptorError → Type 0
IsRefused files f (Rule file place rule) = (file ≡ text_or_empty f.name) × BreaksFirst files f rule place
IsRefused files f (Decode error) = ⊥
IsRefused files f NoMemory = Unit {0}
