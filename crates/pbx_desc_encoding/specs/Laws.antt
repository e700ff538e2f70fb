-- Laws of the definitions, each proved as the contract of a public function.
use Rattle.std.specs.Prelude.{◌≤◌, List}
use Rattle.pbx_content.specs.Sound.{depth}
use Rattle.pbx_desc_records.specs.declared.file.FileDescriptorProto.{FileDescriptorProto}
use Rattle.pbx_desc_records.specs.declared.file.FileDescriptorSet.{FileDescriptorSet}
use Rattle.pbx_desc_records.specs.declared.message.DescriptorProto.{DescriptorProto}
use Rattle.pbx_desc_encoding.specs.Content.{message_content, file_content, file_set_content, files_content}
use Rattle.pbx_desc_encoding.specs.Levels.{below, message_levels, file_levels, file_set_levels}

-- the content of a message has no more levels than the message
abbrev pub DepthOfMessage : Type 0
DepthOfMessage = (m : DescriptorProto) → depth (message_content m) ≤ message_levels m

-- the same of a file
abbrev pub DepthOfFile : Type 0
DepthOfFile = (file : FileDescriptorProto) → depth (file_content file) ≤ file_levels file

-- the same of a set of files
abbrev pub DepthOfSet : Type 0
DepthOfSet = (set : FileDescriptorSet) → depth (file_set_content set) ≤ file_set_levels set

-- the same of the set of these files
abbrev pub DepthOfFiles : Type 0
DepthOfFiles = (files : List FileDescriptorProto) → depth (files_content files) ≤ below file_levels files
