-- Which files can be read again from their set.
use Rattle.std.specs.Prelude.{◌≡◌, ℕ, List, Bool, not, ◌||◌, Option, Some, None, find}
use Rattle.std.specs.Option.{is_some}
use Rattle.pbx_content.specs.Meaning.{meaning_of}
use Rattle.pbx_content.specs.Encoding.{encoded}
use Rattle.pbx_desc_records.specs.declared.file.FileDescriptorProto.{FileDescriptorProto}
use Rattle.pbx_desc_shapes.specs.DescriptorShape.{descriptor_shape}
use Rattle.pbx_desc_encoding.specs.Content.{file_content, files_content}
use Rattle.pbx_desc_encoding.specs.Sets.{DecodesSet, is_deep_file}
use Rattle.pbx_desc_decodable.specs.Schema.{descriptor_schema}

-- the canonical encoding of the record of a file (Protocol Buffers `descriptor.proto`: FileDescriptorProto)
abbrev pub file_text : FileDescriptorProto → List ℕ
file_text f = encoded descriptor_shape 1 (file_content f)

-- the encoding of the file is no FileDescriptorProto of the built-in file `descriptor.proto`: it nests more than 100 levels, or its options do not decode
abbrev pub is_undecodable : FileDescriptorProto → Bool
is_undecodable f = is_deep_file f || not (is_some (meaning_of descriptor_schema 1 (file_text f)))

-- each file can be read again from their set
abbrev pub AreDecodable : List FileDescriptorProto → Type 0
AreDecodable files = find is_undecodable files ≡ None

-- the bytes are the canonical encoding of the set of the files, and decode to it file by file (Protocol Buffers `descriptor.proto`:
-- FileDescriptorSet)
abbrev pub IsSet : List FileDescriptorProto → List ℕ → Type 0
IsSet files set = (set ≡ encoded descriptor_shape 0 (files_content files)) × DecodesSet set (files_content files)

-- the set of the files, or none where one of them cannot be read again
abbrev pub IsSetOrNone : List FileDescriptorProto → Option (List ℕ) → Type 0
IsSetOrNone files (Some set) = AreDecodable files × IsSet files set
IsSetOrNone files None = AreDecodable files → ⊥
