-- Sets of files, which are read file by file: each file has 100 levels of its own.
use Rattle.std.specs.Prelude.{◌≡◌, ℕ, nat_lt, List, length, map, position, Bool, false, Option}
use Rattle.pbx_wire.specs.declared.error.DecodeError.{DecodeError}
use Rattle.pbx_content.specs.Content.{Content, Val, number, truth, text, octets, message, many, keyed}
use Rattle.pbx_wire.specs.Text.{text_of}
use Rattle.pbx_content.specs.declared.shape.Kind.TheVariants.{Message}
use Rattle.pbx_content.specs.Encoding.{payload, content_recs}
use Rattle.pbx_content.specs.Meaning.{parts_meaning_of}
use Rattle.pbx_content.specs.Same.{DecodesParts}
use Rattle.pbx_content.specs.Faults.{IsFaultOfParts}
use Rattle.pbx_content.specs.Sound.{depth}
use Rattle.pbx_desc_records.specs.declared.file.FileDescriptorProto.{FileDescriptorProto}
use Rattle.pbx_desc_encoding.specs.Content.{file_content, file_value}
use Rattle.pbx_desc_encoding.specs.Sound.{AreOf}
use Rattle.pbx_desc_shapes.specs.DescriptorShape.{descriptor_shape}

-- what bytes mean as a FileDescriptorSet
abbrev pub set_meaning_of : List ℕ → Option Content
set_meaning_of bytes = parts_meaning_of descriptor_shape 0 bytes

-- the bytes decode to the content of a FileDescriptorSet
abbrev pub DecodesSet : List ℕ → Content → Type 0
DecodesSet bytes c = DecodesParts descriptor_shape 0 bytes c

-- the rule that the bytes break as a FileDescriptorSet, and the offset of the key of the innermost record that breaks it
abbrev pub IsSetFault : List ℕ → DecodeError → Type 0
IsSetFault bytes e = IsFaultOfParts descriptor_shape 0 bytes e

-- ---- files that nest too many levels to be read again

-- a message with more than 100 levels below its top
abbrev pub is_deep : Val → Bool
is_deep (number z) = false
is_deep (truth b) = false
is_deep (text s) = false
is_deep (octets b) = false
is_deep (message c) = nat_lt 100 (depth c)
is_deep (many vs) = false
is_deep (keyed ps) = false

-- the content of the file has more than 100 levels below its top
abbrev pub is_deep_file : FileDescriptorProto → Bool
is_deep_file f = nat_lt 100 (depth (file_content f))

-- ---- sets that are being written

-- the text of some files, how many they are, and the index of the first that nests more than 100 levels
pub record SetText : Type 0 where
  pub text : List ℕ
  pub len : ℕ
  pub deep : Option ℕ

-- It is that of these files: each is one record, and each may be written.
pub record IsSetOf (set : SetText) (files : List FileDescriptorProto) : Type 0 where
  pub text : set.text ≡ text_of (map (λ f. payload 1 (content_recs descriptor_shape 1 (file_content f))) files)
  pub sound : AreOf descriptor_shape (Message 1) (map file_value files)
  pub len : set.len ≡ length files
  pub deep : set.deep ≡ position is_deep_file files
