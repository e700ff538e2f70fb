-- What the parts of the transcoding answer.
use Rattle.std.specs.Prelude.{◌≡◌, ◌<◌, ◌^◌, ℕ, List, length, false, Option, Some, None}
use Rattle.serde_json.specs.Data.{Data}
use Rattle.pbx_content.specs.Content.{Content}
use Rattle.pbx_content.specs.Encoding.{encoded}
use Rattle.pbx_content.specs.Sound.{IsProper}
use Rattle.pbx_content.specs.declared.shape.Shape.{Shape}
use Rattle.pbx_desc_records.specs.declared.file.FileDescriptorProto.{FileDescriptorProto}
use Rattle.pbx_desc_records.specs.declared.message.DescriptorProto.{DescriptorProto}
use Rattle.pbx_link_meaning.specs.Descriptors.{Described, message_of_name}
use Rattle.pbx_link_meaning.specs.Shapes.{shape_of, place_of}
use Rattle.pbx_json_meaning.specs.Canonical.{canonical}
use Rattle.pbx_json_meaning.specs.Clash.{ByAnyName, name_fault}
use Rattle.pbx_json_meaning.specs.Named.{IsWellNamed}
use Rattle.pbx_json_meaning.specs.declared.names_fault.NameFault.TheVariants as names
use Rattle.pbx_json_meaning.specs.declared.options.SerializeOptions.{SerializeOptions}
use Rattle.pbx_message_dynamic.specs.Message.{Dynamic, text_in}
use Rattle.protox_compile.specs.Sets.{IsUndecodable}
use Rattle.protox_transcode.specs.Top.{ForType, Transcodes, IsUnread, IsTooDeep}
use Rattle.protox_transcode.specs.declared.error.TopError.{TopError}
use Rattle.protox_transcode.specs.declared.error.TopError.TheVariants as top

-- what reading and writing stand on: what holds of the shape of every pool, that each key has one meaning, and well-known names their shapes
pub record IsClear (shape : Shape) : Type 0 where
  pub proper : IsProper shape
  pub named : IsWellNamed shape
  pub clear : name_fault ByAnyName shape ≡ None

-- one of the files cannot be read again, or want of memory
abbrev pub IsNoSet : List FileDescriptorProto → TopError → Type 0
IsNoSet files (top.File error) = IsUndecodable files error
IsNoSet files top.NoMemory = Unit {0}
IsNoSet files error = ⊥

-- a key of a message of the files has two meanings, a message has not the shape of its well-known name, or want of memory
abbrev pub IsNotClear : List FileDescriptorProto → TopError → Type 0
IsNotClear files (top.JsonNames message key) = name_fault ByAnyName (shape_of files) ≡ Some (names.JsonNames message key)
IsNotClear files (top.WellKnownShape message) = name_fault ByAnyName (shape_of files) ≡ Some (names.WellKnownShape message)
IsNotClear files top.NoMemory = Unit {0}
IsNotClear files error = ⊥

-- the wire bytes are those of the content, as many as memory can have, and the tree is its tree under the options
abbrev pub IsWritten : Described DescriptorProto → Content → SerializeOptions → List ℕ → Data → Type 0
IsWritten d c o wire written =
    (wire ≡ encoded (shape_of d.pool) (place_of d) c) × (length wire < 2 ^ 64)
    × (canonical (shape_of d.pool) (place_of d) c o ≡ Some written)

-- the bytes are those of the message, as many as memory can have
abbrev pub IsWire : Dynamic → List ℕ → Type 0
IsWire m wire = (wire ≡ text_in m) × (length wire < 2 ^ 64)

-- there is no tree to write, or want of memory
abbrev pub IsNotWritten : Option Data → TopError → Type 0
IsNotWritten o top.NoMemory = Unit {0}
IsNotWritten o error = o ≡ None

-- the tree stands for no message of the type, or for one that nests too deep, as may its payloads, or want of memory
abbrev pub IsNotTold : Described DescriptorProto → Data → TopError → Type 0
IsNotTold d tree (top.Json e) = IsUnread (shape_of d.pool) (place_of d) tree e
IsNotTold d tree top.TooDeep = IsTooDeep (shape_of d.pool) (place_of d) tree
IsNotTold d tree top.NoMemory = Unit {0}
IsNotTold d tree error = ⊥

-- the tree is transcoded as a message of the type of the name
abbrev pub IsNamed : List FileDescriptorProto → List ℕ → Data → SerializeOptions → List ℕ → Data → Type 0
IsNamed files name tree o wire written = ForType name files (λ shape t. Transcodes shape t tree o wire written)

-- there is no type of the name, or the tree is not transcoded as a message of it, or want of memory
abbrev pub IsNotNamed : List FileDescriptorProto → List ℕ → Data → TopError → Type 0
IsNotNamed files name tree (top.TypeNotFound n) = (n ≡ name) × (message_of_name files name ≡ None)
IsNotNamed files name tree (top.Json e) = ForType name files (λ shape t. IsUnread shape t tree e)
IsNotNamed files name tree top.TooDeep = ForType name files (λ shape t. IsTooDeep shape t tree)
IsNotNamed files name tree top.NoMemory = Unit {0}
IsNotNamed files name tree error = ⊥
