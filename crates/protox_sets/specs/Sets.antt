-- A pool from the bytes of a descriptor set on a disk, or why there is none (Protocol Buffers `descriptor.proto`: FileDescriptorSet).
-- States: the contract of `read_pool`, and the first refusals of the programs that work over a set.
use Rattle.std.specs.Prelude.{◌≡◌, ℕ, List, [], ◌∷◌, codes}
use Rattle.std.specs.List.{concat}
use Rattle.pbx_desc_records.specs.declared.file.FileDescriptorProto.{FileDescriptorProto}
use Rattle.pbx_link.specs.Bytes.{AreAdded, IsSetRefused}
use Rattle.pbx_link_definitions.specs.declared.error.DescriptorError.{DescriptorError}
use Rattle.pbx_link_definitions.specs.declared.error.DescriptorError.TheVariants.{Rule, Decode}
use Rattle.protox_file_error.specs.Lines.{long_line_of}
use Rattle.protox_file_error.specs.declared.error.ErrorKind.TheVariants as kinds
use Rattle.protox_io.specs.Disk.{Volume, Held, Missing, Oversized, Stored, found}
use Rattle.protox_io.specs.Paths.{disk_key}

-- what is read at the path
abbrev pub held_at : Volume → List ℕ → Held
held_at disk path = found (disk.holds (disk_key path))

-- the disk holds a set at the path, and these are the linked files of it
abbrev pub HasPool : Volume → List ℕ → List FileDescriptorProto → Type 0
HasPool disk path files = (bytes : List ℕ) × (held_at disk path ≡ Stored bytes) × AreAdded [] bytes files

-- the disk holds bytes at the path that are refused so
abbrev pub IsBadSet : Volume → List ℕ → DescriptorError → Type 0
IsBadSet disk path e = (bytes : List ℕ) × (held_at disk path ≡ Stored bytes) × IsSetRefused [] bytes e

abbrev pub IsDecode : DescriptorError → Type 0
IsDecode (Decode fault) = Unit {0}
IsDecode _ = ⊥

abbrev pub IsRule : DescriptorError → Type 0
IsRule (Rule file place rule) = Unit {0}
IsRule _ = ⊥

-- why there is no pool
pub data SetRefusal : Type 0 where
  Absent : SetRefusal
  TooLarge : SetRefusal
  NotASet : SetRefusal
  Unlinked : DescriptorError → SetRefusal

abbrev pub Refuses : Volume → List ℕ → SetRefusal → Type 0
Refuses disk path Absent = held_at disk path ≡ Missing
Refuses disk path TooLarge = held_at disk path ≡ Oversized
Refuses disk path NotASet = (e : DescriptorError) × IsBadSet disk path e × IsDecode e
Refuses disk path (Unlinked e) = IsBadSet disk path e × IsRule e

-- its line, as the pieces that stand in it one after another
abbrev pub set_line : List ℕ → SetRefusal → List (List ℕ)
set_line path Absent = codes "file '" ∷ path ∷ codes "' not found" ∷ []
set_line path TooLarge = codes "file '" ∷ path ∷ codes "' is too large" ∷ []
set_line path NotASet = codes "'" ∷ path ∷ codes "' is not a descriptor set" ∷ []
set_line path (Unlinked e) = long_line_of (kinds.Check e)

-- the line is that of a set which is refused
abbrev pub IsRefusedSet : Volume → List ℕ → List ℕ → Type 0
IsRefusedSet disk path line = (refusal : SetRefusal) × Refuses disk path refusal × (line ≡ concat (set_line path refusal))

-- the line of a set that cannot be read
abbrev pub unread_line : List ℕ → List ℕ
unread_line path = concat (codes "reading '" ∷ path ∷ codes "' failed" ∷ [])
