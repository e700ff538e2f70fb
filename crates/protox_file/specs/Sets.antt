-- The files of a descriptor set, and of its bytes (Protocol Buffers `descriptor.proto`: FileDescriptorSet).
use Rattle.std.specs.Prelude.{◌≡◌, ◌∷◌, ◌++◌, ◌⊎◌, [], ℕ, List, map, Some}
use Rattle.pbx_wire.specs.declared.rec.Rec.{Rec, Bytes}
use Rattle.pbx_wire.specs.Spelling.{Spells}
use Rattle.pbx_content.specs.Records.{bytes_of, those_of, each}
use Rattle.pbx_desc_records.specs.declared.file.FileDescriptorProto.{FileDescriptorProto}
use Rattle.pbx_link.specs.Bytes.{DecodesFile}
use Rattle.protox_file_sources.specs.Library.{alone}
use Rattle.protox_file_sources.specs.Told.{Entry}
use Rattle.protox_file.specs.declared.descriptor_set.Files.{Files}
use Rattle.protox_file.specs.declared.descriptor_set.Files.TheVariants.{Records, Decoded}

-- ---- files that are held

-- the records of a set, each alone, or the files of its bytes
abbrev pub entries_of : Files → List Entry
entries_of (Records files) = map alone files
entries_of (Decoded files) = files

-- the records of entries
abbrev pub records_of : List Entry → List FileDescriptorProto
records_of entries = map (λ (e : Entry). e.file) entries

-- ---- the files of bytes

-- the payload decodes to the record of the entry, which is kept beside the payload and nothing else
abbrev pub IsFileOf : List ℕ → Entry → Type 0
IsFileOf payload entry = (entry ≡ record (alone entry.file) { encoded = Some payload }) × DecodesFile payload entry.file

-- the entries are such files of the payloads, one after another
abbrev pub AreFilesOf : List (List ℕ) → List Entry → Type 0
AreFilesOf [] [] = Unit {0}
AreFilesOf [] (e ∷ es) = ⊥
AreFilesOf (p ∷ ps) [] = ⊥
AreFilesOf (p ∷ ps) (e ∷ es) = IsFileOf p e × AreFilesOf ps es

-- The bytes spell records, in which groups nest at most 100 levels, and the entries are the files of the payloads of those of number 1
-- (`descriptor.proto`: FileDescriptorSet.file).
pub record AreFilesIn (bytes : List ℕ) (entries : List Entry) : Type 0 where
  pub records : List Rec
  pub payloads : List (List ℕ)
  pub spelled : Spells 100 bytes records
  pub found : each bytes_of (those_of 1 records) ≡ Some payloads
  pub files : AreFilesOf payloads entries

-- ---- one record of the bytes

-- a record of number 1 adds the file of its payload, and any other record adds none
abbrev pub IsAdded : Rec → List Entry → List Entry → Type 0
IsAdded r old new =
    ((those_of 1 (r ∷ []) ≡ []) × (new ≡ old))
    ⊎ ((payload : List ℕ) × (entry : Entry) × (r ≡ Bytes 1 payload) × IsFileOf payload entry × (new ≡ old ++ entry ∷ []))
