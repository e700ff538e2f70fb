-- Files that are read from bytes and added to a pool, all or none (Protocol Buffers `descriptor.proto`: FileDescriptorSet).
use Rattle.std.specs.Prelude.{◌≡◌, ℕ, List, [], ◌∷◌, ◌++◌, true, Option, Some, None, if◌then◌else◌}
use Rattle.pbx_wire.specs.declared.error.DecodeError.{DecodeError as Fault}
use Rattle.pbx_wire.specs.declared.error.DecodeError.TheVariants as faults
use Rattle.pbx_content.specs.Meaning.{meaning_of}
use Rattle.pbx_content.specs.Faults.{IsFaultOf, IsFirst}
use Rattle.pbx_desc_shapes.specs.DescriptorShape.{descriptor_shape}
use Rattle.pbx_desc_records.specs.declared.file.FileDescriptorProto.{FileDescriptorProto}
use Rattle.pbx_desc_records.specs.declared.file.FileDescriptorSet.{FileDescriptorSet}
use Rattle.pbx_desc_encoding.specs.Content.{file_content, file_set_content}
use Rattle.pbx_desc_encoding.specs.Sets.{set_meaning_of, IsSetFault}
use Rattle.pbx_desc.specs.Exact.{is_exact_file, is_exact_file_set}
use Rattle.pbx_link_definitions.specs.Definitions.{Place}
use Rattle.pbx_link_definitions.specs.Names.{text_or_empty}
use Rattle.pbx_link_rules.specs.Breaches.{keeps_rules, BreaksFirst}
use Rattle.pbx_link_rules.specs.Pool.{with_file}
use Rattle.pbx_link_definitions.specs.declared.error.DescriptorError.{DescriptorError}
use Rattle.pbx_link_definitions.specs.declared.error.DescriptorError.TheVariants.{Rule, Decode, NoMemory}
use Rattle.pbx_link.specs.Pool.{IsRefused}

-- ---- records, one after another

-- the files after the records are linked and added, where each keeps the rules among those before it
abbrev pub with_files : List FileDescriptorProto → List FileDescriptorProto → Option (List FileDescriptorProto)
with_files files [] = Some files
with_files files (f ∷ fs) = if keeps_rules files f then with_files (with_file files f) fs else None

-- the first of the records that breaks a rule among the files and the records before it, that rule, and a place where it is broken
pub record IsFirstRefused (files fs : List FileDescriptorProto) (file : List ℕ) (place : Place) (rule : ℕ) : Type 0 where
  pub before : List FileDescriptorProto
  pub refused : FileDescriptorProto
  pub after : List FileDescriptorProto
  pub middle : List FileDescriptorProto
  pub split : fs ≡ before ++ refused ∷ after
  pub added : with_files files before ≡ Some middle
  pub name : file ≡ text_or_empty refused.name
  pub breaks : BreaksFirst middle refused rule place

-- why records are not all added: one of them breaks a rule; nothing is said where memory runs out
abbrev pub AreRefused : List FileDescriptorProto → List FileDescriptorProto → DescriptorError → Type 0
AreRefused files fs (Rule file place rule) = IsFirstRefused files fs file place rule
AreRefused files fs (Decode error) = ⊥
AreRefused files fs NoMemory = Unit {0}

-- a fault of bytes, where want of memory is that of the pool
abbrev pub undecoded_as : Fault → DescriptorError
undecoded_as (faults.Varint at) = Decode (faults.Varint at)
undecoded_as (faults.Key at) = Decode (faults.Key at)
undecoded_as (faults.WireType at) = Decode (faults.WireType at)
undecoded_as (faults.Underflow at) = Decode (faults.Underflow at)
undecoded_as (faults.Utf8 at) = Decode (faults.Utf8 at)
undecoded_as (faults.EndGroup at) = Decode (faults.EndGroup at)
undecoded_as (faults.TooDeep at) = Decode (faults.TooDeep at)
undecoded_as faults.NoMemory = NoMemory

-- ---- one file

-- the bytes decode to this record, in which nothing stands beside its content, so they decode to no other
abbrev pub DecodesFile : List ℕ → FileDescriptorProto → Type 0
DecodesFile bytes f = (meaning_of descriptor_shape 1 bytes ≡ Some (file_content f)) × (is_exact_file f ≡ true)

-- the bytes decode to a record that keeps the rules among the files, and these are the files with it
abbrev pub IsFileAdded : List FileDescriptorProto → List ℕ → List FileDescriptorProto → Type 0
IsFileAdded files bytes new = (f : FileDescriptorProto) × DecodesFile bytes f × (keeps_rules files f ≡ true) × (new ≡ with_file files f)

-- why the file is not added: the first fault of bytes that decode to none; or the first rule that the record breaks
abbrev pub IsFileRefused : List FileDescriptorProto → List ℕ → DescriptorError → Type 0
IsFileRefused files bytes (Rule file place rule) = (f : FileDescriptorProto) × DecodesFile bytes f × IsRefused files f (Rule file place rule)
IsFileRefused files bytes (Decode fault) = IsFirst (meaning_of descriptor_shape 1 bytes) (IsFaultOf descriptor_shape 1 bytes) fault
IsFileRefused files bytes NoMemory = Unit {0}

-- ---- a set

-- the bytes decode, file by file, to a set of these records, in which nothing stands beside its content, so they decode to no others
abbrev pub DecodesFiles : List ℕ → List FileDescriptorProto → Type 0
DecodesFiles bytes fs =
    (set : FileDescriptorSet) × (set_meaning_of bytes ≡ Some (file_set_content set)) × (is_exact_file_set set ≡ true) × (set.file ≡ fs)

-- the bytes decode to records each of which keeps the rules among those before it, and these are the files with them
abbrev pub AreAdded : List FileDescriptorProto → List ℕ → List FileDescriptorProto → Type 0
AreAdded files bytes new = (fs : List FileDescriptorProto) × DecodesFiles bytes fs × (with_files files fs ≡ Some new)

-- why no file is added: the first fault of bytes that decode to no set; or the first record of the set that breaks a rule
abbrev pub IsSetRefused : List FileDescriptorProto → List ℕ → DescriptorError → Type 0
IsSetRefused files bytes (Rule file place rule) = (fs : List FileDescriptorProto) × DecodesFiles bytes fs × IsFirstRefused files fs file place rule
IsSetRefused files bytes (Decode fault) = IsFirst (set_meaning_of bytes) (IsSetFault bytes) fault
IsSetRefused files bytes NoMemory = Unit {0}
