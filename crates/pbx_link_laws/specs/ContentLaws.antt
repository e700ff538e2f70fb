-- What rules and linking look at, and linked records that are linked again.
use Rattle.std.specs.Prelude.{◌≡◌, ℕ, List, [], ◌∷◌, ◌++◌}
use Rattle.pbx_desc_records.specs.declared.file.FileDescriptorProto.{FileDescriptorProto}
use Rattle.pbx_link_record.specs.Settled.{settled_file}
use Rattle.pbx_link_record.specs.Linked.{linked_record}
use Rattle.pbx_link_rules.specs.Breaches.{breaches}
use Rattle.pbx_link_rules.specs.Pool.{IsLinked, ArePooled}

-- A settled record is settled.
abbrev pub SettledIsSettled : Type 0
SettledIsSettled = (f : FileDescriptorProto) → settled_file (settled_file f) ≡ settled_file f

-- Rules look at the content of a record alone.
abbrev pub RulesAreOfContents : Type 0
RulesAreOfContents =
    (rule : ℕ) (files : List FileDescriptorProto) (f : FileDescriptorProto) → breaches rule files (settled_file f) ≡ breaches rule files f

-- So does linking: linked records of records of the same content are the same.
abbrev pub LinkingIsOfContents : Type 0
LinkingIsOfContents = (files : List FileDescriptorProto) (f : FileDescriptorProto) → linked_record files (settled_file f) ≡ linked_record files f

-- A linked record is linked to itself among the same files.
abbrev pub LinkedIsLinked : Type 0
LinkedIsLinked = (files : List FileDescriptorProto) (f g : FileDescriptorProto) → IsLinked files f g → IsLinked files g g

-- So is a record of its content, as one that is read from its encoding.
abbrev pub SettledIsLinked : Type 0
SettledIsLinked =
    (files : List FileDescriptorProto) (f g : FileDescriptorProto) → IsLinked files f g → (h : FileDescriptorProto) → settled_file h ≡ g → IsLinked files h g

-- Each file of a pool is linked to itself among those before it.
abbrev pub PooledAreLinked : Type 0
PooledAreLinked = (before after : List FileDescriptorProto) (g : FileDescriptorProto) → ArePooled [] (before ++ g ∷ after) → IsLinked before g g

-- each of these files is linked to itself among those before it
unfoldable pub AreLinked : List FileDescriptorProto → List FileDescriptorProto → Type 0
AreLinked before [] = Unit {0}
AreLinked before (g ∷ gs) = IsLinked before g g × AreLinked (before ++ g ∷ []) gs

-- The files of a pool are.
abbrev pub PoolIsLinked : Type 0
PoolIsLinked = (files : List FileDescriptorProto) → ArePooled [] files → AreLinked [] files
