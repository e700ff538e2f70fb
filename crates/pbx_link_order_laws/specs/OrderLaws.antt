-- What records are linked to, and that they keep the rules, is free of the order in which they are linked.
use Rattle.std.specs.Prelude.{◌≡◌, List, [], ◌∷◌, ◌++◌, Some, Contains}
use Rattle.pbx_desc_records.specs.declared.file.FileDescriptorProto.{FileDescriptorProto}
use Rattle.pbx_link_rules.specs.Pool.{IsLinked, ArePooled}
use Rattle.pbx_link_rules.specs.PoolLaws.{AreBehind}
use Rattle.pbx_link.specs.Bytes.{with_files}

-- each of the first files is one of the others
abbrev pub AreAmong : List FileDescriptorProto → List FileDescriptorProto → Type 0
AreAmong some all = (f : FileDescriptorProto) → Contains some f → Contains all f

-- A record that is linked behind others keeps the rules, and is linked to the same record, behind any of the records that are linked before it
-- and after it, in any order in which each stands behind those that it imports, where it stands behind those that it imports itself.
abbrev pub PartsLinkAlike : Type 0
PartsLinkAlike =
    (start middle after some : List FileDescriptorProto) (f g : FileDescriptorProto) → AreBehind [] start → ArePooled start (middle ++ g ∷ after)
    → IsLinked (start ++ middle) f g → AreBehind start some → AreAmong some (middle ++ g ∷ after) → AreBehind (start ++ some) (f ∷ [])
    → IsLinked (start ++ some) f g

-- The records are all added behind the first files, and each file that is made is one of the pool.
pub record AreAddedWithin (start gs pool : List FileDescriptorProto) : Type 0 where
  pub files : List FileDescriptorProto
  pub added : with_files start gs ≡ Some files
  pub within : AreAmong files pool

-- Records that are all added stand behind those that they import.
abbrev pub AddedStandBehind : Type 0
AddedStandBehind = (start fs pool : List FileDescriptorProto) → with_files start fs ≡ Some pool → AreBehind start fs

-- Where records are all added, any of them are all added in any order in which each stands behind those that it imports, and each is linked to the
-- record that it was linked to.
abbrev pub OrderIsFree : Type 0
OrderIsFree =
    (start fs gs pool : List FileDescriptorProto) → AreBehind [] start → with_files start fs ≡ Some pool → AreAmong gs fs → AreBehind start gs
    → AreAddedWithin start gs pool
