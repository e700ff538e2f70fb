-- A pool of linked records: each was linked among those before it, and broke no rule there.
use Rattle.std.specs.Prelude.{◌≡◌, List, [], ◌∷◌, ◌++◌, true}
use Rattle.pbx_desc_records.specs.declared.file.FileDescriptorProto.{FileDescriptorProto}
use Rattle.pbx_link_record.specs.Linked.{linked_record}
use Rattle.pbx_link_rules.specs.Breaches.{keeps_rules}

-- Among these files no rule is broken for the record, and this is its linked record.
pub record IsLinked (files : List FileDescriptorProto) (f g : FileDescriptorProto) : Type 0 where
  pub keeps : keeps_rules files f ≡ true
  pub is : g ≡ linked_record files f

-- these are linked records, each among those before it
unfoldable pub ArePooled : List FileDescriptorProto → List FileDescriptorProto → Type 0
ArePooled before [] = Unit {0}
ArePooled before (g ∷ gs) = ((f : FileDescriptorProto) × IsLinked before f g) × ArePooled (before ++ g ∷ []) gs

-- the files of a pool after the record is linked and added
abbrev pub with_file : List FileDescriptorProto → FileDescriptorProto → List FileDescriptorProto
with_file files f = files ++ linked_record files f ∷ []
