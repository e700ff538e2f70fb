-- The contents of records of files: settled records, and what rules and linking look at.
use Rattle.std.specs.Prelude.{◌≡◌, ◌↔◌, ℕ, List}
use Rattle.pbx_content.specs.Same.{settled, Same}
use Rattle.pbx_desc_records.specs.declared.file.FileDescriptorProto.{FileDescriptorProto}
use Rattle.pbx_desc_shapes.specs.DescriptorShape.{descriptor_shape}
use Rattle.pbx_desc_encoding.specs.Content.{file_content}
use Rattle.pbx_link_record.specs.Settled.{settled_file}
use Rattle.pbx_link_record.specs.Linked.{linked_record}
use Rattle.pbx_link_rules.specs.Breaches.{breaches}
use Rattle.pbx_link_rules.specs.Pool.{IsLinked}

-- The content of a settled record is the settled content.
abbrev pub SettledContent : Type 0
SettledContent = (f : FileDescriptorProto) → settled descriptor_shape 1 (file_content f) ≡ file_content (settled_file f)

-- both records have one content, but for the order of unknown records of different numbers
abbrev pub AreAlike : FileDescriptorProto → FileDescriptorProto → Type 0
AreAlike f g = Same descriptor_shape 1 (file_content f) (file_content g)

-- Records have one content exactly where they are settled to one record.
abbrev pub AlikeIsSettled : Type 0
AlikeIsSettled = (f g : FileDescriptorProto) → AreAlike f g ↔ (settled_file f ≡ settled_file g)

-- Records of one content break the same rules at the same places.
abbrev pub AlikeBreak : Type 0
AlikeBreak = (rule : ℕ) (files : List FileDescriptorProto) (f g : FileDescriptorProto) → AreAlike f g → breaches rule files f ≡ breaches rule files g

-- They are linked to one record.
abbrev pub AlikeLink : Type 0
AlikeLink = (files : List FileDescriptorProto) (f g : FileDescriptorProto) → AreAlike f g → linked_record files f ≡ linked_record files g

-- A record of the content of a linked record is linked to it.
abbrev pub AlikeIsLinked : Type 0
AlikeIsLinked = (files : List FileDescriptorProto) (f g h : FileDescriptorProto) → IsLinked files f g → AreAlike h g → IsLinked files h g
