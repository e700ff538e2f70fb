-- What linking leaves as it is.
use Rattle.std.specs.Prelude.{◌≡◌, List, map}
use Rattle.pbx_desc_records.specs.declared.file.FileDescriptorProto.{FileDescriptorProto}
use Rattle.pbx_desc_records.specs.declared.message.DescriptorProto.{DescriptorProto}
use Rattle.pbx_link_definitions.specs.Definitions.{Part, definitions, messages}
use Rattle.pbx_link_record.specs.Settled.{settled_message, settled_file}
use Rattle.pbx_link_record.specs.Linked.{linked_message, linked_with}

-- the linked and settled record defines what the record defines, in the same order and at the same places
abbrev pub DefinesTheSame : Type 0
DefinesTheSame = (seen : List FileDescriptorProto) (f : FileDescriptorProto) → definitions (settled_file (linked_with seen f)) ≡ definitions f

-- a message of a file, linked in its scope and settled
abbrev pub linked_part : List FileDescriptorProto → Part DescriptorProto → Part DescriptorProto
linked_part seen p = record p { item = settled_message (linked_message seen p.scope p.item) }

-- its messages are those of the record, each linked in its scope and settled
abbrev pub HasLinkedMessages : Type 0
HasLinkedMessages =
    (seen : List FileDescriptorProto) (f : FileDescriptorProto) → messages (settled_file (linked_with seen f)) ≡ map (linked_part seen) (messages f)
