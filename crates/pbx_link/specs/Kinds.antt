-- The kind, label and language that descriptors answer (Protocol Buffers `descriptor.proto`: FieldDescriptorProto.Type and Label).
use Rattle.std.specs.Prelude.{ℕ, ◌==◌, ℤ, List, Option, Some, option_map, if◌then◌else◌}
use Rattle.pbx_desc_records.specs.declared.field.FieldDescriptorProto.{FieldDescriptorProto}
use Rattle.pbx_desc_records.specs.declared.file.FileDescriptorProto.{FileDescriptorProto}
use Rattle.pbx_link.specs.declared.kind.Kind.{Kind}
use Rattle.pbx_link.specs.declared.kind.Kind.TheVariants as kind
use Rattle.pbx_link.specs.declared.kind.Cardinality.{Cardinality}
use Rattle.pbx_link.specs.declared.kind.Cardinality.TheVariants.{Optional, Required, Repeated}
use Rattle.pbx_link.specs.declared.kind.Syntax.{Syntax}
use Rattle.pbx_link.specs.declared.kind.Syntax.TheVariants.{Proto2, Proto3}
use Rattle.pbx_link_definitions.specs.Says.{is_number, is_proto3, number_or_zero}
use Rattle.pbx_link_meaning.specs.Descriptors.{Described, message_referred, enum_referred}

-- the scalar of a number
abbrev pub scalar_of : ℕ → Kind
scalar_of n =
    if n == 1 then kind.Double else (if n == 2 then kind.Float else (if n == 3 then kind.Int64 else (if n == 4 then kind.Uint64
    else (if n == 5 then kind.Int32 else (if n == 6 then kind.Fixed64 else (if n == 7 then kind.Fixed32 else (if n == 8 then kind.Bool
    else (if n == 9 then kind.String else (if n == 12 then kind.Bytes else (if n == 13 then kind.Uint32 else (if n == 15 then kind.Sfixed32
    else (if n == 16 then kind.Sfixed64 else (if n == 17 then kind.Sint32 else kind.Sint64)))))))))))))

-- the kind that the record of a field or extension says; a message or enum is that of the pool
abbrev pub kind_in : List FileDescriptorProto → FieldDescriptorProto → Option Kind
kind_in pool x =
    let n = number_or_zero x.kind in
    if n == 11 then option_map kind.Message (message_referred pool x.type_name)
    else (if n == 14 then option_map kind.Enum (enum_referred pool x.type_name) else Some (scalar_of n))

-- the kind of a field or extension
abbrev pub described_kind : Described FieldDescriptorProto → Option Kind
described_kind x = kind_in x.pool x.part.item

-- the label of a number; optional where it is another, or absent
abbrev pub labelled : Option ℤ → Cardinality
labelled label = if is_number label 2 then Required else (if is_number label 3 then Repeated else Optional)

-- the label
abbrev pub described_cardinality : Described FieldDescriptorProto → Cardinality
described_cardinality x = labelled x.part.item.label

-- proto2 where the file says nothing
abbrev pub described_syntax : FileDescriptorProto → Syntax
described_syntax f = if is_proto3 f then Proto3 else Proto2
