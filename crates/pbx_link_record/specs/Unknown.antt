-- The unknown records of descriptor records, as the encoding of such a record gives them back (Protocol Buffers "Encoding": Field Order;
-- "Language Guide (proto 3)": Unknown Fields).
use Rattle.std.specs.Prelude.{ℕ, List, [], ◌∷◌, filter, Bool, true, not, ◌&&◌, nat_lt}
use Rattle.pbx_wire.specs.Text.{is_numbered}
use Rattle.pbx_wire.specs.declared.rec.Rec.{Rec}
use Rattle.pbx_content.specs.declared.shape.FieldShape.{FieldShape}
use Rattle.pbx_content.specs.Records.{number_of, sorted}
use Rattle.pbx_content.specs.Shape.{is_kept}
use Rattle.pbx_desc_shapes.specs.DescriptorShape.{file_fields, message_fields, field_fields, extension_range_fields, reserved_range_fields, oneof_fields}
use Rattle.pbx_desc_shapes.specs.DescriptorShape.{enum_fields, enum_reserved_range_fields, enum_value_fields, service_fields, method_fields}
use Rattle.pbx_desc_shapes.specs.DescriptorShape.{source_code_info_fields, location_fields}
use Rattle.pbx_link_record.specs.declared.unknown.RecordType.{RecordType}
use Rattle.pbx_link_record.specs.declared.unknown.RecordType.TheVariants as types

-- the records that may be written and are read as none of the fields, in their order
unfoldable pub unread : List FieldShape → List Rec → List Rec
unread gs rs = filter (λ r. is_numbered r && is_kept gs r) rs

-- those by ascending number
unfoldable pub settled_unknown : List FieldShape → List Rec → List Rec
settled_unknown gs rs = sorted (unread gs rs)

-- the fields of each type of descriptor records
abbrev pub fields_of : RecordType → List FieldShape
fields_of types.File = file_fields
fields_of types.Message = message_fields
fields_of types.Field = field_fields
fields_of types.ExtensionRange = extension_range_fields
fields_of types.ReservedRange = reserved_range_fields
fields_of types.Oneof = oneof_fields
fields_of types.Enum = enum_fields
fields_of types.EnumReservedRange = enum_reserved_range_fields
fields_of types.EnumValue = enum_value_fields
fields_of types.Service = service_fields
fields_of types.Method = method_fields
fields_of types.SourceCodeInfo = source_code_info_fields
fields_of types.Location = location_fields

-- no number is below n, nor below the one before it
abbrev pub ascend : ℕ → List Rec → Bool
ascend n [] = true
ascend n (r ∷ rs) = not (nat_lt (number_of r) n) && ascend (number_of r) rs
