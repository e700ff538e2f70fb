-- What rows of the table stand for.
use Rattle.std.specs.Prelude.{map, false}
use Rattle.pbx_content.specs.declared.shape.FieldShape.{FieldShape}
use Rattle.pbx_content.specs.declared.shape.MessageShape.{MessageShape}
use Rattle.pbx_desc_shapes.specs.declared.descriptor_table.Form.{Form}
use Rattle.pbx_desc_shapes.specs.declared.descriptor_table.Form.TheVariants.{One, Many, Packed}
use Rattle.pbx_desc_shapes.specs.declared.descriptor_table.FieldRow.{FieldRow}
use Rattle.pbx_desc_shapes.specs.declared.descriptor_table.TypeRow.{TypeRow}
use Rattle.pbx_desc_shapes.specs.DescriptorShape.{one_field, list_field, packed_field}

-- the field of a row with this form
abbrev pub field_of_form : Form → FieldRow → FieldShape
field_of_form One r = one_field r.0 r.1.now r.2.now r.3
field_of_form Many r = list_field r.0 r.1.now r.2.now r.3
field_of_form Packed r = packed_field r.0 r.1.now r.2.now r.3

-- the field of a row
abbrev pub row_field : FieldRow → FieldShape
row_field r = field_of_form r.4 r

-- the type of a row
abbrev pub row_type : TypeRow → MessageShape
row_type r = record { full_name = r.0.now; fields = map row_field r.1.now; keeps_order = r.2; proto3 = false }
