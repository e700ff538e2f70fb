-- What rows of the table stand for.
use Rattle.std.specs.Prelude.{map, true, false}
use Rattle.pbx_content.specs.declared.shape.FieldShape.{FieldShape}
use Rattle.pbx_content.specs.declared.shape.MessageShape.{MessageShape}
use Rattle.pbx_desc_shapes.specs.declared.well_known_table.FieldRow.{FieldRow}
use Rattle.pbx_desc_shapes.specs.declared.well_known_table.TypeRow.{TypeRow}
use Rattle.pbx_desc_shapes.specs.TypesShape.{field_shape}

-- the field of a row
abbrev pub row_field : FieldRow → FieldShape
row_field r = field_shape r.0 r.1.now r.2.now r.3 r.4

-- the type of a row
abbrev pub row_type : TypeRow → MessageShape
row_type r = record { full_name = r.0.now; fields = map row_field r.1.now; keeps_order = false; proto3 = true }
