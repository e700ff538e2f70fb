-- What rows of the table stand for.
use Rattle.std.specs.Prelude.{map, Bool, true, false, None, option_map}
use Rattle.pbx_content.specs.declared.shape.Cardinality.{Cardinality}
use Rattle.pbx_content.specs.declared.shape.Cardinality.TheVariants.{Singular, Repeated}
use Rattle.pbx_content.specs.declared.shape.FieldShape.{FieldShape}
use Rattle.pbx_content.specs.declared.shape.MessageShape.{MessageShape}
use Rattle.pbx_content.specs.declared.shape.EnumValueShape.{EnumValueShape}
use Rattle.pbx_content.specs.declared.shape.EnumShape.{EnumShape}
use Rattle.pbx_desc_decodable.specs.declared.table.Form.{Form}
use Rattle.pbx_desc_decodable.specs.declared.table.Form.TheVariants.{One, Many, Packed}
use Rattle.pbx_desc_decodable.specs.declared.table.FieldRow.{FieldRow}
use Rattle.pbx_desc_decodable.specs.declared.table.TypeRow.{TypeRow}
use Rattle.pbx_desc_decodable.specs.declared.table.ValueRow.{ValueRow}
use Rattle.pbx_desc_decodable.specs.declared.table.EnumRow.{EnumRow}

-- how many values
abbrev pub form_cardinality : Form → Cardinality
form_cardinality One = Singular
form_cardinality Many = Repeated
form_cardinality Packed = Repeated

-- a field of at most one value has presence
abbrev pub form_presence : Form → Bool
form_presence One = true
form_presence Many = false
form_presence Packed = false

-- one record for all values
abbrev pub form_packed : Form → Bool
form_packed One = false
form_packed Many = false
form_packed Packed = true

-- the field of a row
abbrev pub row_field : FieldRow → FieldShape
row_field r = record {
  number = r.0;
  name = r.1.now;
  json_name = r.2.now;
  is_extension = false;
  kind = r.3;
  cardinality = form_cardinality r.4;
  presence = form_presence r.4;
  oneof = None;
  packed = form_packed r.4;
  default = option_map (λ text. text.now) r.5;
  entry = None;
}

-- the type of a row
abbrev pub row_type : TypeRow → MessageShape
row_type r = record { full_name = r.0.now; fields = map row_field r.1.now; keeps_order = false; proto3 = false }

-- the value of a row
abbrev pub row_value : ValueRow → EnumValueShape
row_value r = record { name = r.0.now; number = r.1 }

-- the enum of a row
abbrev pub row_enum : EnumRow → EnumShape
row_enum r = record { full_name = r.0.now; values = map row_value r.1.now }
