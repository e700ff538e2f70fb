-- What of a field reading asks for.
use Rattle.std.specs.Prelude.{List}
use Rattle.pbx_content.specs.declared.shape.FieldShape.{FieldShape}
use Rattle.pbx_content.specs.declared.shape.Shape.{Shape}
use Rattle.pbx_content.specs.Shape.{fields_of, entry_fields}
use Rattle.pbx_desc_decodable.specs.declared.fields.FieldView.{FieldView}
use Rattle.pbx_desc_decodable.specs.declared.fields.Owner.{Owner}
use Rattle.pbx_desc_decodable.specs.declared.fields.Owner.TheVariants as owners

-- what reading asks for
abbrev pub view_of : FieldShape → FieldView
view_of f = record { kind = f.kind; cardinality = f.cardinality }

-- the fields of a message type, or of an entry of a map
abbrev pub fields_at : Shape → Owner → List FieldShape
fields_at shape (owners.Type t) = fields_of shape t
fields_at shape (owners.Entry key value) = entry_fields key value
