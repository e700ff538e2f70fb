-- What of a field reading asks for.
use Rattle.std.specs.Prelude.{List, [], false, None}
use Rattle.pbx_content.specs.declared.shape.FieldShape.{FieldShape}
use Rattle.pbx_content.specs.declared.shape.Shape.{Shape}
use Rattle.pbx_content.specs.Shape.{fields_of, entry_fields, Form, as_varint, as_four, as_eight, as_payload}
use Rattle.pbx_content_codec.specs.declared.fields.FieldView.{FieldView}
use Rattle.pbx_content_codec.specs.declared.fields.Owner.{Owner}
use Rattle.pbx_content_codec.specs.declared.fields.Owner.TheVariants as owners
use Rattle.pbx_content_codec.specs.declared.fields.Form as rust_form
use Rattle.pbx_content_codec.specs.declared.fields.Form.TheVariants as forms

-- what reading asks for
abbrev pub view_of : FieldShape → FieldView
view_of f = record { number = f.number; kind = f.kind; cardinality = f.cardinality; presence = f.presence; oneof = f.oneof }

-- a field with this to be asked for
abbrev pub field_like : FieldView → FieldShape
field_like v = record {
  number = v.number;
  name = [];
  json_name = [];
  is_extension = false;
  kind = v.kind;
  cardinality = v.cardinality;
  presence = v.presence;
  oneof = v.oneof;
  packed = false;
  default = None;
  entry = None;
}

-- the fields of a message type, or of an entry of a map
abbrev pub fields_at : Shape → Owner → List FieldShape
fields_at shape (owners.Type t) = fields_of shape t
fields_at shape (owners.Entry key value) = entry_fields key value

-- the form of the definitions
abbrev pub form_in : rust_form.Form → Form
form_in forms.Varint = as_varint
form_in forms.Four = as_four
form_in forms.Eight = as_eight
form_in forms.Payload = as_payload
