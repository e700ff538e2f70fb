-- Worked rows: types of a well-known name, as declared and otherwise, as closed equations.
use Rattle.std.proofs.Common.{◌≡◌, ℕ, List, [], ◌∷◌, true, false, codes, Option, Some, None, is_some, refl}
use Rattle.pbx_content.specs.declared.shape.Kind.{Kind}
use Rattle.pbx_content.specs.declared.shape.Kind.TheVariants as kind
use Rattle.pbx_content.specs.declared.shape.Cardinality.{Cardinality}
use Rattle.pbx_content.specs.declared.shape.Cardinality.TheVariants.{Singular, Repeated, Map}
use Rattle.pbx_content.specs.declared.shape.FieldShape.{FieldShape}
use Rattle.pbx_content.specs.declared.shape.MessageShape.{MessageShape}
use Rattle.pbx_content.specs.declared.shape.Shape.{Shape}
use Rattle.pbx_wkt_types.specs.Known.{google, known_of}
use Rattle.pbx_wkt_types.specs.Shapes.{is_as_declared, form_of, meets_shape}
use Rattle.pbx_wkt_types.specs.declared.form.Form.TheVariants as forms

-- a field of the number, the name, the key in JSON, the kind, the cardinality, the oneof and the entry
own : ℕ → List ℕ → List ℕ → Kind → Cardinality → Option ℕ → Option ℕ → FieldShape
own n name json k c oneof entry = record {
  number = n;
  name = name;
  json_name = json;
  is_extension = false;
  kind = k;
  cardinality = c;
  presence = is_some oneof;
  oneof = oneof;
  packed = false;
  default = None;
  entry = entry;
}

abbrev one : ℕ → List ℕ → Kind → FieldShape
one n name k = own n name name k Singular None None

abbrev seconds : FieldShape
seconds = one 1 (codes "seconds") kind.Int64

abbrev nanos : FieldShape
nanos = one 2 (codes "nanos") kind.Int32

-- a type of a proto3 file
abbrev type : List ℕ → List FieldShape → MessageShape
type name fields = record { full_name = name; fields = fields; keeps_order = false; proto3 = true }

abbrev alone : MessageShape → Shape
alone m = record { messages = m ∷ []; enums = [] }

row_timestamp : form_of (alone (type (google (codes "Timestamp")) (seconds ∷ nanos ∷ []))) 0 ≡ forms.Timestamp
unfolding form_of known_of is_as_declared own
row_timestamp = refl

-- the order in which fields are declared is free
row_duration : form_of (alone (type (google (codes "Duration")) (nanos ∷ seconds ∷ []))) 0 ≡ forms.Duration
unfolding form_of known_of is_as_declared own
row_duration = refl

row_meets : meets_shape (alone (type (google (codes "Duration")) (nanos ∷ seconds ∷ []))) 0 ≡ true
unfolding form_of known_of is_as_declared own
row_meets = refl

row_field_missing : form_of (alone (type (google (codes "Timestamp")) (seconds ∷ []))) 0 ≡ forms.Misshapen
unfolding form_of known_of is_as_declared own
row_field_missing = refl

row_meets_not : meets_shape (alone (type (google (codes "Timestamp")) (seconds ∷ []))) 0 ≡ false
unfolding form_of known_of is_as_declared own
row_meets_not = refl

row_field_more : form_of (alone (type (google (codes "Timestamp")) (seconds ∷ nanos ∷ one 3 (codes "zone") kind.String ∷ []))) 0 ≡ forms.Misshapen
unfolding form_of known_of is_as_declared own
row_field_more = refl

row_proto2 : form_of (alone (record { full_name = google (codes "Timestamp"); fields = seconds ∷ nanos ∷ []; keeps_order = false; proto3 = false })) 0 ≡ forms.Misshapen
unfolding form_of known_of is_as_declared own
row_proto2 = refl

-- an `optional` field of proto3 is the only member of a oneof of its own
row_optional : form_of (alone (type (google (codes "Timestamp")) (seconds ∷ own 2 (codes "nanos") (codes "nanos") kind.Int32 Singular (Some 0) None ∷ []))) 0 ≡ forms.Misshapen
unfolding form_of known_of is_as_declared own
row_optional = refl

row_another_kind : form_of (alone (type (google (codes "Timestamp")) (seconds ∷ one 2 (codes "nanos") kind.Int64 ∷ []))) 0 ≡ forms.Misshapen
unfolding form_of known_of is_as_declared own
row_another_kind = refl

row_another_number : form_of (alone (type (google (codes "Timestamp")) (seconds ∷ one 3 (codes "nanos") kind.Int32 ∷ []))) 0 ≡ forms.Misshapen
unfolding form_of known_of is_as_declared own
row_another_number = refl

row_another_key : form_of (alone (type (google (codes "Timestamp")) (seconds ∷ own 2 (codes "nanos") (codes "n") kind.Int32 Singular None None ∷ []))) 0 ≡ forms.Misshapen
unfolding form_of known_of is_as_declared own
row_another_key = refl

row_empty : form_of (alone (type (google (codes "Empty")) [])) 0 ≡ forms.Empty
unfolding form_of known_of is_as_declared own
row_empty = refl

row_wrapper : form_of (alone (type (google (codes "UInt32Value")) (one 1 (codes "value") kind.Uint32 ∷ []))) 0 ≡ forms.Wrapper
unfolding form_of known_of is_as_declared own
row_wrapper = refl

row_another_wrapper : form_of (alone (type (google (codes "UInt32Value")) (one 1 (codes "value") kind.Fixed32 ∷ []))) 0 ≡ forms.Misshapen
unfolding form_of known_of is_as_declared own
row_another_wrapper = refl

row_other_name : form_of (alone (type (codes "my.Timestamp") (seconds ∷ []))) 0 ≡ forms.Fields
unfolding form_of known_of is_as_declared own
row_other_name = refl

row_outside : form_of (alone (type (google (codes "Empty")) [])) 1 ≡ forms.Fields
unfolding form_of known_of is_as_declared own
row_outside = refl

-- the types of google/protobuf/struct.proto, of which `Struct` has an entry of that name
member : ℕ → List ℕ → List ℕ → Kind → FieldShape
member n name json k = own n name json k Singular (Some 0) None

abbrev struct_file : List ℕ → Shape
struct_file entry = record {
  messages =
      type (google (codes "Struct")) (own 1 (codes "fields") (codes "fields") (kind.Message 2) (Map kind.String) None (Some 1) ∷ [])
      ∷ type entry (one 1 (codes "key") kind.String ∷ one 2 (codes "value") (kind.Message 2) ∷ [])
      ∷ type (google (codes "Value")) (
      member 1 (codes "null_value") (codes "nullValue") (kind.Enum 0)
      ∷ member 2 (codes "number_value") (codes "numberValue") kind.Double
      ∷ member 3 (codes "string_value") (codes "stringValue") kind.String
      ∷ member 4 (codes "bool_value") (codes "boolValue") kind.Bool
      ∷ member 5 (codes "struct_value") (codes "structValue") (kind.Message 0)
      ∷ member 6 (codes "list_value") (codes "listValue") (kind.Message 3)
      ∷ []
      )
      ∷ type (google (codes "ListValue")) (own 1 (codes "values") (codes "values") (kind.Message 2) Repeated None None ∷ [])
      ∷ [];
  enums = record { full_name = google (codes "NullValue"); values = [] } ∷ [];
}

abbrev as_declared : Shape
as_declared = struct_file (google (codes "Struct.FieldsEntry"))

row_struct : form_of as_declared 0 ≡ forms.Struct
unfolding form_of known_of is_as_declared own
row_struct = refl

row_another_entry : form_of (struct_file (google (codes "Struct.Entry"))) 0 ≡ forms.Misshapen
unfolding form_of known_of is_as_declared own
row_another_entry = refl

row_value : form_of as_declared 2 ≡ forms.Value
unfolding form_of known_of is_as_declared own member
row_value = refl

row_list_value : form_of as_declared 3 ≡ forms.ListValue
unfolding form_of known_of is_as_declared own
row_list_value = refl
