-- The fields of the message types that JSON has a form of its own for (google/protobuf/any.proto, duration.proto, empty.proto, field_mask.proto,
-- struct.proto, timestamp.proto, wrappers.proto).
use Rattle.std.specs.Prelude.{ℕ, List, [], ◌∷◌, ◌++◌, codes, Option, Some, None, find}
use Rattle.std.specs.Str.{bytes_eq}
use Rattle.pbx_content.specs.declared.shape.Kind.{Kind}
use Rattle.pbx_content.specs.declared.shape.Kind.TheVariants as kind
use Rattle.pbx_content.specs.declared.shape.Cardinality.{Cardinality}
use Rattle.pbx_content.specs.declared.shape.Cardinality.TheVariants.{Singular, Repeated, Map}
use Rattle.pbx_wkt_types.specs.declared.form.Form.{Form}
use Rattle.pbx_wkt_types.specs.declared.form.Form.TheVariants as forms

-- what one value of a field is: a scalar, or the message or enum of a full name
pub data Sort : Type 0 where
  scalar : Kind → Sort
  message : List ℕ → Sort
  enum : List ℕ → Sort

-- a field as its file declares it
pub record Row : Type 0 where
  pub number : ℕ
  pub name : List ℕ
  pub json_name : List ℕ
  pub sort : Sort
  pub cardinality : Cardinality
  pub oneof : Option ℕ

-- a type: its full name, its form, and its fields
pub record Known : Type 0 where
  pub name : List ℕ
  pub form : Form
  pub rows : List Row

-- a name in the package of the well-known types
abbrev pub google : List ℕ → List ℕ
google name = codes "google.protobuf." ++ name

-- a singular field whose JSON name is its name
abbrev pub plain : ℕ → List ℕ → Sort → Row
plain n name sort = record { number = n; name = name; json_name = name; sort = sort; cardinality = Singular; oneof = None }

-- the same with a JSON name of its own
abbrev pub named : ℕ → List ℕ → List ℕ → Sort → Row
named n name json sort = record { number = n; name = name; json_name = json; sort = sort; cardinality = Singular; oneof = None }

-- a field of several values
abbrev pub several : ℕ → List ℕ → Sort → Cardinality → Row
several n name sort cardinality = record { number = n; name = name; json_name = name; sort = sort; cardinality = cardinality; oneof = None }

-- a member of the first oneof
abbrev pub member : ℕ → List ℕ → List ℕ → Sort → Row
member n name json sort = record { number = n; name = name; json_name = json; sort = sort; cardinality = Singular; oneof = Some 0 }

-- the fields of `Any`
abbrev pub any_rows : List Row
any_rows = named 1 (codes "type_url") (codes "typeUrl") (scalar kind.String) ∷ plain 2 (codes "value") (scalar kind.Bytes) ∷ []

-- the fields of `Timestamp` and `Duration`
abbrev pub seconds_and_nanos : List Row
seconds_and_nanos = plain 1 (codes "seconds") (scalar kind.Int64) ∷ plain 2 (codes "nanos") (scalar kind.Int32) ∷ []

-- the field of `Struct`
abbrev pub struct_rows : List Row
struct_rows = several 1 (codes "fields") (message (google (codes "Value"))) (Map kind.String) ∷ []

-- the field of a wrapper
abbrev pub of_value : Kind → List Row
of_value k = plain 1 (codes "value") (scalar k) ∷ []

-- the field of `FieldMask`
abbrev pub mask_rows : List Row
mask_rows = several 1 (codes "paths") (scalar kind.String) Repeated ∷ []

-- the field of `ListValue`
abbrev pub list_rows : List Row
list_rows = several 1 (codes "values") (message (google (codes "Value"))) Repeated ∷ []

-- the fields of `Value`
abbrev pub value_rows : List Row
value_rows =
    member 1 (codes "null_value") (codes "nullValue") (enum (google (codes "NullValue")))
    ∷ member 2 (codes "number_value") (codes "numberValue") (scalar kind.Double)
    ∷ member 3 (codes "string_value") (codes "stringValue") (scalar kind.String)
    ∷ member 4 (codes "bool_value") (codes "boolValue") (scalar kind.Bool)
    ∷ member 5 (codes "struct_value") (codes "structValue") (message (google (codes "Struct")))
    ∷ member 6 (codes "list_value") (codes "listValue") (message (google (codes "ListValue")))
    ∷ []

-- a type of the package
abbrev pub known : List ℕ → Form → List Row → Known
known name form rows = record { name = google name; form = form; rows = rows }

-- the seventeen types
abbrev pub known_types : List Known
known_types =
    known (codes "Any") forms.Any any_rows
    ∷ known (codes "Timestamp") forms.Timestamp seconds_and_nanos
    ∷ known (codes "Duration") forms.Duration seconds_and_nanos
    ∷ known (codes "Struct") forms.Struct struct_rows
    ∷ known (codes "FloatValue") forms.FloatWrapper (of_value kind.Float)
    ∷ known (codes "DoubleValue") forms.FloatWrapper (of_value kind.Double)
    ∷ known (codes "Int32Value") forms.Wrapper (of_value kind.Int32)
    ∷ known (codes "Int64Value") forms.Wrapper (of_value kind.Int64)
    ∷ known (codes "UInt32Value") forms.Wrapper (of_value kind.Uint32)
    ∷ known (codes "UInt64Value") forms.Wrapper (of_value kind.Uint64)
    ∷ known (codes "BoolValue") forms.Wrapper (of_value kind.Bool)
    ∷ known (codes "StringValue") forms.Wrapper (of_value kind.String)
    ∷ known (codes "BytesValue") forms.Wrapper (of_value kind.Bytes)
    ∷ known (codes "FieldMask") forms.FieldMask mask_rows
    ∷ known (codes "ListValue") forms.ListValue list_rows
    ∷ known (codes "Value") forms.Value value_rows
    ∷ known (codes "Empty") forms.Empty []
    ∷ []

-- the full name of the entries of a `Struct`
abbrev pub struct_entry_name : List ℕ
struct_entry_name = google (codes "Struct.FieldsEntry")

-- their fields
abbrev pub struct_entry : List Row
struct_entry = plain 1 (codes "key") (scalar kind.String) ∷ plain 2 (codes "value") (message (google (codes "Value"))) ∷ []

-- the type of a full name, if it is one of the seventeen
unfoldable pub known_of : List ℕ → Option Known
known_of name = find (λ k. bytes_eq k.name name) known_types
