-- What a shape says of its message types, their fields and its enums.
use Rattle.std.specs.Prelude.{ℕ, zero, suc, ℤ, pos, List, [], ◌∷◌, Bool, true, false, not, ◌&&◌, ◌==◌, nat_lt, Option, Some, None, codes, if◌then◌else◌}
use Rattle.pbx_wire.specs.declared.rec.Rec.{Rec}
use Rattle.pbx_content.specs.declared.shape.Kind.{Kind}
use Rattle.pbx_content.specs.declared.shape.Kind.TheVariants as kind
use Rattle.pbx_content.specs.declared.shape.Cardinality.TheVariants.{Singular}
use Rattle.pbx_content.specs.declared.shape.Shape.{Shape}
use Rattle.pbx_content.specs.declared.shape.MessageShape.{MessageShape}
use Rattle.pbx_content.specs.declared.shape.EnumShape.{EnumShape}
use Rattle.pbx_content.specs.declared.shape.EnumValueShape.{EnumValueShape}
use Rattle.pbx_content.specs.declared.shape.FieldShape.{FieldShape}
use Rattle.pbx_content.specs.Records.{number_of, any}

-- ---- types by their places

-- the fields of the message type at a place, in declared order
abbrev pub declared_at : List MessageShape → ℕ → List FieldShape
declared_at [] t = []
declared_at (m ∷ ms) zero = m.fields
declared_at (m ∷ ms) (suc t) = declared_at ms t

-- the fields and then the extensions of a type, in declared order; a place outside the shape has none
abbrev pub declared_of : Shape → ℕ → List FieldShape
declared_of shape t = declared_at shape.messages t

-- the fields with this one before the first of no smaller number
abbrev pub inserted : FieldShape → List FieldShape → List FieldShape
inserted f [] = f ∷ []
inserted f (g ∷ gs) = if nat_lt g.number f.number then g ∷ inserted f gs else f ∷ g ∷ gs

-- the fields by ascending number
abbrev pub by_number : List FieldShape → List FieldShape
by_number [] = []
by_number (f ∷ fs) = inserted f (by_number fs)

-- the fields and extensions of a type by ascending number
abbrev pub fields_of : Shape → ℕ → List FieldShape
fields_of shape t = by_number (declared_of shape t)

-- whether the order of kept records of different numbers is a part of a content of the type at the place, as it is of options
abbrev pub keeps_order_at : List MessageShape → ℕ → Bool
keeps_order_at [] t = false
keeps_order_at (m ∷ ms) zero = m.keeps_order
keeps_order_at (m ∷ ms) (suc t) = keeps_order_at ms t

-- the same of a type; of a place outside the shape it is not
abbrev pub keeps_order_of : Shape → ℕ → Bool
keeps_order_of shape t = keeps_order_at shape.messages t

-- the values of the enum at a place, in declared order
abbrev pub enum_values_at : List EnumShape → ℕ → List EnumValueShape
enum_values_at [] e = []
enum_values_at (x ∷ xs) zero = x.values
enum_values_at (x ∷ xs) (suc e) = enum_values_at xs e

-- the values of an enum; a place outside the shape has none
abbrev pub enum_values_of : Shape → ℕ → List EnumValueShape
enum_values_of shape e = enum_values_at shape.enums e

-- the number of the first of these values, and 0 where there is none
abbrev pub first_of : List EnumValueShape → ℤ
first_of [] = pos 0
first_of (v ∷ vs) = v.number

-- the number of an enum's first value, which is its default (Protocol Buffers "Language Guide (proto 3)": Enumerations)
abbrev pub first_number : Shape → ℕ → ℤ
first_number shape e = first_of (enum_values_of shape e)

-- ---- fields

-- the field of a number
abbrev pub field_of : ℕ → List FieldShape → Option FieldShape
field_of n [] = None
field_of n (f ∷ fs) = if n == f.number then Some f else field_of n fs

-- a field of at most one value, with presence
abbrev pub entry_field : ℕ → List ℕ → Kind → FieldShape
entry_field n name k = record {
  number = n;
  name = name;
  json_name = name;
  is_extension = false;
  kind = k;
  cardinality = Singular;
  presence = true;
  oneof = None;
  packed = false;
  default = None;
  entry = None;
}

-- the fields of an entry of a map whose keys and values are of these kinds (Protocol Buffers "Encoding": Maps)
abbrev pub entry_fields : Kind → Kind → List FieldShape
entry_fields key value = entry_field 1 (codes "key") key ∷ entry_field 2 (codes "value") value ∷ []

-- ---- kinds

-- a kind whose records are kept as they stand: floats are not read
abbrev pub is_float : Kind → Bool
is_float kind.Double = true
is_float kind.Float = true
is_float _ = false

-- kinds that keys of maps may have: integers, bool and string (Protocol Buffers "Language Guide (proto 3)": Maps)
abbrev pub is_key_kind : Kind → Bool
is_key_kind kind.Double = false
is_key_kind kind.Float = false
is_key_kind kind.Bytes = false
is_key_kind (kind.Message t) = false
is_key_kind (kind.Enum e) = false
is_key_kind _ = true

-- how a value stands behind its key (Protocol Buffers "Encoding": Message Structure)
pub data Form : Type 0 where
  -- wire type 0
  as_varint : Form
  -- wire type 5
  as_four : Form
  -- wire type 1
  as_eight : Form
  -- wire type 2
  as_payload : Form

-- the form of a kind (Protocol Buffers "Encoding": Message Structure)
abbrev pub form_of : Kind → Form
form_of kind.Double = as_eight
form_of kind.Float = as_four
form_of kind.Fixed32 = as_four
form_of kind.Sfixed32 = as_four
form_of kind.Fixed64 = as_eight
form_of kind.Sfixed64 = as_eight
form_of kind.String = as_payload
form_of kind.Bytes = as_payload
form_of (kind.Message t) = as_payload
form_of _ = as_varint

-- the form is a payload
abbrev pub is_payload : Form → Bool
is_payload as_payload = true
is_payload _ = false

-- kinds whose lists may be one record: numbers, truth values and enums (Protocol Buffers "Encoding": Packed Repeated Fields)
abbrev pub is_packable : Kind → Bool
is_packable k = not (is_payload (form_of k))

-- ---- records of fields

-- A record is read as this field. Of a float, a list of floats and a map with float values none is.
abbrev pub is_read_as : Rec → FieldShape → Bool
is_read_as r f = number_of r == f.number && not (is_float f.kind)

-- a record of no field, or of a float field, is kept as it is (Protocol Buffers "Language Guide (proto 3)": Unknown Fields)
abbrev pub is_kept : List FieldShape → Rec → Bool
is_kept fs r = not (any (is_read_as r) fs)

-- both are members of one oneof (Protocol Buffers "Language Guide (proto 3)": Oneof)
abbrev pub same_oneof : Option ℕ → Option ℕ → Bool
same_oneof (Some a) (Some b) = a == b
same_oneof _ _ = false

-- g is another member of the oneof of f
abbrev pub is_other : FieldShape → FieldShape → Bool
is_other f g = same_oneof f.oneof g.oneof && not (f.number == g.number)

-- a record of another member of the field's oneof (Protocol Buffers "Language Guide (proto 3)": Oneof Features)
abbrev pub is_rival : List FieldShape → FieldShape → Rec → Bool
is_rival fs f r = any (λ g. is_other f g && is_read_as r g) fs
