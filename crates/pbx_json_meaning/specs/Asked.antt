-- What is asked of a tree: what it is to be read as (ProtoJSON Format: null, and the table of types).
use Rattle.std.specs.Prelude.{ℕ, Bool, true, false, if◌then◌else◌, codes}
use Rattle.std.specs.Str.{bytes_eq}
use Rattle.serde_json.specs.Data.{Data, null}
use Rattle.pbx_content.specs.declared.shape.Kind.{Kind}
use Rattle.pbx_content.specs.declared.shape.Kind.TheVariants as kind
use Rattle.pbx_content.specs.declared.shape.Cardinality.{Cardinality}
use Rattle.pbx_content.specs.declared.shape.Cardinality.TheVariants.{Singular, Repeated, Map}
use Rattle.pbx_content.specs.declared.shape.Shape.{Shape}
use Rattle.pbx_content.specs.declared.shape.FieldShape.{FieldShape}
use Rattle.pbx_wkt_types.specs.Types.{message_name}
use Rattle.pbx_json_meaning.specs.Scalars.{is_null_value}

-- all that a field has, or one value: an element of a list, the value of an entry, or a whole message
pub data Asked : Type 0 where
  field : FieldShape → Asked
  one : Kind → Asked

-- what is asked of a whole tree: a message of the type at a place of the shape
abbrev pub root : ℕ → Asked
root t = one (kind.Message t)

-- a list or a map has no presence, and a message always has (Protocol Buffers "Application Note: Field Presence")
abbrev pub presence_by : Bool → Kind → Cardinality → Bool
presence_by presence (kind.Message t) Singular = true
presence_by presence k Singular = presence
presence_by presence k _ = false

-- the field's default is told apart from no value
abbrev pub has_presence : FieldShape → Bool
has_presence f = presence_by f.presence f.kind f.cardinality

-- null is a value of the kind: of `google.protobuf.Value` and of the enum `NullValue` (ProtoJSON Format: Value, NullValue)
abbrev pub reads_null : Shape → Kind → Bool
reads_null shape (kind.Message t) = bytes_eq (message_name shape t) (codes "google.protobuf.Value")
reads_null shape (kind.Enum e) = is_null_value shape e
reads_null shape _ = false

-- what is to be read: nothing, one value, a list of values, or entries with keys
pub data Target : Type 0 where
  nothing : Target
  single : Kind → Target
  list : Kind → Target
  map : Kind → Kind → Target

-- what a tree other than null is to be read as, by how many values the field has
abbrev pub target_by : FieldShape → Cardinality → Target
target_by f Singular = single f.kind
target_by f Repeated = list f.kind
target_by f (Map k) = map k f.kind

-- null leaves a field absent, unless it is a value of a singular field's kind
abbrev pub null_target : Shape → FieldShape → Cardinality → Target
null_target shape f Singular = if reads_null shape f.kind then single f.kind else nothing
null_target shape f _ = nothing

-- what a tree is to be read as for a field
abbrev pub field_target : Shape → Data → FieldShape → Target
field_target shape null f = null_target shape f f.cardinality
field_target shape _ f = target_by f f.cardinality

-- what is to be read of a tree
abbrev pub target : Shape → Data → Asked → Target
target shape d (field f) = field_target shape d f
target shape d (one k) = single k
