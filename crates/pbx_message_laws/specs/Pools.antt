-- What holds of the messages of a pool and of their fields in its shape.
use Rattle.std.specs.Prelude.{◌≡◌, ◌⊎◌, ℕ, List, [], Bool, false, IsTrue, Some, Contains, find, slice_get, not, ◌&&◌, option_map}
use Rattle.std.specs.Int.{w32}
use Rattle.std.specs.Int.RustNames.{FitsSigned}
use Rattle.std.specs.Str.{is_utf8, bytes_eq}
use Rattle.pbx_content.specs.declared.shape.Kind.TheVariants as kind
use Rattle.pbx_content.specs.declared.shape.FieldShape.{FieldShape}
use Rattle.pbx_content.specs.declared.shape.Shape.{Shape}
use Rattle.pbx_content.specs.Shape.{declared_of, fields_of, field_of, is_float}
use Rattle.pbx_content.specs.Sound.{AreProper, IsSound}
use Rattle.pbx_content.specs.Content.{Content, fields, get}
use Rattle.pbx_desc_records.specs.declared.field.FieldDescriptorProto.{FieldDescriptorProto}
use Rattle.pbx_desc_records.specs.declared.message.DescriptorProto.{DescriptorProto}
use Rattle.pbx_link_definitions.specs.Definitions.{message_name}
use Rattle.pbx_link_rules.specs.Pool.{ArePooled}
use Rattle.pbx_link_meaning.specs.Descriptors.{Described, IsSame, all_messages, fields_of_message, extensions_of_message, number_of_field, with_name}
use Rattle.pbx_link_meaning.specs.Shapes.{message_place, field_shape, extension_shape, message_shape, shape_of}
use Rattle.pbx_message_laws.specs.Defaults.{enum_default, default_of, value_or_default}
use Rattle.pbx_message_laws.specs.Settable.{IsSettable}
use Rattle.pbx_link_meaning.specs.Shapes.{place_of}

-- ---- fields of a type by number and in declared order

-- A declared field is the one of its number.
abbrev pub DeclaredIsListed : Type 0
DeclaredIsListed =
    (shape : Shape) (t : ℕ) (f : FieldShape) → AreProper (declared_of shape t) → Contains (declared_of shape t) f
    → field_of f.number (fields_of shape t) ≡ Some f

-- The field of a number is declared, and has the number.
abbrev pub ListedIsDeclared : Type 0
ListedIsDeclared =
    (shape : Shape) (t n : ℕ) (f : FieldShape) → field_of n (fields_of shape t) ≡ Some f → Contains (declared_of shape t) f × (f.number ≡ n)

-- So what a search among the declared fields finds is the field of its number.
abbrev pub FoundIsListed : Type 0
FoundIsListed =
    (shape : Shape) (t : ℕ) (test : FieldShape → Bool) (f : FieldShape) → AreProper (declared_of shape t) → find test (declared_of shape t) ≡ Some f
    → field_of f.number (fields_of shape t) ≡ Some f

-- ---- messages of a pool

-- it is a message of its pool, whose records are linked
pub record IsPooled (d : Described DescriptorProto) : Type 0 where
  pub pooled : ArePooled [] d.pool
  pub within : Contains (all_messages d.pool) d

-- it stands at its place, alone with its full name, and its fields and extensions are those of the type at the place
pub record IsPlaced (d : Described DescriptorProto) : Type 0 where
  pub found : message_place d.pool (message_name d.part) ≡ Some (place_of d)
  pub at : slice_get (all_messages d.pool) (place_of d) ≡ Some d
  pub declared : declared_of (shape_of d.pool) (place_of d) ≡ (message_shape d).fields

-- A message of a pool stands at its place.
abbrev pub MessageIsPlaced : Type 0
MessageIsPlaced = (d : Described DescriptorProto) → IsPooled d → IsPlaced d

-- Messages of pools that are the same are equal.
abbrev pub SameIsEqual : Type 0
SameIsEqual = (d e : Described DescriptorProto) → IsPooled d → IsPooled e → IsSame d e → d ≡ e

-- Messages of one pool with one place are equal.
abbrev pub PlaceIsOwn : Type 0
PlaceIsOwn = (d e : Described DescriptorProto) → IsPooled d → IsPooled e → d.pool ≡ e.pool → place_of d ≡ place_of e → d ≡ e

-- A field of a message is that of its number.
abbrev pub FieldIsListed : Type 0
FieldIsListed =
    (d : Described DescriptorProto) (x : Described FieldDescriptorProto) → IsPooled d → Contains (fields_of_message d) x
    → field_of (number_of_field x) (fields_of (shape_of d.pool) (place_of d)) ≡ Some (field_shape x)

-- So is an extension.
abbrev pub ExtensionIsListed : Type 0
ExtensionIsListed =
    (d : Described DescriptorProto) (x : Described FieldDescriptorProto) → IsPooled d → Contains (extensions_of_message d) x
    → field_of (number_of_field x) (fields_of (shape_of d.pool) (place_of d)) ≡ Some (extension_shape x)

-- A message that is the same has the field too,
abbrev pub SameHasField : Type 0
SameHasField =
    (d e : Described DescriptorProto) (x : Described FieldDescriptorProto) → IsPooled d → IsPooled e → IsSame d e → Contains (fields_of_message e) x
    → field_of (number_of_field x) (fields_of (shape_of d.pool) (place_of d)) ≡ Some (field_shape x)

-- and the extension.
abbrev pub SameHasExtension : Type 0
SameHasExtension =
    (d e : Described DescriptorProto) (x : Described FieldDescriptorProto) → IsPooled d → IsPooled e → IsSame d e → Contains (extensions_of_message e) x
    → field_of (number_of_field x) (fields_of (shape_of d.pool) (place_of d)) ≡ Some (extension_shape x)

-- a descriptor among these has the number and the shape
pub record IsShapeOf (shape_by : Described FieldDescriptorProto → FieldShape) (xs : List (Described FieldDescriptorProto)) (n : ℕ) (f : FieldShape)
    : Type 0 where
  pub descriptor : Described FieldDescriptorProto
  pub within : Contains xs descriptor
  pub number : number_of_field descriptor ≡ n
  pub shape : shape_by descriptor ≡ f

-- What a number stands for is a field or an extension of the message.
abbrev pub ListedIsField : Type 0
ListedIsField =
    (d : Described DescriptorProto) (n : ℕ) (f : FieldShape) → IsPooled d → field_of n (fields_of (shape_of d.pool) (place_of d)) ≡ Some f
    → IsShapeOf field_shape (fields_of_message d) n f ⊎ IsShapeOf extension_shape (extensions_of_message d) n f

-- The first declared field of a name, extensions aside, is that of the descriptor of the name.
abbrev pub NamedIsField : Type 0
NamedIsField =
    (d : Described DescriptorProto) (name : List ℕ) → IsPooled d
    → find (λ (g : FieldShape). not g.is_extension && bytes_eq g.name name) (declared_of (shape_of d.pool) (place_of d))
    ≡ option_map field_shape (with_name (fields_of_message d) name)

-- ---- defaults

-- The field is no float, a default that is a number of an enum has 32 bits, and one that is a text is UTF-8, as the types of a shape's parts say.
pub record IsReadable (shape : Shape) (f : FieldShape) : Type 0 where
  pub plain : is_float f.kind ≡ false
  pub number : (e : ℕ) → f.kind ≡ kind.Enum e → FitsSigned w32 (enum_default shape e f.default)
  pub text : (t : List ℕ) → f.kind ≡ kind.String → f.default ≡ Some t → IsTrue (is_utf8 t)

-- A field of a message of a pool may be set to its default,
abbrev pub DefaultIsSettable : Type 0
DefaultIsSettable =
    (d : Described DescriptorProto) (n : ℕ) (f : FieldShape) → IsPooled d → field_of n (fields_of (shape_of d.pool) (place_of d)) ≡ Some f
    → IsReadable (shape_of d.pool) f → IsSettable (shape_of d.pool) f (default_of (shape_of d.pool) f)

-- and to the value that is read of it, which is its default where it has none.
abbrev pub ReadIsSettable : Type 0
ReadIsSettable =
    (d : Described DescriptorProto) (n : ℕ) (f : FieldShape) (c : Content) → IsPooled d → IsSound (shape_of d.pool) (place_of d) c
    → field_of n (fields_of (shape_of d.pool) (place_of d)) ≡ Some f → IsReadable (shape_of d.pool) f
    → IsSettable (shape_of d.pool) f (value_or_default (shape_of d.pool) f (get f.number (fields c)))
