-- Values as dynamic messages of a pool.
use Rattle.std.specs.Prelude.{◌≡◌, ℕ, List, Option, Some, None}
use Rattle.pbx_wire.specs.declared.error.DecodeError.{DecodeError}
use Rattle.pbx_content.specs.declared.shape.Shape.{Shape}
use Rattle.pbx_content.specs.Faults.{IsFaultOf, IsFirst}
use Rattle.pbx_content.specs.Meaning.{meaning_of}
use Rattle.pbx_desc_records.specs.declared.message.DescriptorProto.{DescriptorProto}
use Rattle.pbx_desc_records.specs.declared.file.FileDescriptorProto.{FileDescriptorProto}
use Rattle.pbx_link_meaning.specs.Descriptors.{Described, message_of_name}
use Rattle.pbx_link_meaning.specs.Shapes.{shape_of, place_of}
use Rattle.pbx_message.specs.declared.error.ReflectError.{ReflectError}
use Rattle.pbx_message.specs.declared.error.ReflectError.TheVariants as errors
use Rattle.pbx_message_dynamic.specs.Message.{Dynamic}
use Rattle.pbx_wkt_types.specs.Types.{message_name}

-- the type of a value: one of its own; else the pool's message of the full name that the type at the place has in the shape
abbrev pub reflected : Option (Described DescriptorProto) → Shape → ℕ → List FileDescriptorProto → Option (Described DescriptorProto)
reflected (Some own) shape t pool = Some own
reflected None shape t pool = message_of_name pool (message_name shape t)

-- a type of its own is the type at the place in the shape
abbrev pub IsOwn : Option (Described DescriptorProto) → Shape → ℕ → Type 0
IsOwn None shape t = Unit {0}
IsOwn (Some own) shape t = (shape ≡ shape_of own.pool) × (t ≡ place_of own)

-- the message type is there, and the message is what the bytes mean as one of it
abbrev pub IsReflected : Option (Described DescriptorProto) → List ℕ → Dynamic → Type 0
IsReflected None bytes m = ⊥
IsReflected (Some d) bytes m = (m.of ≡ d) × (meaning_of (shape_of d.pool) (place_of d) bytes ≡ Some m.content)

-- the first rule that the bytes break as a message of the type; want of memory is none
abbrev pub IsBroken : Option (Described DescriptorProto) → List ℕ → DecodeError → Type 0
IsBroken None bytes e = ⊥
IsBroken (Some d) bytes e = IsFirst (meaning_of (shape_of d.pool) (place_of d) bytes) (IsFaultOf (shape_of d.pool) (place_of d) bytes) e

-- why there is no dynamic message: the type is not there; or the bytes mean nothing as one of it; or memory ran out
abbrev pub IsNotReflected : Option (Described DescriptorProto) → List ℕ → ReflectError → Type 0
IsNotReflected d bytes errors.NotFound = d ≡ None
IsNotReflected d bytes (errors.Decode e) = IsBroken d bytes e
IsNotReflected d bytes errors.NoMemory = Unit {0}

-- values that have no type of their own, and are messages of the type of this full name
abbrev pub HasTypeName : {T : Type 0} → (T → Option (Described DescriptorProto)) → (T → Shape) → (T → ℕ) → List ℕ → Type 0
HasTypeName {T} own shape type_at name = (value : T) → (own value ≡ None) × (message_name (shape value) (type_at value) ≡ name)

-- dynamic messages have their own type
abbrev pub HaveOwnType : (Dynamic → Option (Described DescriptorProto)) → Type 0
HaveOwnType own = (m : Dynamic) → own m ≡ Some m.of
