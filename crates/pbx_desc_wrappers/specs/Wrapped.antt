-- Values that the field of a wrapper may have, and what is read of it.
use Rattle.std.specs.Prelude.{◌≡◌, ℕ, ◌^◌, ◌<◌, pos, Bool, true, false, Option, Some, None}
use Rattle.std.specs.Int.{w32, w64}
use Rattle.std.specs.Int.RustNames.{FitsSigned}
use Rattle.std.specs.Str.{is_utf8}
use Rattle.pbx_content.specs.declared.shape.Kind.{Kind}
use Rattle.pbx_content.specs.declared.shape.Kind.TheVariants as kind
use Rattle.pbx_content.specs.Content.{Content, Val, number, truth, text, octets}
use Rattle.pbx_content.specs.Meaning.{or_else, zero_of}
use Rattle.pbx_content.specs.Shape.{fields_of}
use Rattle.pbx_desc_shapes.specs.TypesShape.{types_shape, wrapped}
use Rattle.pbx_desc_wrappers.specs.Scalars.{wrapper_content}

-- a value of the kind
abbrev pub IsOf : Kind → Val → Type 0
IsOf kind.Int32 (number z) = FitsSigned w32 z
IsOf kind.Int64 (number z) = FitsSigned w64 z
IsOf kind.Uint32 (number (pos n)) = n < 2 ^ 32
IsOf kind.Uint64 (number (pos n)) = n < 2 ^ 64
IsOf kind.Bool (truth b) = Unit {0}
IsOf kind.String (text s) = is_utf8 s ≡ true
IsOf kind.Bytes (octets b) = Unit {0}
IsOf _ _ = ⊥

-- no value, or one of the kind
abbrev pub MayBeOf : Kind → Option Val → Type 0
MayBeOf k None = Unit {0}
MayBeOf k (Some v) = IsOf k v

-- the kinds of the wrappers that are read and written here
abbrev pub is_scalar : Kind → Bool
is_scalar kind.Int32 = true
is_scalar kind.Int64 = true
is_scalar kind.Uint32 = true
is_scalar kind.Uint64 = true
is_scalar kind.Bool = true
is_scalar kind.String = true
is_scalar kind.Bytes = true
is_scalar _ = false

-- the type at the place is the wrapper of the kind
abbrev pub IsWrapper : ℕ → Kind → Type 0
IsWrapper t k = (fields_of types_shape t ≡ wrapped k) × (is_scalar k ≡ true)

-- the type at the place is a wrapper that may hold the value
abbrev pub MayHold : ℕ → Val → Type 0
MayHold t v = (k : Kind) × IsWrapper t k × IsOf k v

-- what the field has is of the kind, and the wrapper of it, or of the kind's default where the field is absent, is what was meant
pub record IsRead (k : Kind) (v : Option Val) (meant : Option Content) : Type 0 where
  pub value : MayBeOf k v
  pub whole : meant ≡ Some (wrapper_content (or_else v (zero_of types_shape k)))
