-- Values that a field of a well-known type may have.
use Rattle.std.specs.Prelude.{◌≡◌, List, [], ◌∷◌, Bool, false, true, Option, Some, None}
use Rattle.std.specs.Int.{w32, w64}
use Rattle.std.specs.Int.RustNames.{FitsSigned}
use Rattle.std.specs.Str.{is_utf8}
use Rattle.pbx_content.specs.declared.shape.Cardinality.{Cardinality}
use Rattle.pbx_content.specs.declared.shape.Cardinality.TheVariants.{Singular, Repeated, Map}
use Rattle.pbx_content.specs.declared.shape.FieldShape.{FieldShape}
use Rattle.pbx_content.specs.declared.shape.Kind.{Kind}
use Rattle.pbx_content.specs.declared.shape.Kind.TheVariants as kind
use Rattle.pbx_content.specs.Content.{Val, number, truth, text, octets, message, many, keyed}
use Rattle.pbx_content.specs.Sound.{IsSound, IsElement, AreElements, ArePairs}
use Rattle.pbx_desc_shapes.specs.TypesShape.{types_shape}

-- the field may have the value, where the value is no default
abbrev pub Fits : FieldShape → Val → Type 0
Fits g (number z) = (g.cardinality ≡ Singular) × IsElement types_shape g.kind (number z)
Fits g (truth b) = (g.cardinality ≡ Singular) × IsElement types_shape g.kind (truth b)
Fits g (text s) = (g.cardinality ≡ Singular) × IsElement types_shape g.kind (text s)
Fits g (octets b) = (g.cardinality ≡ Singular) × IsElement types_shape g.kind (octets b)
Fits g (message c) = (g.cardinality ≡ Singular) × IsElement types_shape g.kind (message c)
Fits g (many vs) = (g.cardinality ≡ Repeated) × (g.presence ≡ false) × AreElements types_shape g.kind vs
Fits g (keyed ps) = (g.presence ≡ false) × ((key : Kind) × (g.cardinality ≡ Map key) × ArePairs types_shape key g.kind ps)

-- no value, or one that the field may have
abbrev pub MayHave : FieldShape → Option Val → Type 0
MayHave g None = Unit {0}
MayHave g (Some v) = Fits g v

-- a field of this cardinality and kind, whatever its number and names
abbrev pub some_field : Cardinality → Bool → Kind → FieldShape
some_field c presence k = record {
  number = 0;
  name = [];
  json_name = [];
  is_extension = false;
  kind = k;
  cardinality = c;
  presence = presence;
  oneof = None;
  packed = false;
  default = None;
  entry = None;
}

-- each field may have its value
abbrev pub AreValues : List FieldShape → List (Option Val) → Type 0
AreValues [] [] = Unit {0}
AreValues [] (v ∷ vs) = ⊥
AreValues (g ∷ gs) [] = ⊥
AreValues (g ∷ gs) (v ∷ vs) = MayHave g v × AreValues gs vs

-- ---- values that are taken out

-- a value of the kind
abbrev pub IsOf : Kind → Val → Type 0
IsOf kind.Int32 (number z) = FitsSigned w32 z
IsOf kind.Int64 (number z) = FitsSigned w64 z
IsOf kind.Bool (truth b) = Unit {0}
IsOf kind.String (text s) = is_utf8 s ≡ true
IsOf kind.Bytes (octets b) = Unit {0}
IsOf (kind.Message t) (message c) = IsSound types_shape t c
IsOf _ _ = ⊥

-- no value, or one of the kind
abbrev pub MayBe : Kind → Option Val → Type 0
MayBe k None = Unit {0}
MayBe k (Some v) = IsOf k v

-- each is a value of the kind
abbrev pub AreOf : Kind → List Val → Type 0
AreOf k [] = Unit {0}
AreOf k (v ∷ vs) = IsOf k v × AreOf k vs
