-- Values that a field of a descriptor record may have.
use Rattle.std.specs.Prelude.{◌≡◌, List, [], ◌∷◌, true, Option, Some, None}
use Rattle.std.specs.Int.{w32}
use Rattle.std.specs.Int.RustNames.{FitsSigned}
use Rattle.std.specs.Str.{is_utf8}
use Rattle.pbx_content.specs.declared.shape.Cardinality.{Cardinality}
use Rattle.pbx_content.specs.declared.shape.Cardinality.TheVariants.{Singular, Repeated, Map}
use Rattle.pbx_content.specs.declared.shape.Kind.{Kind}
use Rattle.pbx_content.specs.declared.shape.Kind.TheVariants as kind
use Rattle.pbx_content.specs.declared.shape.Shape.{Shape}
use Rattle.pbx_content.specs.Content.{Val, number, truth, text, message}
use Rattle.pbx_content.specs.Sound.{IsSound}
use Rattle.pbx_desc_encoding.specs.Content.{listed}

-- a value of the kind
abbrev pub IsOf : Shape → Kind → Val → Type 0
IsOf shape kind.Int32 (number z) = FitsSigned w32 z
IsOf shape kind.Bool (truth b) = Unit {0}
IsOf shape kind.String (text s) = is_utf8 s ≡ true
IsOf shape (kind.Message t) (message c) = IsSound shape t c
IsOf shape _ _ = ⊥

-- no value, or one of the kind
abbrev pub MayBeOf : Shape → Kind → Option Val → Type 0
MayBeOf shape k None = Unit {0}
MayBeOf shape k (Some v) = IsOf shape k v

-- each is a value of the kind
abbrev pub AreOf : Shape → Kind → List Val → Type 0
AreOf shape k [] = Unit {0}
AreOf shape k (v ∷ vs) = IsOf shape k v × AreOf shape k vs

-- no value, or one that a field of this cardinality and kind may have; no field of a descriptor record is a map
abbrev pub MayBe : Shape → Cardinality → Kind → Option Val → Type 0
MayBe shape Singular k v = MayBeOf shape k v
MayBe shape Repeated k v = (vs : List Val) × (v ≡ listed vs) × AreOf shape k vs
MayBe shape (Map key) k v = ⊥
