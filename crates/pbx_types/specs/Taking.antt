-- Values that are taken out of a content, number by number.
use Rattle.std.specs.Prelude.{◌≡◌, ℕ, List, Option, Some, None, false}
use Rattle.pbx_content.specs.declared.shape.Cardinality.TheVariants.{Repeated, Map}
use Rattle.pbx_content.specs.declared.shape.FieldShape.{FieldShape}
use Rattle.pbx_content.specs.declared.shape.Kind.{Kind}
use Rattle.pbx_content.specs.Content.{Content, fields, get, without, with_fields, Key, Val, many, keyed, vals_of, pairs_of}
use Rattle.pbx_content.specs.Meaning.{shown}
use Rattle.pbx_content.specs.Sound.{IsSoundAt, AreElements, ArePairs}
use Rattle.pbx_desc_shapes.specs.TypesShape.{types_shape}
use Rattle.pbx_types.specs.Sound.{MayBe, some_field}

-- no value, or one that a field may have
abbrev pub IsAt : FieldShape → Option Val → Type 0
IsAt g None = Unit {0}
IsAt g (Some v) = IsSoundAt types_shape (Some g) v

-- v is the value of the number, where it is of the kind, and it is taken out
pub record Takes (k : Kind) (n : ℕ) (v : Option Val) (old new : Content) : Type 0 where
  pub value : MayBe k (get n (fields old)) → v ≡ get n (fields old)
  pub rest : new ≡ with_fields old (without n (fields old))

-- the values are those of the list that is there, each of the kind
pub record IsList (k : Kind) (vs : List Val) (v : Option Val) : Type 0 where
  pub same : shown types_shape false k (Some (many (vals_of vs))) ≡ v
  pub each : AreElements types_shape k (vals_of vs)

-- so they are, where a field may have the list, and it is taken out
pub record TakesList (k : Kind) (n : ℕ) (vs : List Val) (old new : Content) : Type 0 where
  pub value : IsAt (some_field Repeated false k) (get n (fields old)) → IsList k vs (get n (fields old))
  pub rest : new ≡ with_fields old (without n (fields old))

-- the pairs are those of the map that is there, with keys and values of the kinds
pub record IsMap (key k : Kind) (ps : List (Key × Val)) (v : Option Val) : Type 0 where
  pub same : shown types_shape false k (Some (keyed (pairs_of ps))) ≡ v
  pub each : ArePairs types_shape key k (pairs_of ps)

-- so they are, where a field may have the map, and it is taken out
pub record TakesPairs (key k : Kind) (n : ℕ) (ps : List (Key × Val)) (old new : Content) : Type 0 where
  pub value : IsAt (some_field (Map key) false k) (get n (fields old)) → IsMap key k ps (get n (fields old))
  pub rest : new ≡ with_fields old (without n (fields old))
