-- Values that a field may be set to (Protocol Buffers "Language Guide (proto 3)": Scalar Value Types, Maps).
use Rattle.std.specs.Prelude.{List, [], ◌∷◌, IsTrue}
use Rattle.pbx_content.specs.declared.shape.Kind.{Kind}
use Rattle.pbx_content.specs.declared.shape.Cardinality.{Cardinality}
use Rattle.pbx_content.specs.declared.shape.Cardinality.TheVariants.{Singular, Repeated, Map}
use Rattle.pbx_content.specs.declared.shape.FieldShape.{FieldShape}
use Rattle.pbx_content.specs.declared.shape.Shape.{Shape}
use Rattle.pbx_content.specs.Content.{Key, key_before, Val, many, keyed}
use Rattle.pbx_content.specs.Sound.{IsKeyOf, AreElements, ArePairs, IsElement}

-- ---- lists

-- a key and a value of these kinds
abbrev pub IsPairOf : Shape → Kind → Kind → Key × Val → Type 0
IsPairOf shape key k p = IsKeyOf key p.0 × IsElement shape k p.1

-- a key stands before the first of the pairs
abbrev pub IsBeforeFirst : Key → List (Key × Val) → Type 0
IsBeforeFirst k [] = Unit {0}
IsBeforeFirst k (p ∷ ps) = IsTrue (key_before k p.0)

-- the keys ascend
abbrev pub AscendByKey : List (Key × Val) → Type 0
AscendByKey [] = Unit {0}
AscendByKey (p ∷ ps) = IsBeforeFirst p.0 ps × AscendByKey ps

-- ---- values of a field

-- a list of values of the kind
abbrev pub IsListOf : Shape → Kind → Val → Type 0
IsListOf shape k (many vs) = AreElements shape k vs
IsListOf shape k _ = ⊥

-- a map from keys of the one kind, which ascend, to values of the other
abbrev pub IsMapOf : Shape → Kind → Kind → Val → Type 0
IsMapOf shape key k (keyed ps) = ArePairs shape key k ps
IsMapOf shape key k _ = ⊥

-- a value of the cardinality and the kind
abbrev pub IsSettableBy : Shape → Cardinality → Kind → Val → Type 0
IsSettableBy shape Singular k v = IsElement shape k v
IsSettableBy shape Repeated k v = IsListOf shape k v
IsSettableBy shape (Map key) k v = IsMapOf shape key k v

-- the field may be set to the value, which may be a default or an empty list or map
abbrev pub IsSettable : Shape → FieldShape → Val → Type 0
IsSettable shape f v = IsSettableBy shape f.cardinality f.kind v
