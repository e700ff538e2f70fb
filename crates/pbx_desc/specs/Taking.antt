-- Values that are taken out of a content, number by number.
use Rattle.std.specs.Prelude.{◌≡◌, ℕ, List, [], ◌∷◌, Bool, true, Option}
use Rattle.pbx_content.specs.declared.shape.Cardinality.{Cardinality}
use Rattle.pbx_content.specs.declared.shape.Cardinality.TheVariants.{Repeated}
use Rattle.pbx_content.specs.declared.shape.FieldShape.{FieldShape}
use Rattle.pbx_content.specs.declared.shape.Kind.{Kind}
use Rattle.pbx_wire.specs.declared.rec.Rec.{Rec}
use Rattle.pbx_content.specs.Content.{Content, fields, kept, get, without, with_fields, Val}
use Rattle.pbx_desc_shapes.specs.DescriptorShape.{descriptor_shape}
use Rattle.pbx_desc_encoding.specs.Content.{listed}
use Rattle.pbx_desc_encoding.specs.Sound.{AreOf, MayBe}

-- v is the value of the number, where a field of this cardinality and kind may have that value
abbrev pub IsRead : Cardinality → Kind → ℕ → Option Val → Content → Type 0
IsRead c k n v old = MayBe descriptor_shape c k (get n (fields old)) → v ≡ get n (fields old)

-- the answer is yes, where a field of this cardinality and kind may have the value of the number
abbrev pub IsTold : Cardinality → Kind → ℕ → Bool → Content → Type 0
IsTold c k n x old = MayBe descriptor_shape c k (get n (fields old)) → x ≡ true

-- so v is, whose records are exact if x says so, which it does there, and the value is taken out
pub record Takes (c : Cardinality) (k : Kind) (n : ℕ) (v : Option Val) (x : Bool) (old new : Content) : Type 0 where
  pub value : IsRead c k n v old
  pub exact : IsTold c k n x old
  pub rest : new ≡ with_fields old (without n (fields old))

-- the values of the list at a number are these, where a field may have the list, and it is taken out
pub record TakesList (k : Kind) (n : ℕ) (vs : List Val) (old new : Content) : Type 0 where
  pub value : MayBe descriptor_shape Repeated k (get n (fields old)) → (listed vs ≡ get n (fields old)) × AreOf descriptor_shape k vs
  pub rest : new ≡ with_fields old (without n (fields old))

-- these are the values of the fields, each where its field may have the value
abbrev pub AreRead : List FieldShape → List (Option Val) → Content → Type 0
AreRead [] [] old = Unit {0}
AreRead [] (v ∷ vs) old = ⊥
AreRead (g ∷ gs) [] old = ⊥
AreRead (g ∷ gs) (v ∷ vs) old = IsRead g.cardinality g.kind g.number v old × AreRead gs vs old

-- the answers are yes, each where its field may have the value
abbrev pub AreTold : List FieldShape → List Bool → Content → Type 0
AreTold [] [] old = Unit {0}
AreTold [] (x ∷ xs) old = ⊥
AreTold (g ∷ gs) [] old = ⊥
AreTold (g ∷ gs) (x ∷ xs) old = IsTold g.cardinality g.kind g.number x old × AreTold gs xs old

-- so these are the values of the fields, whose records are exact as these answers say, and these the kept records
pub record AreTaken (gs : List FieldShape) (vs : List (Option Val)) (xs : List Bool) (rs : List Rec) (old : Content) : Type 0 where
  pub values : AreRead gs vs old
  pub exact : AreTold gs xs old
  pub unread : rs ≡ kept old
