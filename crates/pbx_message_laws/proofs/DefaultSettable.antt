-- A field of a message of a pool may be set to its default.
use Rattle.std.proofs.Common.{◌≡◌, ◌∙◌, ◌⊎◌, inl, inr, ℕ, if◌then◌else◌, List, [], ◌∷◌, map, Bool, true, false, cond, Option, Some, None, refl, ap, sym}
use Rattle.std.proofs.Common.{subst, arith}
use Rattle.std.specs.Prelude.{Contains, filter, IsTrue}
use Rattle.std.specs.List.{flat_map}
use Rattle.std.specs.Str.{is_utf8}
use Rattle.std.proofs.lemmas.List.Elements.{Contains-append_left, Contains-append_right}
use Rattle.pbx_content.specs.declared.shape.Kind.{Kind}
use Rattle.pbx_content.specs.declared.shape.Kind.TheVariants as kind
use Rattle.pbx_content.specs.declared.shape.Cardinality.{Cardinality}
use Rattle.pbx_content.specs.declared.shape.Cardinality.TheVariants.{Singular, Repeated, Map}
use Rattle.pbx_content.specs.declared.shape.FieldShape.{FieldShape}
use Rattle.pbx_content.specs.declared.shape.Shape.{Shape}
use Rattle.pbx_content.specs.Content.{Val, fields as fields_of_content, get}
use Rattle.pbx_content.specs.Shape.{fields_of, field_of, is_float}
use Rattle.pbx_content.specs.Sound.{IsElement}
use Rattle.pbx_desc_records.specs.declared.field.FieldDescriptorProto.{FieldDescriptorProto}
use Rattle.pbx_desc_records.specs.declared.file.FileDescriptorProto.{FileDescriptorProto}
use Rattle.pbx_desc_records.specs.declared.message.DescriptorProto.{DescriptorProto}
use Rattle.pbx_link_definitions.specs.Definitions.{Part, fields_in, messages, fields, extensions}
use Rattle.pbx_link_definitions.specs.Says.{number_or_zero, is_repeated}
use Rattle.pbx_link_rules_field.specs.Rules.{all_fields}
use Rattle.pbx_link_rules.proofs.Types.{source}
use Rattle.pbx_link_meaning.specs.Descriptors.{Described, described, all_extensions, fields_of_message, extensions_of_message, is_map}
use Rattle.pbx_link_meaning.specs.Shapes.{entry_kind, type_of_field, kind_of, value_kind, cardinality_of, field_shape, extension_shape, shape_of}
use Rattle.pbx_link_meaning.proofs.Lists.{told_of, is_told}
use Rattle.pbx_message_laws.specs.Defaults.{declared_val, singular_default, default_by, default_of, value_or_default}
use Rattle.pbx_message_laws.specs.Settable.{IsSettableBy, IsSettable}
use Rattle.pbx_link_meaning.specs.Shapes.{place_of}
use Rattle.pbx_message_laws.specs.Pools.{IsPooled, IsShapeOf, IsReadable, DefaultIsSettable, ReadIsSettable}
use Rattle.pbx_message_laws.proofs.DefaultTexts.{FitIf, zero_element, good_default}
use Rattle.pbx_message_laws.proofs.DefaultRules.{TypedBy, pool_defaults}
use Rattle.pbx_message_laws.proofs.Members.{found}
use Rattle.pbx_message_laws.proofs.Settable.{sound_is_settable}
use Rattle.pbx_message_laws.proofs.Listed.{split}
use Rattle.pbx_message_laws.proofs.Placed.{listed_is_field}

-- ---- fields of a message among those of the pool

pub from_filter : {X : Type 0} (p : X → Bool) (xs : List X) (x : X) → Contains (filter p xs) x → Contains xs x
from_filter p [] x c = c
from_filter {X} p (y ∷ ys) x c = at (p y) c (from_filter p ys x)
  where
    behind : Contains ys x → Contains (y ∷ ys) x
    behind d = Contains-append_right (y ∷ []) ys x d

    at : (b : Bool) → Contains (cond b (y ∷ filter p ys) (filter p ys)) x → (Contains (filter p ys) x → Contains ys x) → Contains (y ∷ ys) x
    at true c ih = by (split y (filter p ys) x c)
      where
        by : (y ≡ x) ⊎ Contains (filter p ys) x → Contains (y ∷ ys) x
        by (inl e) = (0, omega arith, e)
        by (inr d) = behind (ih d)
    at false c ih = behind (ih c)

-- a part is in what is told of its file
part_there : (pool : List FileDescriptorProto) (f : FileDescriptorProto) (p : Part FieldDescriptorProto) → Contains pool f
    → Contains (fields f) p ⊎ Contains (extensions f) p → Contains (flat_map all_fields pool) p
part_there pool f p c (inl d) = is_told all_fields pool f p c (Contains-append_left (fields f) (extensions f) p d)
part_there pool f p c (inr d) = is_told all_fields pool f p c (Contains-append_right (fields f) (extensions f) p d)

pub own_there : (d : Described DescriptorProto) (x : Described FieldDescriptorProto) → IsPooled d → Contains (fields_of_message d) x
    → Contains (flat_map all_fields d.pool) x.part
own_there d x of c =
    let t = told_of (λ (f : FileDescriptorProto). map (described d.pool f) (messages f)) d.pool d of.within in
    let m = source (described d.pool t.holder) (messages t.holder) d t.inside in
    let own = source (described d.pool d.file) (fields_in d.part) x c in
    let same : d.part ≡ m.item = ap (λ (e : Described DescriptorProto). e.part) (sym m.made) in
    let inside : Contains (fields_in m.item) own.item = subst (λ (p : Part DescriptorProto). Contains (fields_in p) own.item) same own.within in
    subst (λ (y : Described FieldDescriptorProto). Contains (flat_map all_fields d.pool) y.part) own.made
    (part_there d.pool t.holder own.item t.within (inl (is_told fields_in (messages t.holder) m.item own.item m.within inside)))

pub extension_there : (d : Described DescriptorProto) (x : Described FieldDescriptorProto) → Contains (extensions_of_message d) x
    → Contains (flat_map all_fields d.pool) x.part
extension_there d x c =
    let t = told_of (λ (f : FileDescriptorProto). map (described d.pool f) (extensions f)) d.pool x (from_filter _ (all_extensions d.pool) x c) in
    let own = source (described d.pool t.holder) (extensions t.holder) x t.inside in
    subst (λ (y : Described FieldDescriptorProto). Contains (flat_map all_fields d.pool) y.part) own.made
    (part_there d.pool t.holder own.item t.within (inr own.within))

-- ---- one field

single_kind : (x : Described FieldDescriptorProto) → cardinality_of x ≡ Singular → value_kind x ≡ kind_of x
single_kind x e = at (is_map x) (is_repeated x.part.item) e
  where
    at : (b c : Bool) → (if b then Map (entry_kind 1 (type_of_field x)) else (if c then Repeated else Singular)) ≡ Singular
        → (if b then entry_kind 2 (type_of_field x) else kind_of x) ≡ kind_of x
    at true c e = absurd cc
    at false c e = refl

-- the shape says of the field what its descriptor does
record IsLike (f : FieldShape) (x : Described FieldDescriptorProto) : Type 0 where
  kind : f.kind ≡ value_kind x
  cardinality : f.cardinality ≡ cardinality_of x
  default : f.default ≡ x.part.item.default_value

module _ (shape : Shape) (f : FieldShape) (read : IsReadable shape f) where
  single : (x : Described FieldDescriptorProto) → IsLike f x → TypedBy x.part.item.kind x.part.item.default_value → f.cardinality ≡ Singular
      → IsElement shape f.kind (singular_default shape f.kind f.default)
  single x like typed c = at f.default refl
    where
      is : f.kind ≡ kind_of x
      is = like.kind ∙ single_kind x (sym like.cardinality ∙ c)

      at : (o : Option (List ℕ)) → f.default ≡ o → IsElement shape f.kind (singular_default shape f.kind o)
      at None e = zero_element shape f.kind read.plain (subst (λ (o : Option (List ℕ)). FitIf shape f.kind o) e read.number)
      at (Some t) e =
          let good : (k : Kind) → k ≡ kind_of x → is_float k ≡ false → FitIf shape k (Some t) → (k ≡ kind.String → IsTrue (is_utf8 t))
          → IsElement shape k (declared_val shape k t) =
          λ k d.
          subst
          (λ (j : Kind). is_float j ≡ false → FitIf shape j (Some t) → (j ≡ kind.String → IsTrue (is_utf8 t)) → IsElement shape j (declared_val shape j t))
          (sym d)
          (good_default shape t x.pool x.part.item.type_name (number_or_zero x.part.item.kind) (typed t (sym like.default ∙ e))) in
          good f.kind is read.plain (subst (λ (o : Option (List ℕ)). FitIf shape f.kind o) e read.number) (λ k. read.text t k e)

  settable : (x : Described FieldDescriptorProto) → IsLike f x → TypedBy x.part.item.kind x.part.item.default_value → IsSettable shape f (default_of shape f)
  settable x like typed = at f.cardinality refl
    where
      at : (c : Cardinality) → f.cardinality ≡ c → IsSettableBy shape c f.kind (default_by shape f c)
      at Singular e = single x like typed e
      at Repeated e = tt
      at (Map key) e = tt

pub default_is_settable : DefaultIsSettable
default_is_settable d n f of e read = at (listed_is_field d n f of e)
  where
    at : IsShapeOf field_shape (fields_of_message d) n f ⊎ IsShapeOf extension_shape (extensions_of_message d) n f
        → IsSettable (shape_of d.pool) f (default_of (shape_of d.pool) f)
    at (inl s) =
        let x : Described FieldDescriptorProto = s.descriptor in
        let is : f ≡ field_shape x = sym s.shape in
        settable (shape_of d.pool) f read x
        (record {
          kind = ap (λ (g : FieldShape). g.kind) is;
          cardinality = ap (λ (g : FieldShape). g.cardinality) is;
          default = ap (λ (g : FieldShape). g.default) is;
        })
        (pool_defaults d.pool of.pooled x.part (own_there d x of s.within))
    at (inr s) =
        let x : Described FieldDescriptorProto = s.descriptor in
        let is : f ≡ extension_shape x = sym s.shape in
        settable (shape_of d.pool) f read x
        (record {
          kind = ap (λ (g : FieldShape). g.kind) is;
          cardinality = ap (λ (g : FieldShape). g.cardinality) is;
          default = ap (λ (g : FieldShape). g.default) is;
        })
        (pool_defaults d.pool of.pooled x.part (extension_there d x s.within))

pub read_is_settable : ReadIsSettable
read_is_settable d n f c of sound e read = at (get f.number (fields_of_content c)) refl
  where
    own : field_of f.number (fields_of (shape_of d.pool) (place_of d)) ≡ Some f
    own = ap (λ (m : ℕ). field_of m (fields_of (shape_of d.pool) (place_of d))) (found n (fields_of (shape_of d.pool) (place_of d)) f e).is ∙ e

    at : (o : Option Val) → get f.number (fields_of_content c) ≡ o → IsSettable (shape_of d.pool) f (value_or_default (shape_of d.pool) f o)
    at None g = default_is_settable d n f of e read
    at (Some v) g =
        let s = sound_is_settable (shape_of d.pool) (place_of d) f.number c v sound g in
        let same : s.0 ≡ f = (let both : Some s.0 ≡ Some f = sym s.1 ∙ own in cc) in
        subst (λ (h : FieldShape). IsSettable (shape_of d.pool) h v) same s.3
