-- What was read of a tree has a canonical tree, which reads back as the same.
use Rattle.std.proofs.Common.{◌≡◌, ℕ, List, true, false, Option, Some, option_map, refl, ap, ◌∙◌}
use Rattle.serde_json.specs.Data.{Data, null, boolean, number, string, array, object}
use Rattle.pbx_content.specs.Content as content
use Rattle.pbx_content.specs.Content.{Content, Fields, Val, Vals, Pairs, Key, vals_of, get}
use Rattle.pbx_content.specs.Meaning.{shown}
use Rattle.pbx_content.specs.Shape.{is_float}
use Rattle.pbx_content.specs.declared.shape.Kind.{Kind}
use Rattle.pbx_content.specs.declared.shape.Kind.TheVariants as kind
use Rattle.pbx_content.specs.declared.shape.Cardinality.{Cardinality}
use Rattle.pbx_content.specs.declared.shape.Cardinality.TheVariants.{Singular, Repeated, Map}
use Rattle.pbx_content.specs.declared.shape.FieldShape.{FieldShape}
use Rattle.pbx_content.specs.declared.shape.Shape.{Shape}
use Rattle.pbx_json_meaning.specs.Asked.{field, one, Target, nothing, single, list, map, target, target_by, null_target, has_presence, reads_null}
use Rattle.pbx_json_meaning.specs.Canonical.{Writing, tells}
use Rattle.pbx_json_meaning.specs.Scalars.{scalar_read}
use Rattle.pbx_json_meaning.specs.Stands.{Says, Entry, ok_of, value_as, said}
use Rattle.pbx_json_laws.proofs.Fits.{Fits}
use Rattle.pbx_json_laws.proofs.ScalarsBack.{ScalarBack}
use Rattle.pbx_json_laws.proofs.Read.{items_in, entries_in, says_as, said_is}

-- null is read as one of these
abbrev pub ReadsNull : Shape → Target → Type 0
ReadsNull shape nothing = ⊥
ReadsNull shape (single k) = reads_null shape k ≡ true
ReadsNull shape (list k) = ⊥
ReadsNull shape (map kk vk) = ⊥

-- a tree that may be null only where null is read is read as what the field has
target_field : (shape : Shape) (d : Data) (f : FieldShape) → (d ≡ null → ReadsNull shape (target_by f f.cardinality))
    → target shape d (field f) ≡ target_by f f.cardinality
target_field shape null f h = at f.cardinality (h refl)
  where
    at : (c : Cardinality) → ReadsNull shape (target_by f c) → null_target shape f c ≡ target_by f c
    at Singular e = rw e refl
    at Repeated e = absurd e
    at (Map k) e = absurd e
target_field shape (boolean b) f h = refl
target_field shape (number n) f h = refl
target_field shape (string s) f h = refl
target_field shape (array ds) f h = refl
target_field shape (object ms) f h = refl

-- the kind of the values
abbrev pub kind_in : Target → Kind
kind_in nothing = kind.Bool
kind_in (single k) = k
kind_in (list k) = k
kind_in (map kk vk) = vk

pub kind_by : (f : FieldShape) (c : Cardinality) → kind_in (target_by f c) ≡ f.kind
kind_by f Singular = refl
kind_by f Repeated = refl
kind_by f (Map k) = refl

-- a tree goes by the kind alone
pub tells_kind : (shape : Shape) (o : Writing) (v : Val) (f : FieldShape) → tells shape o v (field f) ≡ tells shape o v (one f.kind)
tells_kind shape o (content.number z) f = refl
tells_kind shape o (content.truth b) f = refl
tells_kind shape o (content.text s) f = refl
tells_kind shape o (content.octets s) f = refl
tells_kind shape o (content.message c) f = refl
tells_kind shape o (content.many vs) f = refl
tells_kind shape o (content.keyed ps) f = refl

-- a value has a tree, which says the value
pub record IsBack (shape : Shape) (o : Writing) (tg : Target) (v : Val) (d : Data) : Type 0 where
  pub made : tells shape o v (one (kind_in tg)) ≡ Some d
  pub says : says_as shape false d tg ≡ Some (Some v)
  pub null_ok : d ≡ null → ReadsNull shape tg

module _ (shape : Shape) (o : Writing) where
  pub element_says : (k : Kind) (v : Val) (d : Data) → IsBack shape o (single k) v d → said shape false d (one k) ≡ Some (Some v)
  element_says k v d b = said_is shape false d (one k) ∙ b.says

  pub field_says : (f : FieldShape) (v : Option Val) (d : Data) → says_as shape false d (target_by f f.cardinality) ≡ Some v
      → (d ≡ null → ReadsNull shape (target_by f f.cardinality)) → (r : Option Val) → shown shape (has_presence f) f.kind v ≡ r
      → said shape false d (field f) ≡ Some r
  field_says f v d says ok r h =
      said_is shape false d (field f) ∙ ap (λ tg. option_map (shown shape (has_presence f) f.kind) (says_as shape false d tg)) (target_field shape d f ok)
      ∙ ap (option_map (shown shape (has_presence f) f.kind)) says ∙ ap (λ x. Some x) h

  -- ---- scalars

  value_is : (k : Kind) → ((t : ℕ) → k ≡ kind.Message t → ⊥) → (d : Data) (items : List Says) (es : List Entry)
      → value_as shape false k d items es ≡ ok_of (scalar_read shape false k d)
  value_is (kind.Message t) n d items es = absurd (n t refl)
  value_is _ n d items es = refl

  pub scalar_is_back : (k : Kind) (v : Val) (d : Data) → ((t : ℕ) → k ≡ kind.Message t → ⊥) → ScalarBack shape k v (tells shape o v (one k)) d
      → IsBack shape o (single k) v d
  scalar_is_back k v d n b = record {
    made = b.made;
    says = value_is k n d (items_in shape false d) (entries_in shape false d) ∙ ap (λ r. ok_of r) b.back;
    null_ok = b.null_ok;
  }

  -- a value of a float kind is never read
  pub no_float : (k : Kind) (v : Val) → Fits shape v (single k) → is_float k ≡ false
  no_float kind.Double (content.number z) h = absurd h.0
  no_float kind.Double (content.truth b) h = absurd (cc)
  no_float kind.Double (content.text s) h = absurd (let e : kind.Double ≡ kind.String = h.0 in cc)
  no_float kind.Double (content.octets s) h = absurd (let e : kind.Double ≡ kind.Bytes = h.0 in cc)
  no_float kind.Double (content.message c) h = absurd (let e : kind.Double ≡ kind.Message h.0 = h.1 in cc)
  no_float kind.Double (content.many vs) h = absurd h
  no_float kind.Double (content.keyed ps) h = absurd h
  no_float kind.Float (content.number z) h = absurd h.0
  no_float kind.Float (content.truth b) h = absurd (cc)
  no_float kind.Float (content.text s) h = absurd (let e : kind.Float ≡ kind.String = h.0 in cc)
  no_float kind.Float (content.octets s) h = absurd (let e : kind.Float ≡ kind.Bytes = h.0 in cc)
  no_float kind.Float (content.message c) h = absurd (let e : kind.Float ≡ kind.Message h.0 = h.1 in cc)
  no_float kind.Float (content.many vs) h = absurd h
  no_float kind.Float (content.keyed ps) h = absurd h
  no_float _ v h = refl
