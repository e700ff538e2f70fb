-- A default that is written reads back as no value.
use Rattle.std.proofs.Common.{◌≡◌, ℕ, ◌&&◌, pos, [], Bool, true, false, Option, Some, None, refl, ap, sym, ◌∙◌, subst, arith}
use Rattle.std.specs.Prelude.{not, codes}
use Rattle.std.specs.Ordering.{int_eq}
use Rattle.std.specs.Str.{bytes_eq}
use Rattle.std.proofs.lemmas.Bool.Decides.{Decides-int_eq}
use Rattle.base64.specs.GeneralPurpose.{IsBytes}
use Rattle.serde_json.specs.Data.{Data, null, array, object, no_items, no_members}
use Rattle.pbx_content.specs.Content.{Fields, Val, get}
use Rattle.pbx_content.specs.Meaning.{shown, is_default, zero_of}
use Rattle.pbx_content.specs.Shape.{is_float, first_number}
use Rattle.pbx_content.specs.Sound.{IsProper}
use Rattle.pbx_content.specs.declared.shape.Kind.{Kind}
use Rattle.pbx_content.specs.declared.shape.Kind.TheVariants as kind
use Rattle.pbx_content.specs.declared.shape.Cardinality.{Cardinality}
use Rattle.pbx_content.specs.declared.shape.Cardinality.TheVariants.{Singular, Repeated, Map}
use Rattle.pbx_content.specs.declared.shape.FieldShape.{FieldShape}
use Rattle.pbx_content.specs.declared.shape.Shape.{Shape}
use Rattle.pbx_json_meaning.specs.Asked.{field, Target, single, list, map, target_by, has_presence, presence_by}
use Rattle.pbx_json_meaning.specs.Canonical.{Writing, is_written_default, default_tree, default_by}
use Rattle.pbx_json_meaning.specs.Named.{IsWellNamed}
use Rattle.pbx_wkt_types.specs.Types.{enum_name}
use Rattle.pbx_json_meaning.specs.Stands.{ok_of, is_there, said}
use Rattle.pbx_json_laws.proofs.Fits.{IsNull}
use Rattle.pbx_json_laws.proofs.ScalarsBack.{ScalarBack, number_back, truth_back, text_as_is, bytes_back, no_null}
use Rattle.pbx_json_laws.proofs.Back.{ReadsNull, field_says}
use Rattle.pbx_json_laws.proofs.Read.{says_as}
use Rattle.pbx_json_laws.proofs.Parts.{both}

-- a default that is written is of a field without presence, and no float
pub written_default : (o : Writing) (fs : Fields) (f : FieldShape) → is_written_default o fs f ≡ true
    → (has_presence f ≡ false) × (is_float f.kind ≡ false)
written_default o fs f h =
    at (not o.options.skip_default_fields) (has_presence f) (is_float f.kind) (not f.is_extension) (not (is_there (get f.number fs))) h
  where
    at : (a b c d e : Bool) → (a && not b && not c && d && e) ≡ true → (b ≡ false) × (c ≡ false)
    at true false false d e k = (refl, refl)
    at true true c d e k = absurd (cc)
    at true false true d e k = absurd (cc)
    at false b c d e k = absurd (cc)

module _ (shape : Shape) (proper : IsProper shape) (well : IsWellNamed shape) (o : Writing) where
  null_zero : (e : ℕ) → IsNull shape (kind.Enum e) (first_number shape e)
  null_zero e h =
      let it = both (bytes_eq (enum_name shape e) (codes "google.protobuf.NullValue")) (int_eq (first_number shape e) (pos 0)) h in
      (Decides-int_eq (first_number shape e) (pos 0)).0 it.1

  no_bytes : IsBytes []
  no_bytes i = omega arith

  -- the tree of a kind's default
  abbrev pub ZeroBack : Kind → Type 0
  ZeroBack k = (d : Data) × ScalarBack shape k (zero_of shape k) (default_by shape o k (zero_of shape k)) d

  pub zero_back : (k : Kind) → is_float k ≡ false → ((t : ℕ) → k ≡ kind.Message t → ⊥) → ZeroBack k
  zero_back kind.Double f n = absurd (cc)
  zero_back kind.Float f n = absurd (cc)
  zero_back (kind.Message t) f n = absurd (n t refl)
  zero_back (kind.Enum e) f n = number_back shape well o (kind.Enum e) (first_number shape e) (proper.enums e) (null_zero e)
  zero_back kind.Bool f n = truth_back shape well o kind.Bool false refl
  zero_back kind.String f n = text_as_is shape well o kind.String [] refl
  zero_back kind.Bytes f n = bytes_back shape well o kind.Bytes [] refl no_bytes
  zero_back kind.Uint32 f n = number_back shape well o kind.Uint32 (pos 0) (omega arith) tt
  zero_back kind.Uint64 f n = number_back shape well o kind.Uint64 (pos 0) (omega arith) tt
  zero_back kind.Fixed32 f n = number_back shape well o kind.Fixed32 (pos 0) (omega arith) tt
  zero_back kind.Fixed64 f n = number_back shape well o kind.Fixed64 (pos 0) (omega arith) tt
  zero_back kind.Int32 f n = number_back shape well o kind.Int32 (pos 0) (record { sfits = omega arith }) tt
  zero_back kind.Int64 f n = number_back shape well o kind.Int64 (pos 0) (record { sfits = omega arith }) tt
  zero_back kind.Sint32 f n = number_back shape well o kind.Sint32 (pos 0) (record { sfits = omega arith }) tt
  zero_back kind.Sint64 f n = number_back shape well o kind.Sint64 (pos 0) (record { sfits = omega arith }) tt
  zero_back kind.Sfixed32 f n = number_back shape well o kind.Sfixed32 (pos 0) (record { sfits = omega arith }) tt
  zero_back kind.Sfixed64 f n = number_back shape well o kind.Sfixed64 (pos 0) (record { sfits = omega arith }) tt

  zero_is_default : (k : Kind) → ((t : ℕ) → k ≡ kind.Message t → ⊥) → is_default shape k (zero_of shape k) ≡ true
  zero_is_default (kind.Message t) n = absurd (n t refl)
  zero_is_default (kind.Enum e) n = (Decides-int_eq (first_number shape e) (first_number shape e)).1 refl
  zero_is_default kind.Bool n = refl
  zero_is_default kind.String n = refl
  zero_is_default kind.Bytes n = refl
  zero_is_default _ n = refl

  value_says : (k : Kind) → ((t : ℕ) → k ≡ kind.Message t → ⊥) → (v : Val) (tree : Option Data) (d : Data) → ScalarBack shape k v tree d
      → says_as shape false d (single k) ≡ Some (Some v)
  value_says (kind.Message t) n v tree d b = absurd (n t refl)
  value_says kind.Int32 n v tree d b = ap (λ r. ok_of r) b.back
  value_says _ n v tree d b = ap (λ r. ok_of r) b.back

  hidden : (k : Kind) (v : Val) (p : Bool) → p ≡ false → is_default shape k v ≡ true → shown shape p k (Some v) ≡ None
  hidden k v p e d = rw (e, d) refl

  abbrev pub DefaultReads : FieldShape → Type 0
  DefaultReads f = (d : Data) × (default_tree shape o f f.cardinality ≡ Some d) × (said shape false d (field f) ≡ Some None)

  pub default_back : (fs : Fields) (f : FieldShape) → is_written_default o fs f ≡ true → DefaultReads f
  default_back fs f h = at f.cardinality refl
    where
      parts : (has_presence f ≡ false) × (is_float f.kind ≡ false)
      parts = written_default o fs f h

      by_target : (tg : Target) → target_by f f.cardinality ≡ tg → (d : Data) (v : Option Val) → says_as shape false d tg ≡ Some v
          → (d ≡ null → ReadsNull shape tg) → shown shape (has_presence f) f.kind v ≡ None → said shape false d (field f) ≡ Some None
      by_target tg e d v says ok s =
          let P : Target → Type 0 = λ x. (d ≡ null → ReadsNull shape x) in
          field_says shape o f v d (ap (says_as shape false d) e ∙ says) (subst P (sym e) ok) None s

      at : (c : Cardinality) → f.cardinality ≡ c → DefaultReads f
      at Repeated e = (
        array no_items,
        ap (default_tree shape o f) e,
        by_target (list f.kind) (ap (target_by f) e) (array no_items) None refl (no_null (array no_items) (λ x. absurd x)) refl,
      )
      at (Map k) e = (
        object no_members,
        ap (default_tree shape o f) e,
        by_target (map k f.kind) (ap (target_by f) e) (object no_members) None refl (no_null (object no_members) (λ x. absurd x)) refl,
      )
      at Singular e =
          let no : (t : ℕ) → f.kind ≡ kind.Message t → ⊥ = plain e in
          let it = zero_back f.kind parts.1 no in (
            it.0,
            ap (default_tree shape o f) e ∙ it.1.made,
            by_target (single f.kind) (ap (target_by f) e) it.0 (Some (zero_of shape f.kind)) (value_says f.kind no (zero_of shape f.kind) _ it.0 it.1) it.1.null_ok
                (hidden f.kind (zero_of shape f.kind) (has_presence f) parts.0 (zero_is_default f.kind no)),
          )
        where
          plain : f.cardinality ≡ Singular → (t : ℕ) → f.kind ≡ kind.Message t → ⊥
          plain s t k =
              let yes' : has_presence f ≡ true = ap (presence_by f.presence f.kind) s ∙ ap (λ x. presence_by f.presence x Singular) k in
              let no : has_presence f ≡ false = parts.0 in
              (let bad : true ≡ false = sym yes' ∙ no in cc)
