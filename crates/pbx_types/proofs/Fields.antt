-- What a type asks of a content that has values in the order of the type's fields.
use Rattle.std.proofs.Common.{◌≡◌, ℕ, ◌<◌, ◌≤◌, Bool, true, false, ◌&&◌, if◌then◌else◌, cond, List, [], ◌∷◌, map, Option, Some, None, subst, refl, sym, ◌∙◌, arith, inl, inr}
use Rattle.std.specs.Prelude.{◌==◌, IsTrue}
use Rattle.std.specs.List.{filter}
use Rattle.pbx_wire.specs.Text.{all_true, is_numbered, are_numbered, are_fit}
use Rattle.pbx_wire.specs.declared.rec.Rec.{Rec}
use Rattle.pbx_content.specs.declared.shape.FieldShape.{FieldShape}
use Rattle.pbx_content.specs.Content.{Fields, no_fields, field, Val, number, truth, text, octets, message, many, keyed, IsAbove, IsAscending}
use Rattle.pbx_content.specs.Records.{number_of, any}
use Rattle.pbx_content.specs.Shape.{fields_of, field_of, is_float, is_kept, is_read_as}
use Rattle.pbx_content.specs.Meaning.{with_field, shown, is_default}
use Rattle.pbx_content.specs.Sound.{IsSound, AreSound, IsSoundAt, AreKept, IsShown, has_one_member}
use Rattle.pbx_content.proofs.WrittenOrder.{AreAbove, AreListed, all_listed, fields_above}
use Rattle.pbx_desc_shapes.specs.TypesShape.{types_shape}
use Rattle.pbx_desc_shapes.proofs.WellKnownProper.{types_shape_proper}
use Rattle.pbx_types.specs.FieldContent.{writable, fields_from, record_content}
use Rattle.pbx_types.specs.Sound.{Fits, MayHave, AreValues}
use Rattle.pbx_types.specs.Taking.{IsAt}
use Rattle.pbx_wire.specs.Number.{has_one_of, is_writable_beside}

abbrev pub numbers : List FieldShape → List ℕ
numbers gs = map (λ (g : FieldShape). g.number) gs

-- the fields are of kinds that are read
abbrev pub AreRead : List FieldShape → Type 0
AreRead [] = Unit {0}
AreRead (g ∷ gs) = (is_float g.kind ≡ false) × AreRead gs

-- ---- ascending numbers

fields_lower : (m n : ℕ) (fs : Fields) → m ≤ n → IsAbove n fs → IsAbove m fs
fields_lower m n no_fields le h = tt
fields_lower m n (field k v fs) le h = (omega (arith, h.0), h.1)

ascend_with : (m n : ℕ) (v : Option Val) (fs : Fields) → m < n → IsAbove n fs → IsAbove m (with_field n v fs)
ascend_with m n None fs lt h = fields_lower m n fs (omega arith) h
ascend_with m n (Some v) fs lt h = (lt, h)

pub ascend_from : (n : ℕ) (gs : List FieldShape) (vs : List (Option Val)) → AreAbove n gs → IsAbove n (fields_from gs vs)
ascend_from n [] vs above = tt
ascend_from n (g ∷ gs) [] above = tt
ascend_from n (g ∷ gs) (v ∷ vs) above =
    ascend_with n g.number (shown types_shape g.presence g.kind v) (fields_from gs vs) above.0 (ascend_from g.number gs vs above.2)

ascends : (fs : Fields) → IsAbove 0 fs → IsAscending fs
ascends no_fields h = tt
ascends (field n v fs) h = h.1

-- ---- kept records

read_is : (gs : List FieldShape) (r : Rec) → AreRead gs → any (is_read_as r) gs ≡ has_one_of (numbers gs) r
read_is [] r h = refl
read_is (g ∷ gs) r h = rw (h.0, read_is gs r h.1) (at (number_of r == g.number))
  where
    at : (b : Bool) → (if b && true then true else has_one_of (numbers gs) r) ≡ (if b then true else has_one_of (numbers gs) r)
    at true = refl
    at false = refl

pub kept_is : (gs : List FieldShape) (rs : List Rec) → AreRead gs → writable gs rs ≡ filter (is_writable_beside (numbers gs)) rs
kept_is gs [] h = refl
kept_is gs (r ∷ rs) h = rw (read_is gs r h, kept_is gs rs h) refl

unread : (gs : List FieldShape) (rs : List Rec) → all_true (map (is_kept gs) (writable gs rs)) ≡ true
unread gs [] = refl
unread gs (r ∷ rs) = at (is_numbered r) (is_kept gs r) refl (unread gs rs)
  where
    at : (a b : Bool) → is_kept gs r ≡ b → all_true (map (is_kept gs) (writable gs rs)) ≡ true → all_true (map (is_kept gs) (cond (a && b) (r ∷ writable gs rs) (writable gs rs))) ≡ true
    at true true e ih = rw (e, ih) refl
    at true false e ih = ih
    at false b e ih = ih

numbered : (gs : List FieldShape) (rs : List Rec) → are_numbered (writable gs rs) ≡ true
numbered gs [] = refl
numbered gs (r ∷ rs) = at (is_numbered r) (is_kept gs r) refl (numbered gs rs)
  where
    at : (a b : Bool) → is_numbered r ≡ a → are_numbered (writable gs rs) ≡ true → are_numbered (cond (a && b) (r ∷ writable gs rs) (writable gs rs)) ≡ true
    at true true e ih = rw (e, ih) refl
    at true false e ih = ih
    at false b e ih = ih

kept : (gs : List FieldShape) (rs : List Rec) → are_fit (writable gs rs) ≡ true → AreKept gs (writable gs rs)
kept gs rs fit = record { unread = unread gs rs; numbered = numbered gs rs; fit = fit }

-- ---- single values, lists and maps

not_default : (g : FieldShape) (v : Val) → g.presence ≡ false → IsShown types_shape g v → is_default types_shape g.kind v ≡ false
not_default g v without s = elim s [
  | inl with ↦ absurd (let bad : true ≡ false = sym with ∙ without in cc)
  | inr apart ↦ apart
]

fits_sound : (g : FieldShape) (v : Val) → IsShown types_shape g v → Fits g v → IsSoundAt types_shape (Some g) v
fits_sound g (number z) s h = (h.0, s, h.1)
fits_sound g (truth b) s h = (h.0, s, h.1)
fits_sound g (text t) s h = let own = h.1 in (h.0, s, own.0, own.1)
fits_sound g (octets b) s h = (h.0, s, h.1)
fits_sound g (message c) s h = h
fits_sound g (many vs) s h = (h.0, not_default g (many vs) h.1 s, h.2)
fits_sound g (keyed ps) s h = (not_default g (keyed ps) h.0 s, h.1)

shown_sound : (g : FieldShape) (v : Option Val) → MayHave g v → IsAt g (shown types_shape g.presence g.kind v)
shown_sound g None h = tt
shown_sound g (Some v) h = at g.presence refl (is_default types_shape g.kind v) refl
  where
    at : (b : Bool) → g.presence ≡ b → (d : Bool) → is_default types_shape g.kind v ≡ d → IsAt g (if b then Some v else (if d then None else Some v))
    at true e d f = fits_sound g v (inl e) h
    at false e true f = tt
    at false e false f = fits_sound g v (inr f) h

-- ---- all values

with_sound : (all : List FieldShape) (g : FieldShape) (v : Option Val) (fs : Fields) → field_of g.number all ≡ Some g → IsAt g v → AreSound types_shape all fs
    → AreSound types_shape all (with_field g.number v fs)
with_sound all g None fs e sound rest = rest
with_sound all g (Some v) fs e sound rest = (subst (λ (o : Option FieldShape). IsSoundAt types_shape o v) (sym e) sound, rest)

values_sound : (all gs : List FieldShape) (vs : List (Option Val)) → AreListed all gs → AreValues gs vs → AreSound types_shape all (fields_from gs vs)
values_sound all [] [] found h = tt
values_sound all [] (v ∷ vs) found h = absurd h
values_sound all (g ∷ gs) [] found h = absurd h
values_sound all (g ∷ gs) (v ∷ vs) found h =
    with_sound all g (shown types_shape g.presence g.kind v) (fields_from gs vs) found.0 (shown_sound g v h.0) (values_sound all gs vs found.1 h.1)

-- ---- the whole content

pub content_sound : (t : ℕ) (gs : List FieldShape) (vs : List (Option Val)) (rs : List Rec) → fields_of types_shape t ≡ gs → AreValues gs vs → has_one_member gs (fields_from gs vs) ≡ true
    → are_fit (writable gs rs) ≡ true → IsSound types_shape t (record_content gs vs rs)
content_sound t gs vs rs e values one fit =
    let fs = fields_from gs vs in
    let ascending = subst (AreAbove 0) e (fields_above types_shape t types_shape_proper) in
    subst (λ (hs : List FieldShape). IsAscending fs × AreSound types_shape hs fs × IsTrue (has_one_member hs fs) × AreKept hs (writable gs rs)) (sym e)
    (ascends fs (ascend_from 0 gs vs ascending), values_sound gs gs vs (all_listed 0 gs ascending) values, one, kept gs rs fit)
