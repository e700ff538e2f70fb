-- No two exact records hold the same content.
use Rattle.std.proofs.Common.{◌≡◌, ℕ, ℤ, ◌<◌, Bool, true, false, List, [], ◌∷◌, map, Option, Some, None, option_map, refl, sym, ap, ◌∙◌, subst, arith, if◌then◌else◌}
use Rattle.std.specs.Prelude.{◌&&◌, ◌||◌, not}
use Rattle.pbx_wire.proofs.Written.{both}
use Rattle.pbx_wire.specs.declared.rec.Rec.{Rec}
use Rattle.pbx_content.specs.declared.shape.FieldShape.{FieldShape}
use Rattle.pbx_content.specs.declared.shape.Kind.{Kind}
use Rattle.pbx_content.specs.declared.shape.Kind.TheVariants as kind
use Rattle.pbx_content.specs.Content.{Content, fields, kept, Fields, no_fields, field, Val, number, truth, text, octets, message, many, keyed, vals_of, IsAbove}
use Rattle.pbx_content.specs.Meaning.{with_field, shown, is_default}
use Rattle.pbx_content.specs.Shape.{fields_of}
use Rattle.pbx_content.proofs.WrittenOrder.{AreAbove, fields_above}
use Rattle.pbx_desc.specs.Exact.{are_writable}
use Rattle.pbx_desc_shapes.specs.TypesShape.{types_shape, any_fields, time_fields, mask_fields}
use Rattle.pbx_desc_shapes.proofs.WellKnownProper.{types_shape_proper}
use Rattle.pbx_types.specs.Exact.{is_shown, is_exact_with, is_exact_any, is_exact_duration, is_exact_empty, is_exact_mask, is_exact_timestamp}
use Rattle.pbx_types.specs.FieldContent.{is_writable, writable, fields_from, record_content}
use Rattle.pbx_types.specs.PlainContent.{any_content, duration_content, empty_content, mask_values, mask_content, timestamp_content}
use Rattle.pbx_types.specs.declared.any.Any.{Any}
use Rattle.pbx_types.specs.declared.any.Empty.{Empty}
use Rattle.pbx_types.specs.declared.mask.FieldMask.{FieldMask}
use Rattle.pbx_types.specs.declared.time.Duration.{Duration}
use Rattle.pbx_types.specs.declared.time.Timestamp.{Timestamp}
use Rattle.pbx_types.proofs.Fields.{ascend_from}
use Rattle.pbx_types.proofs.Types.{any_type, duration_type, mask_type, timestamp_type}

-- ---- values under ascending numbers

pub first_same : (n : ℕ) (v w : Option Val) (fs gs : Fields) → IsAbove n fs → IsAbove n gs → with_field n v fs ≡ with_field n w gs → (v ≡ w) × (fs ≡ gs)
first_same n None None fs gs a b e = (refl, e)
first_same n None (Some w) fs gs a b e = absurd (omega (arith, (subst (IsAbove n) e a).0))
first_same n (Some v) None fs gs a b e = absurd (omega (arith, (subst (IsAbove n) (sym e) b).0))
first_same n (Some v) (Some w) fs gs a b e =
    let first : v ≡ w = cc in
    let rest : fs ≡ gs = cc in
    (ap Some first, rest)

-- the field shows the same of both
abbrev AreShownAlike : FieldShape → Option Val → Option Val → Type 0
AreShownAlike g v w = shown types_shape g.presence g.kind v ≡ shown types_shape g.presence g.kind w

two_same : (g h : FieldShape) (u v x y : Option Val) → AreAbove 0 (g ∷ h ∷ []) → fields_from (g ∷ h ∷ []) (u ∷ v ∷ []) ≡ fields_from (g ∷ h ∷ []) (x ∷ y ∷ []) → AreShownAlike g u x × AreShownAlike h v y
two_same g h u v x y a e =
    let one =
    first_same g.number (shown types_shape g.presence g.kind u) (shown types_shape g.presence g.kind x) (fields_from (h ∷ []) (v ∷ [])) (fields_from (h ∷ []) (y ∷ []))
    (ascend_from g.number (h ∷ []) (v ∷ []) a.2) (ascend_from g.number (h ∷ []) (y ∷ []) a.2) e
    in
    let two = first_same h.number (shown types_shape h.presence h.kind v) (shown types_shape h.presence h.kind y) no_fields no_fields tt tt one.1 in
    (one.0, two.0)

-- ---- what is shown

shown_if : (presence default : Bool) (v : Val) → presence || not default ≡ true → (if presence then Some v else (if default then None else Some v)) ≡ Some v
shown_if true default v h = refl
shown_if false true v h = absurd cc
shown_if false false v h = refl

numbers_one : (g : FieldShape) (a b : Option ℤ) → is_shown g (option_map number a) ≡ true → is_shown g (option_map number b) ≡ true → AreShownAlike g (option_map number a) (option_map number b) → a ≡ b
numbers_one g a b p q e = at a b (self a p) (self b q) e
  where
    self : (z : Option ℤ) → is_shown g (option_map number z) ≡ true → shown types_shape g.presence g.kind (option_map number z) ≡ option_map number z
    self None h = refl
    self (Some z) h = shown_if g.presence (is_default types_shape g.kind (number z)) (number z) h

    same : (a b : Option ℤ) → option_map number a ≡ option_map number b → a ≡ b
    same None None e = refl
    same None (Some b) e = absurd cc
    same (Some a) None e = absurd cc
    same (Some a) (Some b) e = let here : a ≡ b = cc in ap Some here

    at : (a b : Option ℤ) → shown types_shape g.presence g.kind (option_map number a) ≡ option_map number a → shown types_shape g.presence g.kind (option_map number b) ≡ option_map number b
        → AreShownAlike g (option_map number a) (option_map number b) → a ≡ b
    at a b p q e = same a b (sym p ∙ e ∙ q)

texts_one : (g : FieldShape) (a b : Option (List ℕ)) → is_shown g (option_map text a) ≡ true → is_shown g (option_map text b) ≡ true → AreShownAlike g (option_map text a) (option_map text b) → a ≡ b
texts_one g a b p q e = same a b (sym (self a p) ∙ e ∙ self b q)
  where
    self : (t : Option (List ℕ)) → is_shown g (option_map text t) ≡ true → shown types_shape g.presence g.kind (option_map text t) ≡ option_map text t
    self None h = refl
    self (Some t) h = shown_if g.presence (is_default types_shape g.kind (text t)) (text t) h

    same : (a b : Option (List ℕ)) → option_map text a ≡ option_map text b → a ≡ b
    same None None e = refl
    same None (Some b) e = absurd cc
    same (Some a) None e = absurd cc
    same (Some a) (Some b) e = let here : a ≡ b = cc in ap Some here

octets_one : (g : FieldShape) (a b : Option (List ℕ)) → is_shown g (option_map octets a) ≡ true → is_shown g (option_map octets b) ≡ true → AreShownAlike g (option_map octets a) (option_map octets b) → a ≡ b
octets_one g a b p q e = same a b (sym (self a p) ∙ e ∙ self b q)
  where
    self : (t : Option (List ℕ)) → is_shown g (option_map octets t) ≡ true → shown types_shape g.presence g.kind (option_map octets t) ≡ option_map octets t
    self None h = refl
    self (Some t) h = shown_if g.presence (is_default types_shape g.kind (octets t)) (octets t) h

    same : (a b : Option (List ℕ)) → option_map octets a ≡ option_map octets b → a ≡ b
    same None None e = refl
    same None (Some b) e = absurd cc
    same (Some a) None e = absurd cc
    same (Some a) (Some b) e = let here : a ≡ b = cc in ap Some here

-- ---- lists of texts

texts_in : (as' bs : List (List ℕ)) → vals_of (map text as') ≡ vals_of (map text bs) → as' ≡ bs
texts_in [] [] e = refl
texts_in [] (b ∷ bs) e = absurd cc
texts_in (a ∷ as') [] e = absurd cc
texts_in (a ∷ as') (b ∷ bs) e =
    let first : a ≡ b = cc in
    let rest = texts_in as' bs (let same : vals_of (map text as') ≡ vals_of (map text bs) = cc in same) in
    λ i. first i ∷ rest i

paths_one : (as' bs : List (List ℕ)) → shown types_shape false kind.String (Some (many (vals_of (map text as')))) ≡ shown types_shape false kind.String (Some (many (vals_of (map text bs)))) → as' ≡ bs
paths_one [] [] e = refl
paths_one [] (b ∷ bs) e = absurd cc
paths_one (a ∷ as') [] e = absurd cc
paths_one (a ∷ as') (b ∷ bs) e = texts_in (a ∷ as') (b ∷ bs) (let same : vals_of (map text (a ∷ as')) ≡ vals_of (map text (b ∷ bs)) = cc in same)

-- ---- unknown records

all_written : (gs : List FieldShape) (rs : List Rec) → are_writable gs rs ≡ true → writable gs rs ≡ rs
all_written gs [] h = refl
all_written gs (r ∷ rs) h = let parts = both (is_writable gs r) (are_writable gs rs) h in rw (parts.0, all_written gs rs parts.1) refl

pub unknown_one : (gs : List FieldShape) (vs ws : List (Option Val)) (rs ss : List Rec) → are_writable gs rs ≡ true → are_writable gs ss ≡ true → record_content gs vs rs ≡ record_content gs ws ss → rs ≡ ss
unknown_one gs vs ws rs ss p q e = sym (all_written gs rs p) ∙ ap kept e ∙ all_written gs ss q

-- ---- two fields

-- what two exact records of two fields have in common
record AreTwo (g h : FieldShape) (u v x y : Option Val) (rs ss : List Rec) : Type 0 where
  one_first : is_shown g u ≡ true
  one_second : is_shown g x ≡ true
  two_first : is_shown h v ≡ true
  two_second : is_shown h y ≡ true
  one : AreShownAlike g u x
  two : AreShownAlike h v y
  unknown : rs ≡ ss

two_of : (t : ℕ) (g h : FieldShape) (u v x y : Option Val) (rs ss : List Rec) → fields_of types_shape t ≡ g ∷ h ∷ [] → is_exact_with (g ∷ h ∷ []) (u ∷ v ∷ []) rs ≡ true → is_exact_with (g ∷ h ∷ []) (x ∷ y ∷ []) ss ≡ true
    → record_content (g ∷ h ∷ []) (u ∷ v ∷ []) rs ≡ record_content (g ∷ h ∷ []) (x ∷ y ∷ []) ss → AreTwo g h u v x y rs ss
two_of t g h u v x y rs ss type p q e =
    let ps = both (is_shown g u && (is_shown h v && true)) (are_writable (g ∷ h ∷ []) rs) p in
    let qs = both (is_shown g x && (is_shown h y && true)) (are_writable (g ∷ h ∷ []) ss) q in
    let us = both (is_shown g u) (is_shown h v && true) ps.0 in
    let xs = both (is_shown g x) (is_shown h y && true) qs.0 in
    let same = two_same g h u v x y (subst (AreAbove 0) type (fields_above types_shape t types_shape_proper)) (ap fields e) in
    record {
      one_first = us.0;
      one_second = xs.0;
      two_first = (both (is_shown h v) true us.1).0;
      two_second = (both (is_shown h y) true xs.1).0;
      one = same.0;
      two = same.1;
      unknown = unknown_one (g ∷ h ∷ []) (u ∷ v ∷ []) (x ∷ y ∷ []) rs ss ps.1 qs.1 e;
    }

number_first : {g h : FieldShape} {v y : Option Val} {rs ss : List Rec} (a b : Option ℤ) → AreTwo g h (option_map number a) v (option_map number b) y rs ss → a ≡ b
number_first {g} a b two = numbers_one g a b two.one_first two.one_second two.one

number_second : {g h : FieldShape} {u x : Option Val} {rs ss : List Rec} (a b : Option ℤ) → AreTwo g h u (option_map number a) x (option_map number b) rs ss → a ≡ b
number_second {g} {h} a b two = numbers_one h a b two.two_first two.two_second two.two

text_first : {g h : FieldShape} {v y : Option Val} {rs ss : List Rec} (a b : Option (List ℕ)) → AreTwo g h (option_map text a) v (option_map text b) y rs ss → a ≡ b
text_first {g} a b two = texts_one g a b two.one_first two.one_second two.one

octets_second : {g h : FieldShape} {u x : Option Val} {rs ss : List Rec} (a b : Option (List ℕ)) → AreTwo g h u (option_map octets a) x (option_map octets b) rs ss → a ≡ b
octets_second {g} {h} a b two = octets_one h a b two.two_first two.two_second two.two

-- ---- each record

pub any_one : (a b : Any) → is_exact_any a ≡ true → is_exact_any b ≡ true → any_content a ≡ any_content b → a ≡ b
any_one a b p q e =
    let two = two_of 0 _ _ (option_map text a.type_url) (option_map octets a.value) (option_map text b.type_url) (option_map octets b.value) a.unknown b.unknown any_type p q e in
    let type_url = text_first a.type_url b.type_url two in
    let value = octets_second a.value b.value two in
    λ i. record { type_url = type_url i; value = value i; unknown = two.unknown i }

pub duration_one : (a b : Duration) → is_exact_duration a ≡ true → is_exact_duration b ≡ true → duration_content a ≡ duration_content b → a ≡ b
duration_one a b p q e =
    let two = two_of 1 _ _ (option_map number a.seconds) (option_map number a.nanos) (option_map number b.seconds) (option_map number b.nanos) a.unknown b.unknown duration_type p q e in
    let seconds = number_first a.seconds b.seconds two in
    let nanos = number_second a.nanos b.nanos two in
    λ i. record { seconds = seconds i; nanos = nanos i; unknown = two.unknown i }

pub timestamp_one : (a b : Timestamp) → is_exact_timestamp a ≡ true → is_exact_timestamp b ≡ true → timestamp_content a ≡ timestamp_content b → a ≡ b
timestamp_one a b p q e =
    let two = two_of 8 _ _ (option_map number a.seconds) (option_map number a.nanos) (option_map number b.seconds) (option_map number b.nanos) a.unknown b.unknown timestamp_type p q e in
    let seconds = number_first a.seconds b.seconds two in
    let nanos = number_second a.nanos b.nanos two in
    λ i. record { seconds = seconds i; nanos = nanos i; unknown = two.unknown i }

pub empty_one : (a b : Empty) → is_exact_empty a ≡ true → is_exact_empty b ≡ true → empty_content a ≡ empty_content b → a ≡ b
empty_one a b p q e = let same = unknown_one [] [] [] a.unknown b.unknown p q e in λ i. record { unknown = same i }

pub mask_one : (a b : FieldMask) → is_exact_mask a ≡ true → is_exact_mask b ≡ true → mask_content a ≡ mask_content b → a ≡ b
mask_one a b p q e =
    let alike = first_same 1 (shown types_shape false kind.String (Some (many (vals_of (map text a.paths))))) (shown types_shape false kind.String (Some (many (vals_of (map text b.paths))))) no_fields no_fields tt tt (ap fields e) in
    let paths = paths_one a.paths b.paths alike.0 in
    let unknown = unknown_one mask_fields (mask_values a) (mask_values b) a.unknown b.unknown p q e in
    λ i. record { paths = paths i; unknown = unknown i }
