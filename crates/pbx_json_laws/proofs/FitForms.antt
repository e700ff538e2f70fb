-- The parts of a content that a type's own form makes are of the type.
use Rattle.std.proofs.Common.{◌≡◌, ◌⊎◌, inl, inr, ℕ, ◌<◌, ◌==◌, ◌&&◌, ℤ, List, [], ◌∷◌, map as map_list, Bool, true, false, not, if◌then◌else◌, Option, Some, None, refl, ap, sym, ◌∙◌, subst, arith}
use Rattle.std.specs.List.{AllByRecursion, list_all}
use Rattle.std.specs.Str.{is_utf8}
use Rattle.std.proofs.lemmas.Bool.{eqb-true}
use Rattle.std.proofs.lemmas.Bool.Decides.{nat_tests}
use Rattle.pbx_content.specs.Content as content
use Rattle.pbx_content.specs.Content.{Content, Fields, Val, has, vals_of, IsAscending, IsAbove}
use Rattle.pbx_content.specs.Encoding.{encoded}
use Rattle.pbx_content.specs.Meaning.{shown, is_default}
use Rattle.pbx_content.specs.Shape.{declared_of, fields_of, field_of, is_other, same_oneof}
use Rattle.pbx_content.specs.Sound.{IsProper, has_one_member}
use Rattle.pbx_content.specs.declared.shape.Kind.{Kind}
use Rattle.pbx_content.specs.declared.shape.Kind.TheVariants as kind
use Rattle.pbx_content.specs.declared.shape.Cardinality.TheVariants.{Singular, Repeated, Map}
use Rattle.pbx_content.specs.declared.shape.FieldShape.{FieldShape}
use Rattle.pbx_content.specs.declared.shape.Shape.{Shape}
use Rattle.base64.specs.GeneralPurpose.{IsBytes}
use Rattle.pbx_text.proofs.MaskTexts.{AreTexts}
use Rattle.pbx_text.proofs.Ranges.{HasBits}
use Rattle.pbx_wkt_types.specs.Known.{Row, any_rows, of_value, mask_rows, seconds_and_nanos}
use Rattle.pbx_wkt_types.specs.Shapes.{form_of}
use Rattle.pbx_wkt_types.proofs.Declared.{HasRow}
use Rattle.pbx_json_meaning.specs.Asked.{single, list, map, target_by, presence_by, has_presence}
use Rattle.pbx_json_meaning.specs.Forms.{kind_in, kind_at, shown_at, with_first, filled, made, time_of, mask_of_paths, holding, packed}
use Rattle.pbx_json_laws.proofs.FaultFields.{failing}
use Rattle.pbx_json_laws.proofs.FitShown.{list_absent, no_default}
use Rattle.pbx_json_laws.proofs.Fits.{Fits, FitsAs, FieldsFit, AllFit, FitsOption, IsOwnRead}
use Rattle.pbx_json_laws.proofs.Numbers.{AreDistinct, field_of-by_number, found_number}
use Rattle.pbx_json_laws.proofs.Parts.{found_passes, from_not, of_some}
use Rattle.pbx_json_laws.proofs.Puts.{above-ascending}

-- ---- oneofs

all_true : (p : FieldShape → Bool) → ((f : FieldShape) → p f ≡ true) → (fs : List FieldShape) → list_all p fs ≡ true
all_true p e [] = refl
all_true p e (f ∷ fs) = rw (e f, all_true p e fs) refl

-- what each field passes that is told by its number all pass
all_numbered : (p : FieldShape → Bool) (fs : List FieldShape) → AreDistinct fs → ((f : FieldShape) → field_of f.number fs ≡ Some f → p f ≡ true)
    → list_all p fs ≡ true
all_numbered p fs distinct each = at (list_all p fs) refl
  where
    at : (b : Bool) → list_all p fs ≡ b → b ≡ true
    at true e = refl
    at false e =
        let it = failing p fs e in
        let no : p it.0 ≡ false = from_not (p it.0) (found_passes (λ x. not (p x)) fs it.0 it.1) in
        absurd (let bad : true ≡ false = sym (each it.0 (found_number fs distinct (λ x. not (p x)) it.0 it.1)) ∙ no in cc)

-- the field of a number, which is in no oneof
abbrev IsApart : List FieldShape → ℕ → Type 0
IsApart gs n = (f : FieldShape) × (field_of n gs ≡ Some f) × (f.oneof ≡ None)

one_member : (gs : List FieldShape) (fs : Fields) → AreDistinct gs → ((n : ℕ) → has n fs ≡ true → IsApart gs n) → has_one_member gs fs ≡ true
one_member gs fs distinct apart = all_numbered (λ f. list_all (pair f) gs) gs distinct (λ f own. at f own (has f.number fs) refl)
  where
    pair : FieldShape → FieldShape → Bool
    pair f g = not (is_other f g && has f.number fs && has g.number fs)

    absent : (a b c : Bool) → b ≡ false → not (a && b && c) ≡ true
    absent true b c e = rw e refl
    absent false b c e = refl

    at : (f : FieldShape) → field_of f.number gs ≡ Some f → (b : Bool) → has f.number fs ≡ b → list_all (pair f) gs ≡ true
    at f own false e = all_true (pair f) (λ g. absent (is_other f g) (has f.number fs) (has g.number fs) e) gs
    at f own true e =
        let it = apart f.number e in
        let same : it.0 ≡ f = of_some it.0 f (sym it.1 ∙ own) in
        let none : f.oneof ≡ None = ap (λ x. x.oneof) (sym same) ∙ it.2 in
        all_true (pair f) (λ g. rw none refl) gs

-- one value alone is of one member
lone_member : (gs : List FieldShape) (n : ℕ) (o : Option Val) → has_one_member gs (with_first n o content.no_fields) ≡ true
lone_member gs n o = all_true (λ f. list_all (pair o f) gs) (λ f. all_true (pair o f) (λ g. at o f g) gs) gs
  where
    pair : Option Val → FieldShape → FieldShape → Bool
    pair o f g = not (is_other f g && has f.number (with_first n o content.no_fields) && has g.number (with_first n o content.no_fields))

    absent : (a : Bool) → not (a && false && false) ≡ true
    absent true = refl
    absent false = refl

    cases : (a b c e : Bool) → (c ≡ true → e ≡ true → b ≡ true) → not (a && not b && (if c then true else false) && (if e then true else false)) ≡ true
    cases false b c e h = refl
    cases true true c e h = refl
    cases true false false e h = refl
    cases true false true false h = refl
    cases true false true true h = absurd (let bad : false ≡ true = h refl refl in cc)

    same_numbers : (a b : ℕ) → (a == n) ≡ true → (b == n) ≡ true → (a == b) ≡ true
    same_numbers a b p q = grind (arith, nat_tests)

    at : (o : Option Val) (f g : FieldShape) → pair o f g ≡ true
    at None f g = absent (is_other f g)
    at (Some v) f g =
        cases (same_oneof f.oneof g.oneof) (f.number == g.number) (f.number == n) (g.number == n) (same_numbers f.number g.number)

-- ---- fields at ascending numbers

abbrev AreUp : ℕ → List (ℕ × Val) → Type 0
AreUp m [] = Unit {0}
AreUp m (p ∷ ps) = (m < p.0) × AreUp p.0 ps

lower : (m n : ℕ) (fs : Fields) → m < n → IsAbove n fs → IsAbove m fs
lower m n content.no_fields lt h = tt
lower m n (content.field k v fs) lt h = (omega (arith, h.0), h.1)

module _ (shape : Shape) (t : ℕ) where
  -- a value for the field of a number; the value fits where it is shown
  pub record IsPart (p : ℕ × Val) : Type 0 where
    own : FieldShape
    there : field_of p.0 (fields_of shape t) ≡ Some own
    fits : shown shape (has_presence own) own.kind (Some p.1) ≡ Some p.1 → Fits shape p.1 (target_by own own.cardinality)

  abbrev filled_with : List (ℕ × Val) → Fields
  filled_with ps = filled shape (fields_of shape t) ps

  shown_or_not : (f : FieldShape) (v : Val) (b c : Bool)
      → ((if b then Some v else (if c then None else Some v)) ≡ None) ⊎ ((if b then Some v else (if c then None else Some v)) ≡ Some v)
  shown_or_not f v true c = inr refl
  shown_or_not f v false true = inl refl
  shown_or_not f v false false = inr refl

  -- the value is hidden, or stands at its number
  either_way : (p : ℕ × Val) → (it : IsPart p) → (shown_at shape (field_of p.0 (fields_of shape t)) p.1 ≡ None)
      ⊎ ((shown_at shape (field_of p.0 (fields_of shape t)) p.1 ≡ Some p.1) × FitsOption shape p.1 (Fits shape p.1) (Some it.own))
  either_way p it = at (shown_or_not it.own p.1 (has_presence it.own) (is_default shape it.own.kind p.1))
    where
      is : shown_at shape (field_of p.0 (fields_of shape t)) p.1 ≡ shown shape (has_presence it.own) it.own.kind (Some p.1)
      is = ap (λ o. shown_at shape o p.1) it.there

      at : (shown shape (has_presence it.own) it.own.kind (Some p.1) ≡ None) ⊎ (shown shape (has_presence it.own) it.own.kind (Some p.1) ≡ Some p.1)
          → (shown_at shape (field_of p.0 (fields_of shape t)) p.1 ≡ None)
          ⊎ ((shown_at shape (field_of p.0 (fields_of shape t)) p.1 ≡ Some p.1) × FitsOption shape p.1 (Fits shape p.1) (Some it.own))
      at (inl e) = inl (is ∙ e)
      at (inr e) = inr (is ∙ e, (it.fits e, e))

  declared_there : (n : ℕ) (f : FieldShape) → field_of n (fields_of shape t) ≡ Some f → field_of n (declared_of shape t) ≡ Some f
  declared_there n f e = sym (field_of-by_number n (declared_of shape t)) ∙ e

  filled_above : (m : ℕ) (ps : List (ℕ × Val)) → AreUp m ps → IsAbove m (filled_with ps)
  filled_above m [] h = tt
  filled_above m (p ∷ ps) h = at (shown_at shape (field_of p.0 (fields_of shape t)) p.1) (filled_above p.0 ps h.1)
    where
      at : (o : Option Val) → IsAbove p.0 (filled_with ps) → IsAbove m (with_first p.0 o (filled_with ps))
      at None k = lower m p.0 (filled_with ps) h.0 k
      at (Some v) k = (h.0, k)

  filled_fit : (ps : List (ℕ × Val)) → AllByRecursion IsPart ps → FieldsFit shape (filled_with ps) (declared_of shape t)
  filled_fit [] h = tt
  filled_fit (p ∷ ps) h = at (either_way p h.0) (filled_fit ps h.1)
    where
      at : (shown_at shape (field_of p.0 (fields_of shape t)) p.1 ≡ None)
          ⊎ ((shown_at shape (field_of p.0 (fields_of shape t)) p.1 ≡ Some p.1) × FitsOption shape p.1 (Fits shape p.1) (Some h.0.own))
          → FieldsFit shape (filled_with ps) (declared_of shape t) → FieldsFit shape (filled_with (p ∷ ps)) (declared_of shape t)
      at (inl e) k = rw e k
      at (inr e) k =
          let P : Option FieldShape → Type 0 = λ o. FitsOption shape p.1 (Fits shape p.1) o in
          rw e.0 (subst P (sym (declared_there p.0 h.0.own h.0.there)) e.1, k)

  -- each number is that of a field in no oneof
  abbrev AreApart : List (ℕ × Val) → Type 0
  AreApart ps = AllByRecursion (λ (p : ℕ × Val). IsApart (declared_of shape t) p.0) ps

  filled_apart : (ps : List (ℕ × Val)) → AreApart ps → (n : ℕ) → has n (filled_with ps) ≡ true → IsApart (declared_of shape t) n
  filled_apart [] h n e = absurd (cc)
  filled_apart (p ∷ ps) h n e = at (shown_at shape (field_of p.0 (fields_of shape t)) p.1) e (filled_apart ps h.1 n)
    where
      found : (b : Bool) → (n == p.0) ≡ b → (if b then true else has n (filled_with ps)) ≡ true
          → (has n (filled_with ps) ≡ true → IsApart (declared_of shape t) n) → IsApart (declared_of shape t) n
      found true q k later = let same : n ≡ p.0 = eqb-true n p.0 q in subst (IsApart (declared_of shape t)) (sym same) h.0
      found false q k later = later k

      at : (o : Option Val) → has n (with_first p.0 o (filled_with ps)) ≡ true
          → (has n (filled_with ps) ≡ true → IsApart (declared_of shape t) n) → IsApart (declared_of shape t) n
      at None k later = later k
      at (Some v) k later = found (n == p.0) refl k later

  made_fits : IsProper shape → (ps : List (ℕ × Val)) → AreUp 0 ps → AllByRecursion IsPart ps → AreApart ps
      → IsOwnRead shape t (form_of shape t) (made shape t ps) → FitsAs shape (made shape t ps) t
  made_fits proper ps up each apart own = (
    refl,
    own,
    above-ascending 0 (filled_with ps) (filled_above 0 ps up),
    one_member (declared_of shape t) (filled_with ps) (proper.types t).distinct (filled_apart ps apart),
    filled_fit ps each,
  )

  -- one value at a number
  pub held_one : (n : ℕ) (v : Val) → 0 < n → IsPart (n, v) → IsOwnRead shape t (form_of shape t) (holding shape t n (Some v))
      → FitsAs shape (holding shape t n (Some v)) t
  held_one n v lt part own = (
    refl,
    own,
    above-ascending 0 (filled_with ((n, v) ∷ [])) (filled_above 0 ((n, v) ∷ []) (lt, tt)),
    lone_member (declared_of shape t) n (shown_at shape (field_of n (fields_of shape t)) v),
    filled_fit ((n, v) ∷ []) (part, tt),
  )

  -- the same, if there is one
  pub held_fits : (n : ℕ) (o : Option Val) → 0 < n → ((v : Val) → o ≡ Some v → IsPart (n, v)) → IsOwnRead shape t (form_of shape t) (holding shape t n o)
      → FitsAs shape (holding shape t n o) t
  held_fits n None lt part own =
      (refl, own, above-ascending 0 content.no_fields tt, lone_member (declared_of shape t) n None, tt)
  held_fits n (Some v) lt part own = held_one n v lt (part v refl) own

  -- ---- the parts of each form

  row_apart : (r : Row) → HasRow shape t r → r.oneof ≡ None → IsApart (declared_of shape t) r.number
  row_apart r row none = (row.field, declared_there r.number row.field row.there, row.of_oneof ∙ none)

  pub singular_part : (r : Row) (k : Kind) (v : Val) → (row : HasRow shape t r) → row.field.cardinality ≡ Singular → row.field.kind ≡ k
      → Fits shape v (single k) → IsPart (r.number, v)
  singular_part r k v row c of_kind fits = record { own = row.field; there = row.there; fits = λ s. rw (c, of_kind) fits }

  pub list_part : (r : Row) (v : Val) → (row : HasRow shape t r) → row.field.cardinality ≡ Repeated → Fits shape v (list (kind_at shape t r.number))
      → IsPart (r.number, v)
  list_part r v row c fits =
      let P : Kind → Type 0 = λ k. Fits shape v (list k) in
      let of_field = subst P (ap kind_in row.there) fits in
      record { own = row.field; there = row.there; fits = λ s. rw c of_field }

  pub map_part : (r : Row) (kk : Kind) (v : Val) → (row : HasRow shape t r) → row.field.cardinality ≡ Map kk
      → Fits shape v (map kk (kind_at shape t r.number)) → IsPart (r.number, v)
  map_part r kk v row c fits =
      let P : Kind → Type 0 = λ k. Fits shape v (map kk k) in
      let of_field = subst P (ap kind_in row.there) fits in
      record { own = row.field; there = row.there; fits = λ s. rw c of_field }

  texts_fit : (paths : List (List ℕ)) → AreTexts paths → AllFit shape (vals_of (map_list content.text paths)) kind.String
  texts_fit [] h = tt
  texts_fit (p ∷ ps) h = ((refl, h.0), texts_fit ps h.1)

  shown_list : (f : FieldShape) (v : Val) → f.cardinality ≡ Repeated → shown shape (has_presence f) f.kind (Some v) ≡ Some v → is_default shape f.kind v ≡ false
  shown_list f v c s =
      let off : has_presence f ≡ false = ap (presence_by f.presence f.kind) c ∙ list_absent f.presence f.kind in
      no_default shape f.kind v (ap (λ p. shown shape p f.kind (Some v)) (sym off) ∙ s)

  paths_part : (r : Row) (paths : List (List ℕ)) → (row : HasRow shape t r) → row.field.cardinality ≡ Repeated → row.field.kind ≡ kind.String
      → AreTexts paths → IsPart (r.number, content.many (vals_of (map_list content.text paths)))
  paths_part r paths row c of_kind texts = record {
    own = row.field;
    there = row.there;
    fits = λ s.
        let full = shown_list row.field (content.many (vals_of (map_list content.text paths))) c s in
        rw (c, of_kind) (ap (λ k. is_default shape k (content.many (vals_of (map_list content.text paths)))) (sym of_kind) ∙ full, texts_fit paths texts);
  }

  pub time_fits : IsProper shape → (rows : List Row) → rows ≡ seconds_and_nanos → AllByRecursion (HasRow shape t) rows → (sn : ℤ × ℤ) → HasBits sn
      → IsOwnRead shape t (form_of shape t) (time_of shape t sn) → FitsAs shape (time_of shape t sn) t
  time_fits proper rows are each sn bits own =
      let two : AllByRecursion (HasRow shape t) seconds_and_nanos = subst (AllByRecursion (HasRow shape t)) are each in
      made_fits proper ((1, content.number sn.0) ∷ (2, content.number sn.1) ∷ []) (omega arith, (omega arith, tt)) (
        singular_part _ kind.Int64 (content.number sn.0) two.0 two.0.of_cardinality two.0.of_sort (bits.0, tt),
        (singular_part _ kind.Int32 (content.number sn.1) two.1.0 two.1.0.of_cardinality two.1.0.of_sort (bits.1, tt), tt),
      ) (row_apart _ two.0 refl, (row_apart _ two.1.0 refl, tt)) own

  pub mask_fits : (rows : List Row) → rows ≡ mask_rows → AllByRecursion (HasRow shape t) rows → (paths : List (List ℕ)) → AreTexts paths
      → IsOwnRead shape t (form_of shape t) (mask_of_paths shape t paths) → FitsAs shape (mask_of_paths shape t paths) t
  mask_fits rows are each paths texts own =
      let one : AllByRecursion (HasRow shape t) mask_rows = subst (AllByRecursion (HasRow shape t)) are each in
      held_one 1 (content.many (vals_of (map_list content.text paths))) (omega arith) (paths_part _ paths one.0 one.0.of_cardinality one.0.of_sort texts) own

  pub packed_fits : IsProper shape → (rows : List Row) → rows ≡ any_rows → AllByRecursion (HasRow shape t) rows → (url : List ℕ) (u : ℕ) (p : Content)
      → is_utf8 url ≡ true → IsBytes (encoded shape u p) → IsOwnRead shape t (form_of shape t) (packed shape t url u p)
      → FitsAs shape (packed shape t url u p) t
  packed_fits proper rows are each url u p utf8 bytes own =
      let two : AllByRecursion (HasRow shape t) any_rows = subst (AllByRecursion (HasRow shape t)) are each in
      made_fits proper ((1, content.text url) ∷ (2, content.octets (encoded shape u p)) ∷ []) (omega arith, (omega arith, tt)) (
        singular_part _ kind.String (content.text url) two.0 two.0.of_cardinality two.0.of_sort (refl, utf8),
        (singular_part _ kind.Bytes (content.octets (encoded shape u p)) two.1.0 two.1.0.of_cardinality two.1.0.of_sort (refl, bytes), tt),
      ) (row_apart _ two.0 refl, (row_apart _ two.1.0 refl, tt)) own

  pub wrapper_fits : (k : Kind) (rows : List Row) → rows ≡ of_value k → AllByRecursion (HasRow shape t) rows → (o : Option Val)
      → ((v : Val) → o ≡ Some v → Fits shape v (single (kind_at shape t 1)))
      → IsOwnRead shape t (form_of shape t) (holding shape t 1 o) → FitsAs shape (holding shape t 1 o) t
  wrapper_fits k rows are each o fits own =
      let one : AllByRecursion (HasRow shape t) (of_value k) = subst (AllByRecursion (HasRow shape t)) are each in
      let is : kind_at shape t 1 ≡ k = ap kind_in one.0.there ∙ one.0.of_sort in
      held_fits 1 o (omega arith) (λ v e. singular_part _ k v one.0 one.0.of_cardinality one.0.of_sort (of_kind v is (fits v e))) own
    where
      of_kind : (v : Val) → kind_at shape t 1 ≡ k → Fits shape v (single (kind_at shape t 1)) → Fits shape v (single k)
      of_kind v is h = let P : Kind → Type 0 = λ x. Fits shape v (single x) in subst P is h
