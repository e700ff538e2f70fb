-- The fields that a `Value` has, and no others; and the forms of the messages that it holds.
use Rattle.std.proofs.Common.{◌≡◌, inr, inl, ◌⊎◌, ℕ, ◌+◌, ◌==◌, ◌&&◌, ◌||◌, List, [], ◌∷◌, length, Bool, true, false, not, if◌then◌else◌, Some, codes, refl, ap, sym, ◌∙◌, subst, arith}
use Rattle.std.specs.List.{list_any, list_all}
use Rattle.std.proofs.lemmas.Bool.{eqb-true}
use Rattle.std.proofs.lemmas.Bool.Decides.{nat_tests}
use Rattle.pbx_content.specs.Shape.{declared_of, fields_of, field_of}
use Rattle.pbx_content.specs.declared.shape.Cardinality.TheVariants.{Singular}
use Rattle.pbx_content.specs.declared.shape.Kind.{Kind}
use Rattle.pbx_content.specs.declared.shape.Kind.TheVariants as kind
use Rattle.pbx_content.specs.declared.shape.FieldShape.{FieldShape}
use Rattle.pbx_content.specs.declared.shape.Shape.{Shape}
use Rattle.pbx_wkt_types.specs.Known.{google, known_of, value_rows, Row}
use Rattle.pbx_wkt_types.specs.Shapes.{form_of, form_by}
use Rattle.pbx_wkt_types.specs.Types.{message_name}
use Rattle.pbx_wkt_types.specs.declared.form.Form.{Form}
use Rattle.pbx_wkt_types.specs.declared.form.Form.TheVariants as forms
use Rattle.pbx_wkt_types.proofs.Declared.{HasRow, HasRows}
use Rattle.pbx_wkt_types.proofs.Forms.{value_fields}
use Rattle.pbx_json_laws.proofs.Numbers.{has_number, number_of_field, field_of-by_number}
use Rattle.pbx_json_laws.proofs.Parts.{of_some, both}

-- ---- numbers

-- the fields but for the first of the number
abbrev without : ℕ → List FieldShape → List FieldShape
without m [] = []
without m (f ∷ fs) = if f.number == m then fs else f ∷ without m fs

one_less : (m k : ℕ) (fs : List FieldShape) → length fs ≡ 1 + k → has_number m fs ≡ true → length (without m fs) ≡ k
one_less m k [] e h = absurd (cc)
one_less m k (f ∷ fs) e h = at (f.number == m) h (shorter fs k)
  where
    shorter : (fs : List FieldShape) (k : ℕ) → length fs ≡ k → has_number m fs ≡ true → 1 + length (without m fs) ≡ k
    shorter [] k e h = absurd (cc)
    shorter (g ∷ gs) k e h = by (g.number == m) h (shorter gs (length gs) refl)
      where
        by : (b : Bool) → (b || has_number m gs) ≡ true → (has_number m gs ≡ true → 1 + length (without m gs) ≡ length gs)
            → 1 + length (if b then gs else g ∷ without m gs) ≡ k
        by true q ih = omega (arith, e)
        by false q ih = let rest = ih q in omega (arith, e, rest)

    tail : length fs ≡ k
    tail = omega (arith, e)

    at : (b : Bool) → (b || has_number m fs) ≡ true → (length fs ≡ k → has_number m fs ≡ true → 1 + length (without m fs) ≡ k)
        → length (if b then fs else f ∷ without m fs) ≡ k
    at true q ih = tail
    at false q ih = let rest = ih tail q in omega (arith, rest)

still_there : (m n : ℕ) (fs : List FieldShape) → (n == m) ≡ false → has_number n fs ≡ true → has_number n (without m fs) ≡ true
still_there m n [] e h = absurd (cc)
still_there m n (f ∷ fs) e h = at (f.number == m) refl (f.number == n) refl h (still_there m n fs e)
  where
    at : (b : Bool) → (f.number == m) ≡ b → (a : Bool) → (f.number == n) ≡ a → (a || has_number n fs) ≡ true
        → (has_number n fs ≡ true → has_number n (without m fs) ≡ true)
        → has_number n (if b then fs else f ∷ without m fs) ≡ true
    at true p true q r ih = absurd (let same : (n == m) ≡ true = grind (arith, nat_tests) in let bad : true ≡ false = sym same ∙ e in cc)
    at true p false q r ih = r
    at false p true q r ih = rw q refl
    at false p false q r ih = rw q (ih r)

-- each number stands once
abbrev are_apart : List ℕ → Bool
are_apart [] = true
are_apart (m ∷ ns) = list_all (λ n. not (n == m)) ns && are_apart ns

are_still_there : (m : ℕ) (ns : List ℕ) (fs : List FieldShape) → list_all (λ n. not (n == m)) ns ≡ true
    → list_all (λ n. has_number n fs) ns ≡ true → list_all (λ n. has_number n (without m fs)) ns ≡ true
are_still_there m [] fs a h = refl
are_still_there m (n ∷ ns) fs a h =
    let p = both (not (n == m)) (list_all (λ n. not (n == m)) ns) a in
    let q = both (has_number n fs) (list_all (λ n. has_number n fs) ns) h in
    rw (still_there m n fs (unlike (n == m) p.0) q.0) (are_still_there m ns fs p.1 q.1)
  where
    unlike : (b : Bool) → not b ≡ true → b ≡ false
    unlike true e = absurd (cc)
    unlike false e = refl

-- as many fields as numbers that are there: no other number is
pub only_those : (ns : List ℕ) (fs : List FieldShape) (n : ℕ) → length fs ≡ length ns → are_apart ns ≡ true
    → list_all (λ m. has_number m fs) ns ≡ true → has_number n fs ≡ true → list_any (λ m. n == m) ns ≡ true
only_those [] [] n e a h i = absurd (cc)
only_those [] (f ∷ fs) n e a h i = absurd (cc)
only_those (m ∷ ns) fs n e a h i =
    at (n == m) refl
    (λ k. only_those ns (without m fs) n (one_less m (length ns) fs shorter q.0) p.1 (are_still_there m ns fs p.0 q.1)
    (still_there m n fs k i))
  where
    shorter : length fs ≡ 1 + length ns
    shorter = omega (arith, e)

    p : (list_all (λ n. not (n == m)) ns ≡ true) × (are_apart ns ≡ true)
    p = both (list_all (λ n. not (n == m)) ns) (are_apart ns) a

    q : (has_number m fs ≡ true) × (list_all (λ m. has_number m fs) ns ≡ true)
    q = both (has_number m fs) (list_all (λ m. has_number m fs) ns) h

    at : (b : Bool) → (n == m) ≡ b → ((n == m) ≡ false → list_any (λ m. n == m) ns ≡ true) → (b || list_any (λ m. n == m) ns) ≡ true
    at true k ih = refl
    at false k ih = ih k

-- ---- forms by names

-- of a `Struct` or a `ListValue`, or of a type that has another shape than its name
abbrev pub holds_several : Form → Bool
holds_several forms.Struct = true
holds_several forms.ListValue = true
holds_several forms.Misshapen = true
holds_several _ = false

form_or_misshapen : (b : Bool) (form : Form) → ((if b then form else forms.Misshapen) ≡ form) ⊎ ((if b then form else forms.Misshapen) ≡ forms.Misshapen)
form_or_misshapen true form = inl refl
form_or_misshapen false form = inr refl

pub struct_form : (shape : Shape) (u : ℕ) → message_name shape u ≡ google (codes "Struct")
    → (form_of shape u ≡ forms.Struct) ⊎ (form_of shape u ≡ forms.Misshapen)
unfolding form_of known_of
struct_form shape u e =
    let P : List ℕ → Type 0 = λ x. (form_by shape u (known_of x) ≡ forms.Struct) ⊎ (form_by shape u (known_of x) ≡ forms.Misshapen) in
    subst P (sym e) (form_or_misshapen _ forms.Struct)

pub list_form : (shape : Shape) (u : ℕ) → message_name shape u ≡ google (codes "ListValue")
    → (form_of shape u ≡ forms.ListValue) ⊎ (form_of shape u ≡ forms.Misshapen)
unfolding form_of known_of
list_form shape u e =
    let P : List ℕ → Type 0 = λ x. (form_by shape u (known_of x) ≡ forms.ListValue) ⊎ (form_by shape u (known_of x) ≡ forms.Misshapen) in
    subst P (sym e) (form_or_misshapen _ forms.ListValue)

either_holds : (x form : Form) → holds_several form ≡ true → (x ≡ form) ⊎ (x ≡ forms.Misshapen) → holds_several x ≡ true
either_holds x form h (inl e) = ap holds_several e ∙ h
either_holds x form h (inr e) = ap holds_several e

-- ---- the fields of a `Value`

-- what is known of a field of a `Value`
pub record IsOfValue (shape : Shape) (n : ℕ) (f : FieldShape) : Type 0 where
  pub single : f.cardinality ≡ Singular
  pub holds : (u : ℕ) → f.kind ≡ kind.Message u → holds_several (form_of shape u) ≡ true
  pub first : n ≡ 1 → (e : ℕ) × (f.kind ≡ kind.Enum e)

one_message : (t u : ℕ) → kind.Message t ≡ kind.Message u → t ≡ u
one_message t u h = cc

module _ (shape : Shape) (t : ℕ) (form : form_of shape t ≡ forms.Value) where
  has : HasRows shape t value_rows
  has = value_fields shape t form

  row_number : (r : Row) → HasRow shape t r → has_number r.number (declared_of shape t) ≡ true
  row_number r h = (number_of_field r.number (declared_of shape t) h.field (sym (field_of-by_number r.number (declared_of shape t)) ∙ h.there)).1

  scalar_row : (n : ℕ) (f : FieldShape) (k : Kind) → f.cardinality ≡ Singular → f.kind ≡ k → ((u : ℕ) → k ≡ kind.Message u → ⊥) → (n ≡ 1 → ⊥)
      → IsOfValue shape n f
  scalar_row n f k c e never other =
      record { single = c; holds = λ u h. absurd (never u (sym e ∙ h)); first = λ h. absurd (other h) }

  message_row : (n : ℕ) (f : FieldShape) (u : ℕ) → f.cardinality ≡ Singular → f.kind ≡ kind.Message u → holds_several (form_of shape u) ≡ true → (n ≡ 1 → ⊥)
      → IsOfValue shape n f
  message_row n f u c e holds other = record {
    single = c;
    holds = λ w h. let P : ℕ → Type 0 = λ x. holds_several (form_of shape x) ≡ true in subst P (one_message u w (sym e ∙ h)) holds;
    first = λ h. absurd (other h);
  }

  by_row : (n : ℕ) (r : Row) (f : FieldShape) → HasRow shape t r → (n == r.number) ≡ true → field_of n (fields_of shape t) ≡ Some f
      → ((g : FieldShape) → field_of r.number (fields_of shape t) ≡ Some g → IsOfValue shape r.number g) → IsOfValue shape n f
  by_row n r f h e there of =
      let same : n ≡ r.number = eqb-true n r.number e in
      let P : ℕ → Type 0 = λ x. IsOfValue shape x f in
      subst P (sym same) (of f (ap (λ x. field_of x (fields_of shape t)) (sym same) ∙ there))

  -- the field of a row is what holds of it
  of_row : (r : Row) (h : HasRow shape t r) (g : FieldShape) → field_of r.number (fields_of shape t) ≡ Some g → IsOfValue shape r.number h.field
      → IsOfValue shape r.number g
  of_row r h g there is =
      let P : FieldShape → Type 0 = λ x. IsOfValue shape r.number x in
      subst P (of_some h.field g (sym h.there ∙ there)) is

  pub of_value : (n : ℕ) (f : FieldShape) → field_of n (fields_of shape t) ≡ Some f → IsOfValue shape n f
  of_value n f there =
      at (n == 1) refl (n == 2) refl (n == 3) refl (n == 4) refl (n == 5) refl (n == 6) refl
      (only_those (1 ∷ 2 ∷ 3 ∷ 4 ∷ 5 ∷ 6 ∷ []) (declared_of shape t) n has.alone refl
      (rw (
        row_number _ has.each.0,
        row_number _ has.each.1.0,
        row_number _ has.each.1.1.0,
        row_number _ has.each.1.1.1.0,
        row_number _ has.each.1.1.1.1.0,
        row_number _ has.each.1.1.1.1.1.0,
      ) refl)
      (number_of_field n (declared_of shape t) f (sym (field_of-by_number n (declared_of shape t)) ∙ there)).1)
    where
      first_row : (g : FieldShape) → field_of 1 (fields_of shape t) ≡ Some g → IsOfValue shape 1 g
      first_row g e =
          let h = has.each.0 in
          of_row _ h g e (record {
            single = h.of_cardinality;
            holds = λ u k. absurd (let bad : kind.Enum h.of_sort.0 ≡ kind.Message u = sym h.of_sort.1 ∙ k in cc);
            first = λ k. (h.of_sort.0, h.of_sort.1);
          })

      at : (a : Bool) → (n == 1) ≡ a → (b : Bool) → (n == 2) ≡ b → (c : Bool) → (n == 3) ≡ c → (d : Bool) → (n == 4) ≡ d → (g : Bool) → (n == 5) ≡ g
          → (h : Bool) → (n == 6) ≡ h → (a || (b || (c || (d || (g || (h || false)))))) ≡ true → IsOfValue shape n f
      at true e b eb c ec d ed g eg h eh k = by_row n _ f has.each.0 e there first_row
      at false ea true e c ec d ed g eg h eh k =
          let r = has.each.1.0 in
          by_row n _ f r e there (λ x q. of_row _ r x q (scalar_row 2 r.field kind.Double r.of_cardinality r.of_sort (λ u z. cc) (λ z. cc)))
      at false ea false eb true e d ed g eg h eh k =
          let r = has.each.1.1.0 in
          by_row n _ f r e there (λ x q. of_row _ r x q (scalar_row 3 r.field kind.String r.of_cardinality r.of_sort (λ u z. cc) (λ z. cc)))
      at false ea false eb false ec true e g eg h eh k =
          let r = has.each.1.1.1.0 in
          by_row n _ f r e there (λ x q. of_row _ r x q (scalar_row 4 r.field kind.Bool r.of_cardinality r.of_sort (λ u z. cc) (λ z. cc)))
      at false ea false eb false ec false ed true e h eh k =
          let r = has.each.1.1.1.1.0 in
          by_row n _ f r e there
          (λ x q. of_row _ r x q (message_row 5 r.field r.of_sort.0 r.of_cardinality r.of_sort.1
          (either_holds _ forms.Struct refl (struct_form shape r.of_sort.0 r.of_sort.2)) (λ z. cc)))
      at false ea false eb false ec false ed false eg true e k =
          let r = has.each.1.1.1.1.1.0 in
          by_row n _ f r e there
          (λ x q. of_row _ r x q (message_row 6 r.field r.of_sort.0 r.of_cardinality r.of_sort.1
          (either_holds _ forms.ListValue refl (list_form shape r.of_sort.0 r.of_sort.2)) (λ z. cc)))
      at false ea false eb false ec false ed false eg false eh k = absurd (cc)
