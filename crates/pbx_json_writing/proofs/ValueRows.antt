-- Which fields a `Value` has, and of which forms the messages are that it holds.
use Rattle.std.proofs.Common.{◌≡◌, ℕ, suc, ◌+◌, ◌≤◌, List, [], ◌∷◌, length, Bool, true, false, ◌||◌, codes, if◌then◌else◌, Some, refl, sym, ap, subst, ◌∙◌, arith}
use Rattle.std.specs.Prelude.{◌==◌}
use Rattle.std.proofs.lemmas.Bool.Decides.{nat_tests}
use Rattle.pbx_content.specs.Shape.{declared_of, fields_of, field_of}
use Rattle.pbx_content.specs.declared.shape.Cardinality.TheVariants.{Singular}
use Rattle.pbx_content.specs.declared.shape.Kind.{Kind}
use Rattle.pbx_content.specs.declared.shape.Kind.TheVariants as kind
use Rattle.pbx_content.specs.declared.shape.Shape.{Shape}
use Rattle.pbx_content.specs.declared.shape.FieldShape.{FieldShape}
use Rattle.pbx_wkt_types.specs.Known.{Row, Known, google, known, known_of, struct_rows, list_rows}
use Rattle.pbx_wkt_types.specs.Shapes.{form_of, form_by, is_as_declared}
use Rattle.pbx_wkt_types.specs.Types.{message_name}
use Rattle.pbx_wkt_types.specs.declared.form.Form.{Form}
use Rattle.pbx_wkt_types.specs.declared.form.Form.TheVariants as forms
use Rattle.pbx_wkt_types.proofs.Declared.{HasRow}
use Rattle.pbx_wkt_types.proofs.Forms.{value_fields}
use Rattle.pbx_json_writing.proofs.OfFields.{field_of-by_number}

-- ---- six fields of six numbers are all of six

abbrev is_row_number : ℕ → Bool
is_row_number n = (n == 1) || (n == 2) || (n == 3) || (n == 4) || (n == 5) || (n == 6)

abbrev tally : ℕ → ℕ → ℕ
tally n m = if m == n then 1 else 0

abbrev other : ℕ → ℕ
other m = if is_row_number m then 0 else 1

-- how many fields have the number
abbrev count : ℕ → List FieldShape → ℕ
count n [] = 0
count n (g ∷ gs) = tally n g.number + count n gs

-- how many fields have another number than those of the rows
abbrev others : List FieldShape → ℕ
others [] = 0
others (g ∷ gs) = other g.number + others gs

same_number : (m n : ℕ) → (m == n) ≡ true → m ≡ n
same_number m n h = grind (arith, nat_tests)

pub turned : (m n : ℕ) → (m == n) ≡ true → (n == m) ≡ true
turned m n h = grind (arith, nat_tests)

abbrev One : ℕ → Type 0
One m = tally 1 m + tally 2 m + tally 3 m + tally 4 m + tally 5 m + tally 6 m + other m ≡ 1

one_of : (m : ℕ) → One m
one_of m = at (m == 1) refl (m == 2) refl (m == 3) refl (m == 4) refl (m == 5) refl (m == 6) refl
  where
    at : (a : Bool) → (m == 1) ≡ a → (b : Bool) → (m == 2) ≡ b → (c : Bool) → (m == 3) ≡ c → (d : Bool) → (m == 4) ≡ d
        → (e : Bool) → (m == 5) ≡ e → (f : Bool) → (m == 6) ≡ f → One m
    at true p b q c r d s e t f u = subst One (sym (same_number m 1 p)) refl
    at false p true q c r d s e t f u = subst One (sym (same_number m 2 q)) refl
    at false p false q true r d s e t f u = subst One (sym (same_number m 3 r)) refl
    at false p false q false r true s e t f u = subst One (sym (same_number m 4 s)) refl
    at false p false q false r false s true t f u = subst One (sym (same_number m 5 t)) refl
    at false p false q false r false s false t true u = subst One (sym (same_number m 6 u)) refl
    at false p false q false r false s false t false u = rw (p, q, r, s, t, u) refl

-- what holds of each of the six
by_row : (P : ℕ → Type 0) (n : ℕ) → is_row_number n ≡ true → P 1 → P 2 → P 3 → P 4 → P 5 → P 6 → P n
by_row P n h x1 x2 x3 x4 x5 x6 = at (n == 1) refl (n == 2) refl (n == 3) refl (n == 4) refl (n == 5) refl (n == 6) refl h
  where
    at : (a : Bool) → (n == 1) ≡ a → (b : Bool) → (n == 2) ≡ b → (c : Bool) → (n == 3) ≡ c → (d : Bool) → (n == 4) ≡ d
        → (e : Bool) → (n == 5) ≡ e → (f : Bool) → (n == 6) ≡ f → (a || b || c || d || e || f) ≡ true → P n
    at true p b q c r d s e t f u h = subst P (sym (same_number n 1 p)) x1
    at false p true q c r d s e t f u h = subst P (sym (same_number n 2 q)) x2
    at false p false q true r d s e t f u h = subst P (sym (same_number n 3 r)) x3
    at false p false q false r true s e t f u h = subst P (sym (same_number n 4 s)) x4
    at false p false q false r false s true t f u h = subst P (sym (same_number n 5 t)) x5
    at false p false q false r false s false t true u h = subst P (sym (same_number n 6 u)) x6
    at false p false q false r false s false t false u h = absurd cc

sums : (a b c d e f g s t u v w x y l : ℕ) → a + b + c + d + e + f + g ≡ 1 → s + t + u + v + w + x + y ≡ l
    → (a + s) + (b + t) + (c + u) + (d + v) + (e + w) + (f + x) + (g + y) ≡ suc l
sums a b c d e f g s t u v w x y l h k = omega arith

all_counted : (gs : List FieldShape) → count 1 gs + count 2 gs + count 3 gs + count 4 gs + count 5 gs + count 6 gs + others gs ≡ length gs
all_counted [] = refl
all_counted (g ∷ gs) =
    sums (tally 1 g.number) (tally 2 g.number) (tally 3 g.number) (tally 4 g.number) (tally 5 g.number) (tally 6 g.number) (other g.number)
    (count 1 gs) (count 2 gs) (count 3 gs) (count 4 gs) (count 5 gs) (count 6 gs) (others gs) (length gs) (one_of g.number) (all_counted gs)

more : (a b : ℕ) → 1 ≤ b → 1 ≤ a + b
more a b h = omega arith

first : (a b : ℕ) → a ≡ 1 → 1 ≤ a + b
first a b h = omega arith

found_counted : (n : ℕ) (gs : List FieldShape) (f : FieldShape) → field_of n gs ≡ Some f → 1 ≤ count n gs
found_counted n [] f h = absurd cc
found_counted n (g ∷ gs) f h = at (n == g.number) refl h (found_counted n gs f)
  where
    at : (b : Bool) → (n == g.number) ≡ b → (if b then Some g else field_of n gs) ≡ Some f → (field_of n gs ≡ Some f → 1 ≤ count n gs)
        → 1 ≤ tally n g.number + count n gs
    at true is e ih = first (tally n g.number) (count n gs) (ap (λ (b : Bool). if b then 1 else 0) (turned n g.number is))
    at false is e ih = more (tally n g.number) (count n gs) (ih e)

other_counted : (n : ℕ) (gs : List FieldShape) (f : FieldShape) → is_row_number n ≡ false → field_of n gs ≡ Some f → 1 ≤ others gs
other_counted n [] f none h = absurd cc
other_counted n (g ∷ gs) f none h = at (n == g.number) refl h (other_counted n gs f none)
  where
    at : (b : Bool) → (n == g.number) ≡ b → (if b then Some g else field_of n gs) ≡ Some f → (field_of n gs ≡ Some f → 1 ≤ others gs)
        → 1 ≤ other g.number + others gs
    at true is e ih =
        first (other g.number) (others gs) (ap (λ (b : Bool). if b then 0 else 1) (ap is_row_number (sym (same_number n g.number is)) ∙ none))
    at false is e ih = more (other g.number) (others gs) (ih e)

too_many : (a b c d e f g l : ℕ) → a + b + c + d + e + f + g ≡ l → l ≡ 6 → 1 ≤ a → 1 ≤ b → 1 ≤ c → 1 ≤ d → 1 ≤ e → 1 ≤ f → 1 ≤ g → ⊥
too_many a b c d e f g l h k p q r s t u v = absurd (omega arith)

-- ---- the forms of the messages that a `Value` holds

-- the forms that a type has by the name `Struct` or `ListValue`
abbrev pub is_held_form : Form → Bool
is_held_form forms.Struct = true
is_held_form forms.ListValue = true
is_held_form forms.Misshapen = true
is_held_form _ = false

struct_known : known_of (google (codes "Struct")) ≡ Some (known (codes "Struct") forms.Struct struct_rows)
unfolding known_of
struct_known = refl

list_known : known_of (google (codes "ListValue")) ≡ Some (known (codes "ListValue") forms.ListValue list_rows)
unfolding known_of
list_known = refl

form_named : (shape : Shape) (t : ℕ) (name : List ℕ) (k : Known) → message_name shape t ≡ name → known_of name ≡ Some k → is_held_form k.form ≡ true
    → is_held_form (form_of shape t) ≡ true
unfolding form_of
form_named shape t name k is listed held =
    ap (λ s. is_held_form (form_by shape t (known_of s))) is ∙ ap (λ o. is_held_form (form_by shape t o)) listed ∙ at (is_as_declared shape t k)
  where
    at : (b : Bool) → is_held_form (if b then k.form else forms.Misshapen) ≡ true
    at true = held
    at false = refl

-- ---- the fields

-- the field holds one value, and of messages only those that are written as arrays and objects
abbrev pub IsOfValue : Shape → FieldShape → Type 0
IsOfValue shape f = (f.cardinality ≡ Singular) × ((t : ℕ) → f.kind ≡ kind.Message t → is_held_form (form_of shape t) ≡ true)

module _ (shape : Shape) (t : ℕ) (is : form_of shape t ≡ forms.Value) where
  of_row : {r : Row} (h : HasRow shape t r) → r.cardinality ≡ Singular
      → ((u : ℕ) → h.field.kind ≡ kind.Message u → is_held_form (form_of shape u) ≡ true)
      → (f : FieldShape) → field_of r.number (fields_of shape t) ≡ Some f → IsOfValue shape f
  of_row h one held f found =
      let both : Some h.field ≡ Some f = sym h.there ∙ found in
      let same : h.field ≡ f = cc in
      subst (IsOfValue shape) same (h.of_cardinality ∙ one, held)

  of_scalar : (k l : Kind) (u : ℕ) → l ≡ k → (k ≡ kind.Message u → ⊥) → l ≡ kind.Message u → is_held_form (form_of shape u) ≡ true
  of_scalar k l u same other h = absurd (other (sym same ∙ h))

  of_message : (name : List ℕ) (k : Known) (l : Kind) (u v : ℕ) → l ≡ kind.Message v → message_name shape v ≡ name → known_of name ≡ Some k
      → is_held_form k.form ≡ true → l ≡ kind.Message u → is_held_form (form_of shape u) ≡ true
  of_message name k l u v own named listed held h =
      let both : kind.Message v ≡ kind.Message u = sym own ∙ h in
      let same : v ≡ u = cc in
      subst (λ w. is_held_form (form_of shape w) ≡ true) same (form_named shape v name k named listed held)

  at_row : (n : ℕ) → is_row_number n ≡ true → (f : FieldShape) → field_of n (fields_of shape t) ≡ Some f → IsOfValue shape f
  at_row n row =
      let has = (value_fields shape t is).each in
      by_row (λ m. (f : FieldShape) → field_of m (fields_of shape t) ≡ Some f → IsOfValue shape f) n row
      (of_row has.0 refl (λ u. of_scalar (kind.Enum has.0.of_sort.0) has.0.field.kind u has.0.of_sort.1 (λ e. absurd cc)))
      (of_row has.1.0 refl (λ u. of_scalar kind.Double has.1.0.field.kind u has.1.0.of_sort (λ e. absurd cc)))
      (of_row has.1.1.0 refl (λ u. of_scalar kind.String has.1.1.0.field.kind u has.1.1.0.of_sort (λ e. absurd cc)))
      (of_row has.1.1.1.0 refl (λ u. of_scalar kind.Bool has.1.1.1.0.field.kind u has.1.1.1.0.of_sort (λ e. absurd cc)))
      (of_row has.1.1.1.1.0 refl (λ u. of_message (google (codes "Struct")) (known (codes "Struct") forms.Struct struct_rows) has.1.1.1.1.0.field.kind u
      has.1.1.1.1.0.of_sort.0 has.1.1.1.1.0.of_sort.1 has.1.1.1.1.0.of_sort.2 struct_known refl))
      (of_row has.1.1.1.1.1.0 refl (λ u. of_message (google (codes "ListValue")) (known (codes "ListValue") forms.ListValue list_rows)
      has.1.1.1.1.1.0.field.kind u has.1.1.1.1.1.0.of_sort.0 has.1.1.1.1.1.0.of_sort.1 has.1.1.1.1.1.0.of_sort.2 list_known refl))

  counted : {r : Row} (h : HasRow shape t r) → 1 ≤ count r.number (declared_of shape t)
  counted {r} h =
      found_counted r.number (declared_of shape t) h.field (sym (field_of-by_number r.number (declared_of shape t)) ∙ h.there)

  no_other : (n : ℕ) (f : FieldShape) → is_row_number n ≡ false → field_of n (declared_of shape t) ≡ Some f → ⊥
  no_other n f none found =
      let has = value_fields shape t is in
      let each = has.each in
      let gs = declared_of shape t in
      too_many (count 1 gs) (count 2 gs) (count 3 gs) (count 4 gs) (count 5 gs) (count 6 gs) (others gs) (length gs) (all_counted gs) has.alone
      (counted each.0) (counted each.1.0) (counted each.1.1.0) (counted each.1.1.1.0) (counted each.1.1.1.1.0) (counted each.1.1.1.1.1.0)
      (other_counted n gs f none found)

  pub of_value : (n : ℕ) (f : FieldShape) → field_of n (fields_of shape t) ≡ Some f → IsOfValue shape f
  of_value n f found = at (is_row_number n) refl
    where
      at : (b : Bool) → is_row_number n ≡ b → IsOfValue shape f
      at true row = at_row n row f found
      at false none = absurd (no_other n f none (sym (field_of-by_number n (declared_of shape t)) ∙ found))
