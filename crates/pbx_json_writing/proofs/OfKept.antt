-- Messages that are not written: kept records of float fields.
use Rattle.std.proofs.Common.{◌≡◌, ℕ, ◌+◌, suc, ◌<◌, List, [], ◌∷◌, ◌++◌, map, length, take, drop, get_or, Bool, true, false, ◌||◌, ◌&&◌, if◌then◌else◌}
use Rattle.std.proofs.Common.{Some, None, refl, sym, ap, subst, ◌∙◌, arith}
use Rattle.std.specs.Prelude.{◌==◌}
use Rattle.std.specs.List.{list_any, IsDistinct, AllByRecursion}
use Rattle.std.specs.Str.{bytes_eq}
use Rattle.std.proofs.lemmas.Bool.Decides.{nat_tests}
use Rattle.std.proofs.lemmas.Map.Keys.{IsDistinct-head, IsDistinct-tail}
use Rattle.pbx_wire.specs.declared.rec.Rec.{Rec}
use Rattle.pbx_content.specs.Content as content
use Rattle.pbx_content.specs.Content.{Content, message, kept}
use Rattle.pbx_content.specs.Encoding.{type_of}
use Rattle.pbx_content.specs.Records.{number_of}
use Rattle.pbx_content.specs.Shape.{declared_of, field_of, is_float}
use Rattle.pbx_content.specs.declared.shape.Kind.{Kind}
use Rattle.pbx_content.specs.declared.shape.Shape.{Shape}
use Rattle.pbx_content.specs.declared.shape.FieldShape.{FieldShape}
use Rattle.pbx_json_meaning.specs.Forms.{is_object_type}
use Rattle.pbx_json_meaning.specs.Canonical.{keeps_float, is_kept_of, key_of_field}
use Rattle.pbx_json_meaning.specs.declared.kind.JsonKind.TheVariants as fault
use Rattle.pbx_json_meaning.specs.Canonical.{Writing}
use Rattle.pbx_json_meaning.specs.declared.place.Step.TheVariants.{Key}
use Rattle.pbx_json_writing.specs.Kinds.{is_float_number}
use Rattle.pbx_json_writing.specs.Refusals.{IsKeptFloat}
use Rattle.pbx_json_writing.proofs.Collected.{split_at, take_more}
use Rattle.pbx_json_writing.proofs.Entries.{same_bytes}
use Rattle.pbx_json_writing.proofs.OfFields.{broken_key}
use Rattle.pbx_json_writing.proofs.Refusing.{Stops}

any_field : (p : FieldShape → Bool) (n : ℕ) (gs : List FieldShape) (f : FieldShape) → field_of n gs ≡ Some f → p f ≡ true → list_any p gs ≡ true
any_field p n [] f found h = absurd (cc)
any_field p n (g ∷ gs) f found h = at (n == g.number) found (any_field p n gs f)
  where
    or_true : (a b : Bool) → b ≡ true → (a || b) ≡ true
    or_true true b e = refl
    or_true false b e = e

    at : (b : Bool) → (if b then Some g else field_of n gs) ≡ Some f → (field_of n gs ≡ Some f → p f ≡ true → list_any p gs ≡ true)
        → (p g || list_any p gs) ≡ true
    at true e ih = let same : g ≡ f = cc in rw (same, h) refl
    at false e ih = or_true (p g) (list_any p gs) (ih e h)

-- a field that is found has the number
field_number : (n : ℕ) (gs : List FieldShape) (f : FieldShape) → field_of n gs ≡ Some f → n ≡ f.number
field_number n [] f e = absurd (cc)
field_number n (g ∷ gs) f e = at (n == g.number) refl e (field_number n gs f)
  where
    at : (b : Bool) → (n == g.number) ≡ b → (if b then Some g else field_of n gs) ≡ Some f → (field_of n gs ≡ Some f → n ≡ f.number) → n ≡ f.number
    at true k h ih = let same : g ≡ f = cc in rw (← same) (grind (arith, nat_tests))
    at false k h ih = ih h

any_at : {X : Type 0} (p : X → Bool) (xs : List X) (x : X) (ys : List X) → p x ≡ true → list_any p (xs ++ x ∷ ys) ≡ true
any_at p [] x ys h = rw h refl
any_at p (z ∷ xs) x ys h = at (p z) (any_at p xs x ys h)
  where
    at : (b : Bool) → list_any p (xs ++ x ∷ ys) ≡ true → (b || list_any p (xs ++ x ∷ ys)) ≡ true
    at true ih = refl
    at false ih = ih

equal_numbers : (m n : ℕ) → m ≡ n → (m == n) ≡ true
equal_numbers m n e = grind (arith, nat_tests)

-- the field of a kept record is kept
pub kept_here : (gs : List FieldShape) (rs : List Rec) (i : ℕ) (r : Rec) (f : FieldShape) → i < length rs → r ≡ get_or rs i r
    → field_of (number_of r) gs ≡ Some f → is_float f.kind ≡ true → IsKeptFloat gs rs f
kept_here gs rs i r f within is found float =
    let own : number_of r ≡ f.number = field_number (number_of r) gs f found in (
      ap (λ n. field_of n gs) (sym own) ∙ found,
      float,
      subst (λ xs. is_kept_of xs f ≡ true) (sym (split_at rs i r within is))
          (any_at (λ x. number_of x == f.number) (take i rs) r (drop (suc i) rs) (equal_numbers (number_of r) f.number own)),
    )

-- ---- no kept record of a float field

abbrev pub numbers : List FieldShape → List ℕ
numbers gs = map (λ f. f.number) gs

no_number : (n : ℕ) (gs : List FieldShape) → AllByRecursion (λ m. (n == m) ≡ false) (numbers gs) → is_float_number gs n ≡ false
no_number n [] h = refl
no_number n (g ∷ gs) h = rw (h.0, no_number n gs h.1) (at (is_float g.kind))
  where
    at : (b : Bool) → ((b && false) || false) ≡ false
    at true = refl
    at false = refl

plain_number : (n : ℕ) (gs : List FieldShape) → IsDistinct (λ m k. m == k) (numbers gs) → ((f : FieldShape) → field_of n gs ≡ Some f → is_float f.kind ≡ false)
    → is_float_number gs n ≡ false
plain_number n [] distinct plain = refl
plain_number n (g ∷ gs) distinct plain =
    at (n == g.number) refl plain (plain_number n gs (IsDistinct-tail (λ m k. m == k) g.number (numbers gs) distinct))
  where
    apart : (n == g.number) ≡ true → is_float_number gs n ≡ false
    apart e =
        let same : g.number ≡ n = grind (arith, nat_tests) in
        no_number n gs (subst (λ m. AllByRecursion (λ k. (m == k) ≡ false) (numbers gs)) same
        (IsDistinct-head (λ m k. m == k) g.number (numbers gs) distinct))

    both_false : (b : Bool) → ((b && false) || false) ≡ false
    both_false true = refl
    both_false false = refl

    at : (b : Bool) → (n == g.number) ≡ b → ((f : FieldShape) → (if b then Some g else field_of n gs) ≡ Some f → is_float f.kind ≡ false)
        → (((f : FieldShape) → field_of n gs ≡ Some f → is_float f.kind ≡ false) → is_float_number gs n ≡ false)
        → ((is_float g.kind && b) || is_float_number gs n) ≡ false
    at true e h ih = rw (h g refl, apart e) refl
    at false e h ih = rw (ih h) (both_false (is_float g.kind))

-- the same by a look-up
pub plain_none : (n : ℕ) (gs : List FieldShape) → IsDistinct (λ m k. m == k) (numbers gs) → None ≡ field_of n gs → is_float_number gs n ≡ false
plain_none n gs distinct h = plain_number n gs distinct (λ f e. let both : None ≡ Some f = h ∙ e in absurd (cc))

pub plain_found : (n : ℕ) (gs : List FieldShape) (g : FieldShape) → IsDistinct (λ m k. m == k) (numbers gs) → Some g ≡ field_of n gs → is_float g.kind ≡ false
    → is_float_number gs n ≡ false
plain_found n gs g distinct h plain =
    plain_number n gs distinct (λ f e. let both : Some g ≡ Some f = h ∙ e in let same : g ≡ f = cc in rw (← same) plain)

keeps_more_in : (gs : List FieldShape) (rs : List Rec) (r : Rec) → keeps_float gs rs ≡ false → is_float_number gs (number_of r) ≡ false
    → keeps_float gs (rs ++ r ∷ []) ≡ false
keeps_more_in [] rs r h e = refl
keeps_more_in (g ∷ gs) rs r h e = at (is_float g.kind) (is_kept_of rs g) (number_of r == g.number) (kept_more rs) h e (keeps_more_in gs rs r)
  where
    kept_more : (xs : List Rec) → is_kept_of (xs ++ r ∷ []) g ≡ (is_kept_of xs g || (number_of r == g.number))
    kept_more [] = at (number_of r == g.number)
      where
        at : (b : Bool) → (b || false) ≡ b
        at true = refl
        at false = refl
    kept_more (x ∷ xs) = ap (λ b. (number_of x == g.number) || b) (kept_more xs) ∙ assoc (number_of x == g.number) _ _
      where
        assoc : (a b c : Bool) → (a || (b || c)) ≡ ((a || b) || c)
        assoc true b c = refl
        assoc false b c = refl

    at : (a b c : Bool) → is_kept_of (rs ++ r ∷ []) g ≡ (b || c) → ((a && b) || keeps_float gs rs) ≡ false
        → ((a && c) || is_float_number gs (number_of r)) ≡ false
        → (keeps_float gs rs ≡ false → is_float_number gs (number_of r) ≡ false → keeps_float gs (rs ++ r ∷ []) ≡ false)
        → ((a && is_kept_of (rs ++ r ∷ []) g) || keeps_float gs (rs ++ r ∷ [])) ≡ false
    at true true c k h e ih = absurd (cc)
    at true false true k h e ih = absurd (cc)
    at true false false k h e ih = rw (k, ih h e) refl
    at false b c k h e ih = ih h e

pub keeps_more : (gs : List FieldShape) (rs : List Rec) (i : ℕ) (r : Rec) → i < length rs → r ≡ get_or rs i r → keeps_float gs (take i rs) ≡ false
    → is_float_number gs (number_of r) ≡ false → keeps_float gs (take (i + 1) rs) ≡ false
keeps_more gs rs i r within is h e = ap (keeps_float gs) (take_more rs i r within is) ∙ keeps_more_in gs (take i rs) r h e

pub keeps_none : (gs : List FieldShape) → keeps_float gs [] ≡ false
keeps_none [] = refl
keeps_none (g ∷ gs) = at (is_float g.kind) (keeps_none gs)
  where
    at : (b : Bool) → keeps_float gs [] ≡ false → ((b && false) || keeps_float gs []) ≡ false
    at true ih = ih
    at false ih = ih

-- ---- what is refused

-- there is a kept record of a float field
pub keeps : (gs : List FieldShape) (rs : List Rec) (f : FieldShape) → IsKeptFloat gs rs f → keeps_float gs rs ≡ true
keeps gs rs f h = any_field (λ g. is_float g.kind && is_kept_of rs g) f.number gs f h.0 (rw (h.1, h.2) refl)

module _ (shape : Shape) (o : Writing) (k : Kind) where
  pub float_stops : (c : Content) (f : FieldShape) → is_object_type shape (type_of k) ≡ true
      → IsKeptFloat (declared_of shape (type_of k)) (kept c) f → Stops shape o (message c) k fault.Float (Key (key_of_field o f) ∷ [])
  float_stops (content.content fs ks) f plain h =
      let gs : List FieldShape = declared_of shape (type_of k) in
      let breaks : list_any (λ g. is_float g.kind && is_kept_of ks g && bytes_eq (key_of_field o g) (key_of_field o f)) gs ≡ true =
      any_field (λ g. is_float g.kind && is_kept_of ks g && bytes_eq (key_of_field o g) (key_of_field o f)) f.number gs f h.0
      (rw (h.1, h.2, same_bytes (key_of_field o f)) refl) in
      (rw (plain, keeps gs ks f h) refl, λ is. broken_key shape o k (content.content fs ks) (key_of_field o f) fault.Float plain breaks)
