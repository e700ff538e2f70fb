-- What is gathered for all fields of a type.
use Rattle.std.proofs.Common.{◌≡◌, ℕ, ◌||◌, List, [], ◌∷◌, Bool, true, false, ◌==◌, if◌then◌else◌, Option, Some, None, find, refl, ap, sym, ◌∙◌, arith}
use Rattle.std.specs.List.{list_any}
use Rattle.std.specs.Option.{option_or}
use Rattle.std.proofs.lemmas.Bool.Decides.{nat_tests}
use Rattle.pbx_content.specs.Content.{Val, Fields, no_fields, get, IsAscending}
use Rattle.pbx_content.specs.declared.shape.FieldShape.{FieldShape}
use Rattle.pbx_json_meaning.specs.Names.{field_named, json_name_is, name_is, extension_is}
use Rattle.pbx_json_meaning.specs.Stands.{Reading, put, with_reading, gathered}
use Rattle.pbx_json_walk.proofs.FieldsLemmas.{get-put, get-put_other}
use Rattle.pbx_json_walk.proofs.Extensional.{ascending_put}

-- the same readings gather the same fields
pub gathered_along : (f g : ℕ → Reading) (fs : List FieldShape) → ((n : ℕ) → f n ≡ g n) → gathered f fs ≡ gathered g fs
gathered_along f g [] h = refl
gathered_along f g (x ∷ fs) h = rw (h x.number, gathered_along f g fs h) refl

-- one fault is a fault of all
pub gathered_fault : (f : ℕ → Reading) (n : ℕ) (fs : List FieldShape) → list_any (λ x. x.number == n) fs ≡ true → f n ≡ None → gathered f fs ≡ None
gathered_fault f n [] h bad = absurd (cc)
gathered_fault f n (x ∷ fs) h bad = at (x.number == n) refl h (λ later. gathered_fault f n fs later bad)
  where
    rest : (r : Reading) (o : Option Fields) → o ≡ None → with_reading x.number r o ≡ None
    rest None o e = refl
    rest (Some None) o e = e
    rest (Some (Some v)) o e = rw e refl

    at : (b : Bool) → (x.number == n) ≡ b → (b || list_any (λ y. y.number == n) fs) ≡ true → (list_any (λ y. y.number == n) fs ≡ true → gathered f fs ≡ None) → with_reading x.number (f x.number) (gathered f fs) ≡ None
    at true e here later = let same : x.number ≡ n = grind (arith, nat_tests) in rw (same, bad) refl
    at false e here later = rest (f x.number) (gathered f fs) (later here)

abbrev pub again : ℕ → Option Val → Fields → Fields
again n None fs = fs
again n (Some v) fs = put n v fs

-- the fields' values, gathered
abbrev pub rebuilt : Fields → List FieldShape → Fields
rebuilt found [] = no_fields
rebuilt found (x ∷ fs) = again x.number (get x.number found) (rebuilt found fs)

pub gathered-rebuilt : (found : Fields) (fs : List FieldShape) → gathered (λ n. Some (get n found)) fs ≡ Some (rebuilt found fs)
gathered-rebuilt found [] = refl
gathered-rebuilt found (x ∷ fs) = rw (gathered-rebuilt found fs) (at (get x.number found))
  where
    at : (o : Option Val) → with_reading x.number (Some o) (Some (rebuilt found fs)) ≡ Some (again x.number o (rebuilt found fs))
    at None = refl
    at (Some v) = refl

pub ascending_rebuilt : (found : Fields) (fs : List FieldShape) → IsAscending (rebuilt found fs)
ascending_rebuilt found [] = tt
ascending_rebuilt found (x ∷ fs) = at (get x.number found) (ascending_rebuilt found fs)
  where
    at : (o : Option Val) → IsAscending (rebuilt found fs) → IsAscending (again x.number o (rebuilt found fs))
    at None h = h
    at (Some v) h = ascending_put x.number v _ h

either : (b : Bool) (o : Option Val) → (if b then o else o) ≡ o
either true o = refl
either false o = refl

pub get-rebuilt : (found : Fields) (n : ℕ) (fs : List FieldShape) → get n (rebuilt found fs) ≡ (if list_any (λ x. x.number == n) fs then get n found else None)
get-rebuilt found n [] = refl
get-rebuilt found n (x ∷ fs) = at (get x.number found) (x.number == n) refl refl (get-rebuilt found n fs)
  where
    at : (o : Option Val) (b : Bool) → get x.number found ≡ o → (x.number == n) ≡ b → get n (rebuilt found fs) ≡ (if list_any (λ y. y.number == n) fs then get n found else None)
        → get n (again x.number o (rebuilt found fs)) ≡ (if b || list_any (λ y. y.number == n) fs then get n found else None)
    at None true e same ih =
        let eq : x.number ≡ n = grind (arith, nat_tests) in
        let none : get n found ≡ None = ap (λ k. get k found) (sym eq) ∙ e in
        ih ∙ rw none (either (list_any (λ y. y.number == n) fs) None)
    at None false e other ih = ih
    at (Some v) true e same ih =
        let eq : x.number ≡ n = grind (arith, nat_tests) in
        let value : get n found ≡ Some v = ap (λ k. get k found) (sym eq) ∙ e in
        rw (value, eq) (get-put n v (rebuilt found fs))
    at (Some v) false e other ih =
        let apart : (n == x.number) ≡ false = grind (arith, nat_tests) in
        get-put_other n x.number v (rebuilt found fs) apart ∙ ih

find_any : (p : FieldShape → Bool) (fs : List FieldShape) (g : FieldShape) → find p fs ≡ Some g → list_any (λ x. x.number == g.number) fs ≡ true
find_any p [] g h = absurd (cc)
find_any p (x ∷ fs) g h = at (p x) h (find_any p fs g)
  where
    at : (b : Bool) → (if b then Some x else find p fs) ≡ Some g → (find p fs ≡ Some g → list_any (λ y. y.number == g.number) fs ≡ true) → ((x.number == g.number) || list_any (λ y. y.number == g.number) fs) ≡ true
    at true e later = let same : x ≡ g = cc in let here : (x.number == g.number) ≡ true = rw same (grind (arith, nat_tests)) in rw here refl
    at false e later = rw (later e) (or_true (x.number == g.number))
      where
        or_true : (b : Bool) → (b || true) ≡ true
        or_true true = refl
        or_true false = refl

pub known_number : (key : List ℕ) (m : List FieldShape) (g : FieldShape) → field_named key m ≡ Some g → list_any (λ x. x.number == g.number) m ≡ true
known_number key m g h = at (find (json_name_is key) m) (find (name_is key) m) refl refl h
  where
    at : (o q : Option FieldShape) → find (json_name_is key) m ≡ o → find (name_is key) m ≡ q → option_or o (option_or q (find (extension_is key) m)) ≡ Some g
        → list_any (λ x. x.number == g.number) m ≡ true
    at None None e r k = find_any (extension_is key) m g k
    at None (Some f) e r k = find_any (name_is key) m g (r ∙ k)
    at (Some f) q e r k = find_any (json_name_is key) m g (e ∙ k)

-- what is said for the field's own number
value_said : (says : ℕ → Reading) (n : ℕ) (v : Val) (x : FieldShape) → says n ≡ Some (Some v) → (x.number == n) ≡ true → says x.number ≡ Some (Some v)
value_said says n v x s e = let same : x.number ≡ n = grind (arith, nat_tests) in ap says same ∙ s

kept_at : (fs : List FieldShape) (x : FieldShape) (n : ℕ) (v : Val) (r : Reading) (o : Option Fields) (found : Fields) (b : Bool) → (x.number == n) ≡ b
    → (b || list_any (λ y. y.number == n) fs) ≡ true → ((x.number == n) ≡ true → r ≡ Some (Some v))
    → ((ys : Fields) → list_any (λ y. y.number == n) fs ≡ true → o ≡ Some ys → get n ys ≡ Some v) → with_reading x.number r o ≡ Some found → get n found ≡ Some v
kept_at fs x n v None o found b e h own ih g = absurd (cc)
kept_at fs x n v (Some None) o found true e h own ih g = let bad = own e in absurd (cc)
kept_at fs x n v (Some None) o found false e h own ih g = ih found h g
kept_at fs x n v (Some (Some w)) None found b e h own ih g = absurd (cc)
kept_at fs x n v (Some (Some w)) (Some ys) found true e h own ih g =
    let same : x.number ≡ n = grind (arith, nat_tests) in
    let is : Some (Some w) ≡ Some (Some v) = own e in
    let value : w ≡ v = cc in
    let made : put x.number w ys ≡ found = cc in
    ap (get n) (sym made) ∙ ap (λ k. get n (put k w ys)) same ∙ get-put n w ys ∙ ap Some value
kept_at fs x n v (Some (Some w)) (Some ys) found false e h own ih g =
    let made : put x.number w ys ≡ found = cc in
    let other : (n == x.number) ≡ false = grind (arith, nat_tests) in
    ap (get n) (sym made) ∙ get-put_other n x.number w ys other ∙ ih ys h refl

-- a value that is said for a field's number is gathered
pub value_kept : (says : ℕ → Reading) (n : ℕ) (v : Val) (fs : List FieldShape) (found : Fields) → list_any (λ x. x.number == n) fs ≡ true → says n ≡ Some (Some v)
    → gathered says fs ≡ Some found → get n found ≡ Some v
value_kept says n v [] found h s g = absurd (cc)
value_kept says n v (x ∷ fs) found h s g = kept_at fs x n v (says x.number) (gathered says fs) found (x.number == n) refl h (value_said says n v x s) (λ ys later made. value_kept says n v fs ys later s made) g
