-- What is gathered of the readings of all fields.
use Rattle.std.proofs.Common.{◌≡◌, ℕ, ◌||◌, List, [], ◌∷◌, Bool, true, false, ◌==◌, if◌then◌else◌, Option, Some, None, refl, ap, sym, ◌∙◌, arith}
use Rattle.std.proofs.lemmas.Bool.Decides.{nat_tests}
use Rattle.pbx_content.specs.Content.{Val, Fields, no_fields, get, IsAscending}
use Rattle.pbx_content.specs.declared.shape.FieldShape.{FieldShape}
use Rattle.pbx_json_meaning.specs.Stands.{Reading, put, with_reading, gathered}
use Rattle.pbx_json_laws.proofs.Numbers.{has_number}
use Rattle.pbx_json_laws.proofs.Parts.{of_some}
use Rattle.pbx_json_laws.proofs.Puts.{get-put, get-put_other, ascending_put, same_fields}

-- the same readings gather the same fields
pub gathered_along : (f g : ℕ → Reading) (fs : List FieldShape) → ((n : ℕ) → f n ≡ g n) → gathered f fs ≡ gathered g fs
gathered_along f g [] h = refl
gathered_along f g (x ∷ fs) h = rw (h x.number, gathered_along f g fs h) refl

-- one fault is a fault of all
pub gathered_fault : (f : ℕ → Reading) (n : ℕ) (fs : List FieldShape) → has_number n fs ≡ true → f n ≡ None → gathered f fs ≡ None
gathered_fault f n [] h bad = absurd (cc)
gathered_fault f n (x ∷ fs) h bad = at (x.number == n) refl h (λ later. gathered_fault f n fs later bad)
  where
    rest : (r : Reading) (o : Option Fields) → o ≡ None → with_reading x.number r o ≡ None
    rest None o e = refl
    rest (Some None) o e = e
    rest (Some (Some v)) o e = rw e refl

    at : (b : Bool) → (x.number == n) ≡ b → (b || has_number n fs) ≡ true → (has_number n fs ≡ true → gathered f fs ≡ None)
        → with_reading x.number (f x.number) (gathered f fs) ≡ None
    at true e here later = let same : x.number ≡ n = grind (arith, nat_tests) in rw (same, bad) refl
    at false e here later = rest (f x.number) (gathered f fs) (later here)

abbrev again : ℕ → Option Val → Fields → Fields
again n None fs = fs
again n (Some v) fs = put n v fs

-- the fields' values, gathered
abbrev rebuilt : Fields → List FieldShape → Fields
rebuilt found [] = no_fields
rebuilt found (x ∷ fs) = again x.number (get x.number found) (rebuilt found fs)

gathered-rebuilt : (found : Fields) (fs : List FieldShape) → gathered (λ n. Some (get n found)) fs ≡ Some (rebuilt found fs)
gathered-rebuilt found [] = refl
gathered-rebuilt found (x ∷ fs) = rw (gathered-rebuilt found fs) (at (get x.number found))
  where
    at : (o : Option Val) → with_reading x.number (Some o) (Some (rebuilt found fs)) ≡ Some (again x.number o (rebuilt found fs))
    at None = refl
    at (Some v) = refl

ascending_rebuilt : (found : Fields) (fs : List FieldShape) → IsAscending (rebuilt found fs)
ascending_rebuilt found [] = tt
ascending_rebuilt found (x ∷ fs) = at (get x.number found) (ascending_rebuilt found fs)
  where
    at : (o : Option Val) → IsAscending (rebuilt found fs) → IsAscending (again x.number o (rebuilt found fs))
    at None h = h
    at (Some v) h = ascending_put x.number v _ h

either : (b : Bool) (o : Option Val) → (if b then o else o) ≡ o
either true o = refl
either false o = refl

get-rebuilt : (found : Fields) (n : ℕ) (fs : List FieldShape) → get n (rebuilt found fs) ≡ (if has_number n fs then get n found else None)
get-rebuilt found n [] = refl
get-rebuilt found n (x ∷ fs) = at (get x.number found) (x.number == n) refl refl (get-rebuilt found n fs)
  where
    at : (o : Option Val) (b : Bool) → get x.number found ≡ o → (x.number == n) ≡ b
        → get n (rebuilt found fs) ≡ (if has_number n fs then get n found else None)
        → get n (again x.number o (rebuilt found fs)) ≡ (if b || has_number n fs then get n found else None)
    at None true e same ih =
        let eq : x.number ≡ n = grind (arith, nat_tests) in
        let none : get n found ≡ None = ap (λ k. get k found) (sym eq) ∙ e in
        ih ∙ rw none (either (has_number n fs) None)
    at None false e other ih = ih
    at (Some v) true e same ih =
        let eq : x.number ≡ n = grind (arith, nat_tests) in
        let value : get n found ≡ Some v = ap (λ k. get k found) (sym eq) ∙ e in
        rw (value, eq) (get-put n v (rebuilt found fs))
    at (Some v) false e other ih =
        let apart : (n == x.number) ≡ false = grind (arith, nat_tests) in
        get-put_other n x.number v (rebuilt found fs) apart ∙ ih

-- ascending fields whose numbers a type has are gathered from their own values
pub gathered_fields : (m : List FieldShape) (fs : Fields) → IsAscending fs → ((k : ℕ) → has_number k m ≡ false → get k fs ≡ None)
    → gathered (λ n. Some (get n fs)) m ≡ Some fs
gathered_fields m fs ascending known =
    gathered-rebuilt fs m ∙ ap (λ x. Some x) (same_fields _ _ (ascending_rebuilt fs m) ascending (λ k. get-rebuilt fs k m ∙ at k (has_number k m) refl))
  where
    at : (k : ℕ) (b : Bool) → has_number k m ≡ b → (if b then get k fs else None) ≡ get k fs
    at k true e = refl
    at k false e = sym (known k e)

-- what was gathered ascends
pub ascending_gathered : (says : ℕ → Reading) (fs : List FieldShape) (found : Fields) → gathered says fs ≡ Some found → IsAscending found
ascending_gathered says [] found h = let same : no_fields ≡ found = of_some no_fields found h in rw (← same) tt
ascending_gathered says (x ∷ fs) found h = at (says x.number) (gathered says fs) h (ascending_gathered says fs)
  where
    at : (r : Reading) (o : Option Fields) → with_reading x.number r o ≡ Some found → ((ys : Fields) → o ≡ Some ys → IsAscending ys) → IsAscending found
    at None o e ih = absurd (cc)
    at (Some None) o e ih = ih found e
    at (Some (Some v)) None e ih = absurd (cc)
    at (Some (Some v)) (Some ys) e ih =
        let same : put x.number v ys ≡ found = of_some _ _ e in
        rw (← same) (ascending_put x.number v ys (ih ys refl))

-- a value that was gathered is what was said for its number
pub said_for : (says : ℕ → Reading) (fs : List FieldShape) (found : Fields) → gathered says fs ≡ Some found → (n : ℕ) (v : Val) → get n found ≡ Some v
    → says n ≡ Some (Some v)
said_for says [] found h n v g =
    let same : no_fields ≡ found = of_some no_fields found h in
    let bad : get n no_fields ≡ Some v = ap (get n) same ∙ g in
    absurd (cc)
said_for says (x ∷ fs) found h n v g = at (says x.number) refl (gathered says fs) h (said_for says fs)
  where
    at : (r : Reading) → says x.number ≡ r → (o : Option Fields) → with_reading x.number r o ≡ Some found
        → ((ys : Fields) → o ≡ Some ys → (k : ℕ) (w : Val) → get k ys ≡ Some w → says k ≡ Some (Some w)) → says n ≡ Some (Some v)
    at None e o made ih = absurd (cc)
    at (Some None) e o made ih = ih found made n v g
    at (Some (Some w)) e None made ih = absurd (cc)
    at (Some (Some w)) e (Some ys) made ih =
        let same : put x.number w ys ≡ found = of_some _ _ made in
        here (n == x.number) refl (ap (get n) same ∙ g)
      where
        here : (b : Bool) → (n == x.number) ≡ b → get n (put x.number w ys) ≡ Some v → says n ≡ Some (Some v)
        here true b got =
            let eq : n ≡ x.number = grind (arith, nat_tests) in
            let value : Some w ≡ Some v = sym (get-put x.number w ys) ∙ ap (λ k. get k (put x.number w ys)) (sym eq) ∙ got in
            ap says eq ∙ e ∙ ap (λ y. Some y) value
        here false b got = ih ys refl n v (sym (get-put_other n x.number w ys b) ∙ got)

-- what is said for a number that a field has is the value that was gathered
pub gathered_at : (says : ℕ → Reading) (fs : List FieldShape) (found : Fields) → gathered says fs ≡ Some found → (n : ℕ) → has_number n fs ≡ true
    → says n ≡ Some (get n found)
gathered_at says [] found h n own = absurd (cc)
gathered_at says (x ∷ fs) found h n own = at (says x.number) refl (gathered says fs) refl h (x.number == n) refl own
    (λ ys e. gathered_at says fs ys e n) (λ v got. said_for says (x ∷ fs) found h n v got)
  where
    at : (r : Reading) → says x.number ≡ r → (o : Option Fields) → gathered says fs ≡ o → with_reading x.number r o ≡ Some found
        → (b : Bool) → (x.number == n) ≡ b → (b || has_number n fs) ≡ true
        → ((ys : Fields) → o ≡ Some ys → has_number n fs ≡ true → says n ≡ Some (get n ys))
        → ((v : Val) → get n found ≡ Some v → says n ≡ Some (Some v))
        → says n ≡ Some (get n found)
    at None e o p made b q own' ih said = absurd (cc)
    at (Some None) e o p made false q own' ih said = ih found made own'
    at (Some None) e o p made true q own' ih said =
        let same : x.number ≡ n = grind (arith, nat_tests) in
        let absent : says n ≡ Some None = ap says (sym same) ∙ e in
        nothing absent (get n found) refl
      where
        nothing : says n ≡ Some None → (v : Option Val) → get n found ≡ v → says n ≡ Some v
        nothing absent None g = absent
        nothing absent (Some v) g = said v g
    at (Some (Some w)) e None p made b q own' ih said = absurd (cc)
    at (Some (Some w)) e (Some ys) p made true q own' ih said =
        let same : x.number ≡ n = grind (arith, nat_tests) in
        let is : put x.number w ys ≡ found = of_some _ _ made in
        ap says (sym same) ∙ e ∙ ap (λ y. Some y) (sym (get-put x.number w ys) ∙ ap (λ fs. get x.number fs) is ∙ ap (λ k. get k found) same)
    at (Some (Some w)) e (Some ys) p made false q own' ih said =
        let is : put x.number w ys ≡ found = of_some _ _ made in
        let other : (n == x.number) ≡ false = grind (arith, nat_tests) in
        ih ys refl own' ∙ ap (λ y. Some y) (sym (get-put_other n x.number w ys other) ∙ ap (get n) is)
